use Rattle.cat_audit.proofs.BackLemmas.{shown_back}
use Rattle.cat_audit.proofs.lines.shown.Goals as goal

pub returns-clause-back : goal.returns-clause-back
returns-clause-back c o =
    shown_back c.args.decls.now c.args.scope c.args.input.now o c.input_text.result c.input_text.ensures.written
    c.input_text.ensures.read_back
