use Rattle.cat_laws.proofs.Answered.{over_certified}
use Rattle.cat_laws.proofs.TableNames.{named_in_lines}
use Rattle.cat_laws.proofs.recheck.what_is_written_over_is_certified.Goals as goal

pub returns : goal.returns
returns c scope bytes text named over =
    let program = c.args.program.now in
    over_certified program scope bytes text over
    (c.what_is_written_over_is_certified_again.ensures scope bytes text (named_in_lines program.decls named) over)
