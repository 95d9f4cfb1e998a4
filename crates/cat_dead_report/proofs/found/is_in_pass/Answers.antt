use Rattle.std.proofs.Common.{◌∙◌, sym, ap}
use Rattle.cat_audit.specs.Hanging.{asks_derived}
use Rattle.cat_dead_report.specs.inside.Hanging.{hang_somewhere}
use Rattle.cat_dead_report.proofs.WonLemmas.{any_reversed, apart}
use Rattle.cat_dead_report.proofs.found.is_in_pass.Goals as goal

pub returns : goal.returns
returns c = λ off same.
    apart c.hang_somewhere.result c.args.derived off
    (c.hang_somewhere.ensures ∙ sym (any_reversed (asks_derived c.args.table.now) c.answers.result.now)
    ∙ ap (hang_somewhere c.args.table.now) (sym c.answers.ensures) ∙ same)
