use Rattle.std.proofs.Common.{◌≡◌, ◌∙◌, ◌++◌, slice_get, ap, codes, string_bytes}
use Rattle.cat_guard.specs.Judged.{judged_in}
use Rattle.cat_table.specs.Results.{verdict_text}
use Rattle.cat_table.specs.inside.Here.{naming_at}
use Rattle.cat_table.proofs.RowLemmas.{if_ok, row_made}
use Rattle.cat_table.proofs.TableLemmas.{at_some, if_some}
use Rattle.cat_table.proofs.WalkLemmas.{judged_on}
use Rattle.cat_table.proofs.lines.row_text.Goals as goal

pub returns : goal.returns
returns c =
    let here = c.args.here.now in
    let table = here.table.now in
    let region = c.args.region.now in
    let conditions = string_bytes c.in_ok-conditions.conditions in
    let verdict = string_bytes c.in_ok-verdict.verdict in
    if_some (slice_get table.targets c.args.target) (λ t is.
    if_ok c.joined.result c.joined.ensures (λ text made.
    row_made (naming_at here) table t c.args.way.now c.answers.result.now region conditions verdict (string_bytes text)
    c.answers.ensures
    (judged_on table.terms table.atoms c.args.way.now region t c.requires.dims c.requires.narrowings)
    c.in_ok-conditions.ensures
    (at_some (λ t. verdict ≡ verdict_text (naming_at here) t (judged_in table.atoms region t))
    (slice_get table.targets c.args.target) t is c.in_ok-verdict.ensures)
    (made ∙ ap (λ said. said ++ (codes " : " ++ c.as_str-2.result.now)) c.as_str.ensures.value
    ∙ ap (λ said. conditions ++ (codes " : " ++ said)) c.as_str-2.ensures.value)))
