use Rattle.std.proofs.Common.{List, Err, sym, subst}
use Rattle.std.proofs.lemmas.Result.{err_from_is_err_and}
use Rattle.std.specs.Prelude.{[]}
use Rattle.cat_names.specs.Definitions.{condition_meant}
use Rattle.cat_names.specs.Found.{Found, Tells}
use Rattle.cat_names.specs.Lines.{Line, all_lines, use_lines}
use Rattle.cat_check_forms.specs.Tabled.{names_at}
use Rattle.cat_check_exprs.specs.declared.said.Said.{Said}
use Rattle.cat_check_exprs.specs.Saying.{behind}
use Rattle.cat_check_exprs.specs.inside.Conditions.{condition_found}
use Rattle.cat_check_exprs.proofs.LinesGathered.{block_is, gather_off}
use Rattle.cat_check_exprs.proofs.blocks.add_block.Goals as goal

pub returns-in_err-add_shared : goal.returns-in_err-add_shared
returns-in_err-add_shared c =
    let p = err_from_is_err_and c.from_residual.result c.from_residual.ensures.1 in
    let a = c.args in
    let ns = names_at a.here.now in
    let b = a.block.now in
    let e = c.in_err-add_shared.field-0.0 in
    let lines = all_lines (use_lines ns a.here.now.scope b.condition) b.uses in
    let told = subst (λ (found : Found (List Line)). Tells {A = Said} (Err e) (behind a.said.now found))
    (sym (block_is (condition_meant ns b.condition []) lines))
    (gather_off a.said.now (condition_found ns b.condition) lines e c.in_err-add_shared.ensures.added) in
    record { told = rw (p.1, p.2) told }
