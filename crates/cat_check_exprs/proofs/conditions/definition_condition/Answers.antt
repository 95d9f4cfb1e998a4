use Rattle.std.proofs.lemmas.Result.{err_from_is_err_and}
use Rattle.cat_check_forms.specs.Tabled.{names_at}
use Rattle.cat_check_exprs.proofs.Sharing.{whole_is, whole_off}
use Rattle.cat_check_exprs.proofs.conditions.definition_condition.Goals as goal

pub returns-in_err-block-clause-told : goal.returns-in_err-block-clause-told
returns-in_err-block-clause-told c =
    let p = err_from_is_err_and c.from_residual.result c.from_residual.ensures.1 in
    let a = c.args in
    rw (p.1, p.2) (whole_off (names_at a.here.now) a.block.now a.own.now a.params.now a.types.now c.in_err-block.field-0.0
    c.in_err-block.ensures.told)

pub returns-clause-told : goal.returns-clause-told
returns-clause-told c =
    let a = c.args in
    whole_is (names_at a.here.now) a.block.now a.own.now a.params.now a.types.now c.in_ok-block.block
    c.own_condition.result c.in_ok-block.ensures.told c.own_condition.ensures
