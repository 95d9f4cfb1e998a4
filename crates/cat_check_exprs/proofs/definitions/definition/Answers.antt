use Rattle.std.proofs.Common.{Err, List, Ok, Option, Some, subst}
use Rattle.std.proofs.lemmas.Result.{err_from_is_err_and}
use Rattle.cat_tree.specs.declared.name.Name.{Name}
use Rattle.cat_scope.specs.declared.expr.Expr.{Expr}
use Rattle.cat_names.specs.declared.typed.Typed.{Typed}
use Rattle.cat_names.specs.Aims.{Aim, aim_of}
use Rattle.cat_names.specs.Definitions.{def_of, named_params, whole_condition}
use Rattle.cat_names.specs.Found.{Tells}
use Rattle.cat_names.specs.Meaning.{meant}
use Rattle.cat_check_forms.specs.Tabled.{names_at}
use Rattle.cat_check_exprs.specs.Aimed.{aim_lent}
use Rattle.cat_check_exprs.proofs.LineExits.{first_behind, second_behind}
use Rattle.cat_check_exprs.proofs.definitions.definition.Goals as goal

pub returns-in_err-value-clause-told : goal.returns-in_err-value-clause-told
returns-in_err-value-clause-told c =
    let p = err_from_is_err_and c.from_residual-in_err-value.result c.from_residual-in_err-value.ensures.1 in
    let a = c.args in
    let ns = names_at a.here.now in
    let t = a.target.now in
    let aim = aim_lent c.in_ok-aim.aim in
    let e = c.in_err-value.field-0.0 in
    let exit : Tells {A = Typed} (Err e) (meant ns a.value.now (named_params t.params aim.params) (Some aim.ty)) =
    subst (λ (ws : List Name). Tells {A = Typed} (Err e) (meant ns a.value.now (named_params ws aim.params)
    (Some aim.ty))) c.as_slice-params.ensures c.in_err-value.ensures in
    let told = second_behind {A = Aim} e (aim_of ns a.here.now.scope t) aim
    (λ aim. whole_condition ns a.block.now a.condition.now t.params aim.params)
    (λ aim. meant ns a.value.now (named_params t.params aim.params) (Some aim.ty))
    (λ aim condition x. Ok (def_of a.lead.now a.place aim condition x.expr)) c.in_ok-aim.ensures.told exit in
    rw (p.1, p.2) told

pub returns-in_err-condition-clause-told : goal.returns-in_err-condition-clause-told
returns-in_err-condition-clause-told c =
    let p = err_from_is_err_and c.from_residual-in_err-condition.result c.from_residual-in_err-condition.ensures.1 in
    let a = c.args in
    let ns = names_at a.here.now in
    let t = a.target.now in
    let aim = aim_lent c.in_ok-aim.aim in
    let e = c.in_err-condition.field-0.0 in
    let exit : Tells {A = Option Expr} (Err e) (whole_condition ns a.block.now a.condition.now t.params aim.params) =
    subst (λ (ws : List Name). Tells {A = Option Expr} (Err e) (whole_condition ns a.block.now a.condition.now ws
    aim.params)) c.as_slice-params.ensures c.in_err-condition.ensures.told in
    let told = first_behind {A = Aim} e (aim_of ns a.here.now.scope t) aim
    (λ aim. whole_condition ns a.block.now a.condition.now t.params aim.params)
    (λ aim. meant ns a.value.now (named_params t.params aim.params) (Some aim.ty))
    (λ aim condition x. Ok (def_of a.lead.now a.place aim condition x.expr)) c.in_ok-aim.ensures.told exit in
    rw (p.1, p.2) told
