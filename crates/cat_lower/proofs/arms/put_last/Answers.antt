use Rattle.std.proofs.Common.{◌≡◌, ◌∙◌, ap}
use Rattle.cat_value.specs.declared.ty.Ty.{Ty}
use Rattle.cat_value.specs.declared.value.Value.{Value}
use Rattle.cat_value.specs.Defaults.{default_of}
use Rattle.cat_lower.specs.Pieces.{constant}
use Rattle.cat_lower.proofs.Grows.{then_ok, same_code}
use Rattle.cat_lower.proofs.arms.put_last.Goals as goal

pub returns : goal.returns
returns c =
    let copied = c.in_ok-copy_ty.field-0 in
    let told : constant copied c.in_ok-value.value
    ≡ constant c.args.ty.now (default_of c.args.here.now.decls.now c.args.ty.now) =
    ap (λ (t : Ty). constant t c.in_ok-value.value) c.in_ok-copy_ty.ensures
    ∙ ap (λ (v : Value). constant c.args.ty.now v) c.in_ok-value.ensures in
    then_ok _ _ _ _ _ _ (same_code _ _ _ _ told c.in_ok-put_constant.ensures) c.put.ensures
