use Rattle.std.proofs.Common.{◌≡◌, ℕ, subst, arith}
use Rattle.std.specs.Prelude.{IfOk}
use Rattle.cat_image.specs.inside.Typed.{listed}
use Rattle.cat_image.proofs.typed.type_text.Goals as goal

pub returns : goal.returns
returns c =
    let none : 0 ≡ c.args.lists = omega (arith, c.if-lists-gt0.false) in
    subst (λ (n : ℕ). IfOk c.shared.result (λ text. text ≡ listed n c.args.name.now)) none c.shared.ensures
