use Rattle.std.proofs.Common.{◌≡◌, ◌∙◌, ◌+◌, ℕ, min, nat_le, nat_lt, ap, arith}
use Rattle.std.proofs.lemmas.Bool.Decides.{nat_tests}
use Rattle.cat_value.specs.Declarations.{highest}
use Rattle.cat_value.specs.Laws.{height_of}
use Rattle.cat_value.specs.declared.ty.Ty.TheViews as ty
use Rattle.cat_value.proofs.Exported.{list_height}
use Rattle.cat_check_forms.proofs.heights.is_list_low.Goals as goal

-- a list is one higher than its elements
list_low : (part whole : ℕ) → whole ≡ min 65 (1 + part) → nat_lt part 64 ≡ nat_le whole 64
list_low part whole h = grind (arith, nat_tests, h)

pub returns : goal.returns
returns c =
    let ds = c.args.here.now.decls.now in
    ap (λ (n : ℕ). nat_lt n highest) c.height-height.ensures
    ∙ list_low (height_of ds c.args.element.now) (height_of ds (ty.List c.args.element.now))
    (list_height ds.structures ds.enumerations highest c.args.element.now)
