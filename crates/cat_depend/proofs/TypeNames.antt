-- What each form of type names, and what it says of its numbers that they are declared.
use Rattle.std.proofs.Common.{◌≡◌, ◌∙◌, ℕ, ◌<◌, IsTrue, List, length, subst, sym, arith}
use Rattle.std.proofs.lemmas.Bool.Decides.{nat_tests}
use Rattle.std.proofs.lemmas.List.{append_assoc, append-nil}
use Rattle.cat_value.specs.declared.ty.Ty.{Ty}
use Rattle.cat_value.specs.declared.ty.Ty.TheVariants as flat
use Rattle.cat_value.specs.declared.ty.Ty.TheViews as ty
use Rattle.cat_value.specs.declared.declaration.Structure.{Structure}
use Rattle.cat_value.specs.declared.declaration.Enumeration.{Enumeration}
use Rattle.cat_value.specs.Declarations.{is_declared}
use Rattle.cat_value.proofs.Exported.{naming, is_declared_Enumeration, is_declared_List}

pub element_declared : (ss : List Structure) (es : List Enumeration) (u t e : Ty) → t ≡ ty.List e → u ≡ e
    → IsTrue (is_declared ss es t) → IsTrue (is_declared ss es u)
element_declared ss es u t e is same h = subst (λ x. IsTrue (is_declared ss es x)) (sym same)
    (sym (is_declared_List ss es e) ∙ subst (λ x. IsTrue (is_declared ss es x)) is h)

pub enumeration_within : (ss : List Structure) (es : List Enumeration) (n : ℕ)
    → IsTrue (is_declared ss es (flat.Enumeration n)) → n < length es
enumeration_within ss es n h = let e = is_declared_Enumeration ss es n in grind (arith, nat_tests)

pub ruleset named_types = (naming, enumeration_within, append_assoc, append-nil)
