-- The default of a type is one of its values.
use Rattle.std.proofs.Common.{◌≡◌, ℕ, zero, suc, ◌<◌, ◌≤◌, IsTrue, List, [], ◌∷◌, Option, None, Some, slice_get, rules}
use Rattle.std.proofs.Common.{arith, refl, sub-one}
use Rattle.std.specs.List.{list_all}
use Rattle.cat_num.specs.Frac.{gcd}
use Rattle.cat_value.specs.declared.ty.Ty.{Ty}
use Rattle.cat_value.specs.declared.ty.Ty.TheVariants as flat_ty
use Rattle.cat_value.specs.declared.ty.Ty.TheViews as ty
use Rattle.cat_value.specs.declared.declaration.Field.{Field}
use Rattle.cat_value.specs.declared.declaration.Structure.{Structure}
use Rattle.cat_value.specs.declared.declaration.Case.{Case}
use Rattle.cat_value.specs.declared.declaration.Enumeration.{Enumeration}
use Rattle.cat_value.specs.declared.decls.Decls.{Decls}
use Rattle.cat_value.specs.Declarations.{field_is_sound}
use Rattle.cat_value.specs.Heights.{height_to, highest_field}
use Rattle.cat_value.specs.Typing.{has_type, is_type, fields_have_types}
use Rattle.cat_value.specs.Defaults.{default_to, default_of, default_fields}
use Rattle.cat_value.proofs.Equations.{typing, is_declared_List, has_type_Structure, has_type_Case}
use Rattle.cat_value.proofs.DefaultEquations.{defaults, default_Structure, default_Enumeration_None}
use Rattle.cat_value.proofs.DefaultEquations.{default_Enumeration_Some}
use Rattle.cat_value.proofs.Descending.{height_positive, fields_lower, content_lower, fields_declared, has_cases}
use Rattle.cat_value.proofs.Descending.{content_declared, structure_there, enumeration_there, structure_low}
use Rattle.cat_value.proofs.Descending.{enumeration_low, found}
use Rattle.cat_value.proofs.Induction.{type_induction}

one_is_prime_to_zero : gcd 0 1 ≡ 1
unfolding gcd
one_is_prime_to_zero = refl

typed_Boolean : (ds : Decls) (k : ℕ) → 0 < k → IsTrue (has_type ds (default_to ds k flat_ty.Boolean) flat_ty.Boolean)
typed_Boolean ds k h = search (rules, typing, defaults, ty.the_lemmas)

typed_Integer : (ds : Decls) (k : ℕ) → 0 < k → IsTrue (has_type ds (default_to ds k flat_ty.Integer) flat_ty.Integer)
typed_Integer ds k h = search (rules, typing, defaults, ty.the_lemmas)

typed_Decimal : (ds : Decls) (k : ℕ) → 0 < k → IsTrue (has_type ds (default_to ds k flat_ty.Decimal) flat_ty.Decimal)
typed_Decimal ds k h = search (rules, typing, defaults, ty.the_lemmas, one_is_prime_to_zero)

typed_Money : (ds : Decls) (k : ℕ) → 0 < k → IsTrue (has_type ds (default_to ds k flat_ty.Money) flat_ty.Money)
typed_Money ds k h = search (rules, typing, defaults, ty.the_lemmas)

typed_Date : (ds : Decls) (k : ℕ) → 0 < k → IsTrue (has_type ds (default_to ds k flat_ty.Date) flat_ty.Date)
typed_Date ds k h = search (rules, typing, defaults, ty.the_lemmas)

typed_Duration : (ds : Decls) (k : ℕ) → 0 < k → IsTrue (has_type ds (default_to ds k flat_ty.Duration) flat_ty.Duration)
typed_Duration ds k h = search (rules, typing, defaults, ty.the_lemmas)

typed_List : (ds : Decls) (k : ℕ) (t : Ty) → 0 < k → IsTrue (is_type ds t)
    → IsTrue (has_type ds (default_to ds k (ty.List t)) (ty.List t))
typed_List ds k t h d = search (rules, typing, defaults, ty.the_lemmas)

element_declared : (ds : Decls) (t : Ty) → IsTrue (is_type ds (ty.List t)) → IsTrue (is_type ds t)
element_declared ds t d = rw is_declared_List at d

-- the defaults of types that are at most k high are typed
abbrev AreTyped : Decls → ℕ → Type 0
AreTyped ds k = (t : Ty) → IsTrue (is_type ds t) → height_to ds.structures ds.enumerations k t ≤ k
    → IsTrue (has_type ds (default_to ds k t) t)

fields_typed : (ds : Decls) (k : ℕ) → AreTyped ds k → (fs : List Field)
    → IsTrue (list_all (field_is_sound ds.structures ds.enumerations) fs)
    → highest_field (height_to ds.structures ds.enumerations k) fs ≤ k
    → IsTrue (fields_have_types ds (default_fields (default_to ds k) fs) fs)
fields_typed ds k typed [] d h = refl
fields_typed ds k typed (f ∷ fs) d h =
    let first = typed f.ty (grind arith) (grind arith) in
    let rest = fields_typed ds k typed fs (grind arith) (grind arith) in
    grind arith

structure_typed : (ds : Decls) (k n : ℕ) (s : Structure) → AreTyped ds k → slice_get ds.structures n ≡ Some s
    → height_to ds.structures ds.enumerations (suc k) (flat_ty.Structure n) ≤ suc k
    → IsTrue (has_type ds (default_to ds (suc k) (flat_ty.Structure n)) (flat_ty.Structure n))
structure_typed ds k n s typed e h =
    let parts = fields_typed ds k typed s.fields (fields_declared ds n s e)
    (rw sub-one at (fields_lower ds.structures ds.enumerations (suc k) n s h e)) in
    rw (
      default_Structure ds (suc k) n s (omega arith) e,
      sub-one,
      has_type_Structure ds (default_fields (default_to ds k) s.fields) n,
      e,
    ) parts

enumeration_typed : (ds : Decls) (k n : ℕ) (d : Enumeration) (c : Case) → AreTyped ds k → slice_get ds.enumerations n
    ≡ Some d → slice_get d.cases 0 ≡ Some c
    → height_to ds.structures ds.enumerations (suc k) (flat_ty.Enumeration n) ≤ suc k
    → IsTrue (has_type ds (default_to ds (suc k) (flat_ty.Enumeration n)) (flat_ty.Enumeration n))
enumeration_typed ds k n d c typed e f h = by c.content refl
  where
    by : (content : Option Ty) → c.content ≡ content
        → IsTrue (has_type ds (default_to ds (suc k) (flat_ty.Enumeration n)) (flat_ty.Enumeration n))
    by None g = rw (default_Enumeration_None ds (suc k) n d c (omega arith) e f g, has_type_Case ds 0 None n, e, f, g)
        refl
    by (Some t) g =
        let part = typed t (content_declared ds n 0 d c t e f g)
        (rw sub-one at (content_lower ds.structures ds.enumerations (suc k) n d c t h e f g)) in
        rw (
          default_Enumeration_Some ds (suc k) n d c t (omega arith) e f g,
          sub-one,
          has_type_Case ds 0 (Some (default_to ds k t)) n,
          e,
          f,
          g,
        ) part

pub default_typed : (ds : Decls) (k : ℕ) → AreTyped ds k
default_typed ds zero = λ t d h. absurd (omega (arith, height_positive ds.structures ds.enumerations zero t))
default_typed ds (suc k) =
    type_induction (λ (t : Ty). IsTrue (is_type ds t) → height_to ds.structures ds.enumerations (suc k) t ≤ suc k
    → IsTrue (has_type ds (default_to ds (suc k) t) t))
    (λ d h. typed_Boolean ds (suc k) (omega arith)) (λ d h. typed_Integer ds (suc k) (omega arith))
    (λ d h. typed_Decimal ds (suc k) (omega arith))
    (λ d h. typed_Money ds (suc k) (omega arith)) (λ d h. typed_Date ds (suc k) (omega arith))
    (λ d h. typed_Duration ds (suc k) (omega arith))
    (λ t r d h. typed_List ds (suc k) t (omega arith) (element_declared ds t d))
    (λ n d h. let s = found ds.structures n (structure_there ds n d) in structure_typed ds k n s.0 (default_typed ds k)
    s.1 h)
    (λ n d h. let e = found ds.enumerations n (enumeration_there ds n d) in let c =
    found e.0.cases 0 (has_cases ds n e.0 e.1) in enumeration_typed ds k n e.0 c.0 (default_typed ds k) e.1 c.1 h)

pub default_of_typed : (ds : Decls) (t : Ty) → IsTrue (is_type ds t) → IsTrue (has_type ds (default_of ds t) t)
default_of_typed ds =
    type_induction (λ (t : Ty). IsTrue (is_type ds t) → IsTrue (has_type ds (default_of ds t) t))
    (λ d. typed_Boolean ds 64 (omega arith)) (λ d. typed_Integer ds 64 (omega arith))
    (λ d. typed_Decimal ds 64 (omega arith))
    (λ d. typed_Money ds 64 (omega arith)) (λ d. typed_Date ds 64 (omega arith))
    (λ d. typed_Duration ds 64 (omega arith))
    (λ t r d. typed_List ds 64 t (omega arith) (element_declared ds t d))
    (λ n d. default_typed ds 64 (flat_ty.Structure n) d (structure_low ds n (structure_there ds n d)))
    (λ n d. default_typed ds 64 (flat_ty.Enumeration n) d (enumeration_low ds n (enumeration_there ds n d)))
