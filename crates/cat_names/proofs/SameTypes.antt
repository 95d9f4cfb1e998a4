-- Two types are one exactly where `same` tells so; and what the words on types tell of a type.
use Rattle.std.proofs.Common.{◌↔◌, true, false, refl, ◌≡◌, ℕ, Bool, IsTrue, Some, sym, ap, ◌∙◌, subst, arith}
use Rattle.std.proofs.Common.{true≢false}
use Rattle.cat_value.specs.declared.ty.Ty.{Ty}
use Rattle.cat_value.specs.declared.ty.Ty.TheOpen.{Ty-F}
use Rattle.cat_value.specs.declared.ty.Ty.TheFolds.{map-Ty, ind-Ty}
use Rattle.cat_value.specs.declared.ty.Ty.TheVariants as flat_ty
use Rattle.cat_value.specs.declared.ty.Ty.TheViews as ty
use Rattle.cat_value.specs.declared.ty.Ty.TheViews.{out-Ty, roll-Ty}
use Rattle.cat_names.specs.declared.typed.Flat.{Flat}
use Rattle.cat_names.specs.declared.typed.Flat.TheVariants as flat
use Rattle.cat_names.specs.Types.{same, same_level, element_of, element_in, structure_of, structure_in, enumeration_of}
use Rattle.cat_names.specs.Types.{enumeration_in, flat_of, flat_in, whole}
use Rattle.cat_names.proofs.TypeEquations.{same_at, element_level, structure_level, enumeration_level, flat_level}

-- levels that agree, where parts that agree are the same
abbrev Agrees : Ty → Type 0
Agrees a = (b : Ty) → IsTrue (same a b) → a ≡ b

by_level : (y : Ty-F ((t : Ty) × Agrees t)) (b : Ty) (z : Ty-F Ty) → roll-Ty z ≡ b
    → IsTrue (same_level (map-Ty Ty (Ty → Bool) same (map-Ty ((t : Ty) × Agrees t) Ty (λ t. t.0) y)) z)
    → roll-Ty (map-Ty ((t : Ty) × Agrees t) Ty (λ t. t.0) y) ≡ b
by_level Ty-F.Boolean b Ty-F.Boolean r h = r
by_level Ty-F.Integer b Ty-F.Integer r h = r
by_level Ty-F.Decimal b Ty-F.Decimal r h = r
by_level Ty-F.Money b Ty-F.Money r h = r
by_level Ty-F.Date b Ty-F.Date r h = r
by_level Ty-F.Duration b Ty-F.Duration r h = r
by_level (Ty-F.List t) b (Ty-F.List u) r h = ap (λ v. roll-Ty (Ty-F.List v)) (t.1 u h) ∙ r
by_level (Ty-F.Structure n) b (Ty-F.Structure m) r h =
    let is : n ≡ m = grind (arith, h) in ap (λ k. roll-Ty (Ty-F.Structure k)) is ∙ r
by_level (Ty-F.Enumeration n) b (Ty-F.Enumeration m) r h =
    let is : n ≡ m = grind (arith, h) in ap (λ k. roll-Ty (Ty-F.Enumeration k)) is ∙ r
by_level _ b _ r h = absurd (true≢false (sym h))

agrees : (y : Ty-F ((t : Ty) × Agrees t)) → Agrees (roll-Ty (map-Ty ((t : Ty) × Agrees t) Ty (λ t. t.0) y))
agrees y b h = by_level y b (out-Ty b) (ty.roll-out-Ty b)
    (rw (
      same_at (roll-Ty (map-Ty ((t : Ty) × Agrees t) Ty (λ t. t.0) y)) b,
      ty.out-roll-Ty (map-Ty ((t : Ty) × Agrees t) Ty (λ t. t.0) y),
    ) at h)

pub same_is : (a b : Ty) → IsTrue (same a b) → a ≡ b
same_is = ind-Ty Agrees (λ x y is. subst (λ z. Agrees (roll-Ty z)) is (agrees y))

-- a flat type is the one that it was read off
flat_by : (y : Ty-F Ty) (f : Flat) → flat_in y ≡ Some f → roll-Ty y ≡ whole f
flat_by Ty-F.Boolean f h = let is : flat.Boolean ≡ f =
    cc h in subst (λ g. roll-Ty Ty-F.Boolean ≡ whole g) is ty.rolls-Boolean
flat_by Ty-F.Integer f h = let is : flat.Integer ≡ f =
    cc h in subst (λ g. roll-Ty Ty-F.Integer ≡ whole g) is ty.rolls-Integer
flat_by Ty-F.Decimal f h = let is : flat.Decimal ≡ f =
    cc h in subst (λ g. roll-Ty Ty-F.Decimal ≡ whole g) is ty.rolls-Decimal
flat_by Ty-F.Money f h = let is : flat.Money ≡ f = cc h in subst (λ g. roll-Ty Ty-F.Money ≡ whole g) is ty.rolls-Money
flat_by Ty-F.Date f h = let is : flat.Date ≡ f = cc h in subst (λ g. roll-Ty Ty-F.Date ≡ whole g) is ty.rolls-Date
flat_by Ty-F.Duration f h = let is : flat.Duration ≡ f =
    cc h in subst (λ g. roll-Ty Ty-F.Duration ≡ whole g) is ty.rolls-Duration
flat_by _ f h = cc h

pub flat_is : (t : Ty) (f : Flat) → flat_of t ≡ Some f → t ≡ whole f
flat_is t f h = sym (ty.roll-out-Ty t) ∙ flat_by (out-Ty t) f (rw (flat_level t) at h)

element_by : (y : Ty-F Ty) (t : Ty) → element_in y ≡ Some t → roll-Ty y ≡ ty.List t
element_by (Ty-F.List u) t h = let is : u ≡ t =
    cc h in subst (λ v. roll-Ty (Ty-F.List u) ≡ ty.List v) is (ty.rolls-List u)
element_by _ t h = cc h

pub element_is : (l t : Ty) → element_of l ≡ Some t → l ≡ ty.List t
element_is l t h = sym (ty.roll-out-Ty l) ∙ element_by (out-Ty l) t (rw (element_level l) at h)

structure_by : (y : Ty-F Ty) (n : ℕ) → structure_in y ≡ Some n → roll-Ty y ≡ flat_ty.Structure n
structure_by (Ty-F.Structure m) n h =
    let is : m ≡ n = cc h in subst (λ k. roll-Ty (Ty-F.Structure m) ≡ flat_ty.Structure k) is (ty.rolls-Structure m)
structure_by _ n h = cc h

pub structure_is : (t : Ty) (n : ℕ) → structure_of t ≡ Some n → t ≡ flat_ty.Structure n
structure_is t n h = sym (ty.roll-out-Ty t) ∙ structure_by (out-Ty t) n (rw (structure_level t) at h)

enumeration_by : (y : Ty-F Ty) (n : ℕ) → enumeration_in y ≡ Some n → roll-Ty y ≡ flat_ty.Enumeration n
enumeration_by (Ty-F.Enumeration m) n h =
    let is : m ≡ n = cc h in subst (λ k. roll-Ty (Ty-F.Enumeration m) ≡ flat_ty.Enumeration k) is
    (ty.rolls-Enumeration m)
enumeration_by _ n h = cc h

pub enumeration_is : (t : Ty) (n : ℕ) → enumeration_of t ≡ Some n → t ≡ flat_ty.Enumeration n
enumeration_is t n h = sym (ty.roll-out-Ty t) ∙ enumeration_by (out-Ty t) n (rw (enumeration_level t) at h)

-- each type is the same as itself
self_at : (y : Ty-F ((t : Ty) × IsTrue (same t t)))
    → IsTrue (same (roll-Ty (map-Ty ((t : Ty) × IsTrue (same t t)) Ty (λ t. t.0) y))
    (roll-Ty (map-Ty ((t : Ty) × IsTrue (same t t)) Ty (λ t. t.0) y)))
self_at y = rw (
  same_at (roll-Ty (map-Ty ((t : Ty) × IsTrue (same t t)) Ty (λ t. t.0) y))
      (roll-Ty (map-Ty ((t : Ty) × IsTrue (same t t)) Ty (λ t. t.0) y)),
  ty.out-roll-Ty (map-Ty ((t : Ty) × IsTrue (same t t)) Ty (λ t. t.0) y),
) (by y)
  where
    by : (y : Ty-F ((t : Ty) × IsTrue (same t t)))
        → IsTrue (same_level (map-Ty Ty (Ty → Bool) same (map-Ty ((t : Ty) × IsTrue (same t t)) Ty (λ t. t.0) y))
        (map-Ty ((t : Ty) × IsTrue (same t t)) Ty (λ t. t.0) y))
    by Ty-F.Boolean = refl
    by Ty-F.Integer = refl
    by Ty-F.Decimal = refl
    by Ty-F.Money = refl
    by Ty-F.Date = refl
    by Ty-F.Duration = refl
    by (Ty-F.List t) = t.1
    by (Ty-F.Structure n) = grind arith
    by (Ty-F.Enumeration n) = grind arith

pub same_self : (t : Ty) → IsTrue (same t t)
same_self = ind-Ty (λ t. IsTrue (same t t)) (λ x y is. subst (λ z. IsTrue (same (roll-Ty z) (roll-Ty z))) is
    (self_at y))

untrue : (s : Bool) → (IsTrue s → ⊥) → false ≡ s
untrue true h = absurd (h refl)
untrue false h = refl

-- a test that tells whether two types are one is `same`
pub decided : (r : Bool) (a b : Ty) → (IsTrue r ↔ (a ≡ b)) → r ≡ same a b
decided true a b iff = let is = iff.0 refl in sym (subst (λ c. IsTrue (same a c)) is (same_self a))
decided false a b iff = untrue (same a b) (λ h. true≢false (sym (iff.1 (same_is a b h))))
