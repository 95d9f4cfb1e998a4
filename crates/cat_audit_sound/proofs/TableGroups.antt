-- Definitions and groups of a target by their numbers, as its table has them.
use Rattle.std.proofs.Common.{◌≡◌, ◌⊎◌, inl, inr, ℕ, zero, suc, ◌+◌, nat_eq, Bool, true, false, ◌&&◌}
use Rattle.std.proofs.Common.{IsTrue}
use Rattle.std.proofs.Common.{List, [], ◌∷◌, map, length, Option, Some, None, slice_get, refl}
use Rattle.std.proofs.Common.{sym, ap}
use Rattle.std.proofs.Common.{◌∙◌, subst, arith, if◌then◌else◌}
use Rattle.std.proofs.lemmas.Bool.Decides.{nat_tests}
use Rattle.cat_value.specs.declared.outcome.Target.{Target}
use Rattle.cat_scope.specs.declared.defs.Def.{Def}
use Rattle.cat_scope.specs.declared.forest.ForestGroup.{ForestGroup}
use Rattle.cat_scope.specs.Names.{AllHave, IsOneOf}
use Rattle.cat_scope.specs.Groups.{Numbered, Group, excepting, exceptions_from}
use Rattle.cat_scope.specs.Targets.{defs_from, same_target}
use Rattle.cat_scope.specs.Chains.{HasNoCycle, longest_chain, are_within}
use Rattle.cat_scope.specs.Forests.{are_low}
use Rattle.cat_scope.specs.Forests.{above as forest_above}
use Rattle.cat_sound.proofs.Exported.{are_low_says}
use Rattle.cat_guard.specs.declared.guard.GuardGroup.{GuardGroup}
use Rattle.cat_guard.specs.Tables.{place_of, guard_groups}
use Rattle.cat_guard.specs.Soundness.{above}
use Rattle.cat_guard.proofs.Exported.{all_more}

-- ---- definitions by their numbers

-- a definition of a target is the one of its number in the scope
abbrev pub IsAt : List Def → ℕ → Numbered → Type 0
IsAt defs n x = (j : ℕ) × (x.0 ≡ n + j) × (slice_get defs j ≡ Some x.1)

pub defs_at : (t : Target) (n : ℕ) (defs : List Def) → AllHave (IsAt defs n) (defs_from t n defs)
defs_at t n [] = tt
defs_at t n (d ∷ defs) =
    by (same_target d.target t)
    (all_more (IsAt defs (n + 1)) (IsAt (d ∷ defs) n) (defs_from t (n + 1) defs) (defs_at t (n + 1) defs)
    (λ x h. let is = h.1 in (suc h.0, omega arith, h.2)))
  where
    by : (b : Bool) → AllHave (IsAt (d ∷ defs) n) (defs_from t (n + 1) defs)
        → AllHave (IsAt (d ∷ defs) n) (if b then (n, d) ∷ defs_from t (n + 1) defs else defs_from t (n + 1) defs)
    by true rest = ((0, omega arith, refl), rest)
    by false rest = rest

abbrev pub or_this : {A : Type 0} → A → Option A → A
or_this a None = a
or_this a (Some b) = b

pub same_def : (defs : List Def) (n : ℕ) (x y : Numbered) → IsAt defs n x → IsAt defs n y → x.0 ≡ y.0 → x ≡ y
same_def defs n x y h g e =
    let here = h.1 in
    let there = g.1 in
    let index : h.0 ≡ g.0 = omega (arith, e) in
    ap (λ (m : ℕ). (m, x.1)) e
    ∙ ap (λ (d : Def). (y.0, d)) (ap (or_this x.1) (sym h.2 ∙ ap (slice_get defs) index ∙ g.2))

pub place_is : (all : List Numbered) (P : Numbered → Type 0) → ((x y : Numbered) → P x → P y → x.0 ≡ y.0 → x ≡ y)
    → AllHave P all → (d : Numbered) → P d → IsOneOf d all → slice_get all (place_of d.0 all) ≡ Some d
place_is [] P one h d is among = elim among [ ]
place_is (x ∷ xs) P one h d is among =
    by (nat_eq x.0 d.0) refl among (place_is xs P one h.1 d is)
  where
    next : (n : ℕ) → slice_get (x ∷ xs) (1 + n) ≡ slice_get xs n
    next n = ap (slice_get (x ∷ xs)) (one_plus n)
      where
        one_plus : (n : ℕ) → 1 + n ≡ suc n
        one_plus n = omega arith

    by : (b : Bool) → nat_eq x.0 d.0 ≡ b → (d ≡ x) ⊎ IsOneOf d xs
        → (IsOneOf d xs → slice_get xs (place_of d.0 xs) ≡ Some d)
        → slice_get (x ∷ xs) (if b then 0 else 1 + place_of d.0 xs) ≡ Some d
    by true e among rest = ap Some (one x d h.0 is (grind (arith, nat_tests)))
    by false e (inl same) rest = absurd (differ (ap (λ (y : Numbered). y.0) same) e)
      where
        differ : d.0 ≡ x.0 → nat_eq x.0 d.0 ≡ false → ⊥
        differ f g = grind (arith, nat_tests)
    by false e (inr more) rest = next (place_of d.0 xs) ∙ rest more

-- ---- groups

module _ (all : List Numbered) (pairs : List (ℕ × ℕ)) where
  abbrev pub guarded_group : ℕ → Group → GuardGroup
  guarded_group m g = record { defs = map (λ d. place_of d.0 all) g.defs; excepted_by = excepting pairs m }

  pub group_there : (n : ℕ) (gs : List Group) (k : ℕ) (g : Group) → slice_get gs k ≡ Some g
      → slice_get (guard_groups all pairs n gs) k ≡ Some (guarded_group (n + k) g)
  group_there n [] k g e = absurd (cc)
  group_there n (h ∷ gs) zero g e =
      ap (λ x. Some (guarded_group n x)) (ap (or_this h) e) ∙ ap (λ (m : ℕ). Some (guarded_group m g)) (omega arith)
  group_there n (h ∷ gs) (suc k) g e =
      group_there (n + 1) gs k g e ∙ ap (λ (m : ℕ). Some (guarded_group m g)) (omega arith)

  pub no_group : (n : ℕ) (gs : List Group) (k : ℕ) → slice_get gs k ≡ None
      → slice_get (guard_groups all pairs n gs) k ≡ None
  no_group n [] k e = refl
  no_group n (h ∷ gs) zero e = absurd (cc)
  no_group n (h ∷ gs) (suc k) e = no_group (n + 1) gs k e

  pub above_are : (n : ℕ) (gs : List Group) → above (guard_groups all pairs n gs) ≡ exceptions_from pairs n gs
  above_are n [] = refl
  above_are n (g ∷ gs) = ap (λ rest. excepting pairs n ∷ rest) (above_are (n + 1) gs)

  pub as_many : (n : ℕ) (gs : List Group) → length (guard_groups all pairs n gs) ≡ length gs
  as_many n [] = refl
  as_many n (g ∷ gs) = ap suc (as_many (n + 1) gs)

-- ---- no group is above itself

abbrev as_forest : List GuardGroup → List ForestGroup
as_forest [] = []
as_forest (g ∷ gs) = record { defs = g.defs; excepted_by = g.excepted_by } ∷ as_forest gs

same_above : (gs : List GuardGroup) → forest_above (as_forest gs) ≡ above gs
same_above [] = refl
same_above (g ∷ gs) = ap (λ rest. g.excepted_by ∷ rest) (same_above gs)

same_length : (gs : List GuardGroup) → length (as_forest gs) ≡ length gs
same_length [] = refl
same_length (g ∷ gs) = ap suc (same_length gs)

and_true : (b : Bool) → IsTrue b → IsTrue (b && true)
and_true true h = refl
and_true false h = h

pub no_cycle : (t : Target) (gs : List GuardGroup) → IsTrue (are_within (above gs) longest_chain (length gs))
    → HasNoCycle (above gs)
unfolding are_low
no_cycle t gs h =
    subst HasNoCycle (same_above gs)
    ((are_low_says (record { target = t; groups = as_forest gs } ∷ [])).0
    (and_true _ (subst (λ deps. IsTrue (are_within deps longest_chain (length (as_forest gs)))) (sym (same_above gs))
    (subst (λ n. IsTrue (are_within (above gs) longest_chain n)) (sym (same_length gs)) h)))).0.0
