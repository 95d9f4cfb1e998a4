-- The definitions of a target by their numbers.
use Rattle.std.proofs.Common.{◌≡◌, ◌∙◌, ℕ, zero, suc, ◌<◌, ◌≤◌, ◌+◌, Bool, true, false, if◌then◌else◌, List, [], ◌∷◌}
use Rattle.std.proofs.Common.{◌++◌, length}
use Rattle.std.proofs.Common.{get_or, slice_get, Option, Some, All, refl, ap, subst, arith}
use Rattle.std.proofs.lemmas.List.{append_assoc}
use Rattle.std.proofs.lemmas.Option.{slice_get_within}
use Rattle.cat_value.specs.declared.outcome.Target.{Target}
use Rattle.cat_scope.specs.declared.defs.Def.{Def}
use Rattle.cat_scope.specs.Names.{AllHave}
use Rattle.cat_scope.specs.Groups.{Numbered}
use Rattle.cat_scope.specs.Targets.{same_target, defs_from}
use Rattle.cat_scope.specs.Forests.{definition_numbers}
use Rattle.cat_except.specs.inside.Grouping.{numbered, defs_at}

-- definitions stand at their numbers
abbrev AreTrue : List Def → List Numbered → Type 0
AreTrue all ds = AllHave (λ (d : Numbered). slice_get all d.0 ≡ Some d.1) ds

get_behind : (front : List Def) (d : Def) (ds : List Def) → slice_get (front ++ d ∷ ds) (length front) ≡ Some d
get_behind [] d ds = refl
get_behind (e ∷ front) d ds = get_behind front d ds

longer : (front : List Def) (d : Def) → length (front ++ d ∷ []) ≡ length front + 1
longer [] d = omega arith
longer (e ∷ front) d = omega (arith, longer front d)

from_true : (target : Target) (front ds : List Def) → AreTrue (front ++ ds) (defs_from target (length front) ds)
from_true target front [] = tt
from_true target front (d ∷ ds) = by (same_target d.target target)
    (subst (λ (all : List Def). AreTrue all (defs_from target (length front + 1) ds)) (append_assoc front (d ∷ []) ds)
    (subst (λ (n : ℕ). AreTrue ((front ++ d ∷ []) ++ ds) (defs_from target n ds)) (longer front d)
    (from_true target (front ++ d ∷ []) ds))) where
      by : (b : Bool) → AreTrue (front ++ d ∷ ds) (defs_from target (length front + 1) ds)
          → AreTrue (front ++ d ∷ ds)
          (if b then (length front, d) ∷ defs_from target (length front + 1) ds else defs_from target (length front + 1)
          ds)
      by true rest = (get_behind front d ds, rest)
      by false rest = rest

at_true : (all : List Def) (ds : List Numbered) → AreTrue all ds → defs_at all (definition_numbers ds) ≡ ds
at_true all [] is = refl
at_true all (d ∷ ds) is =
    ap (numbered d.0 (slice_get all d.0)) (at_true all ds is.1) ∙ ap (λ (o : Option Def). numbered d.0 o ds) is.0

low_true : (all : List Def) (ds : List Numbered) → AreTrue all ds → (k e : ℕ) → k < length (definition_numbers ds)
    → get_or (definition_numbers ds) k e < length all
low_true all [] is k e within = absurd (omega (arith, within))
low_true all (d ∷ ds) is zero e within = slice_get_within all d.0 d.1 is.0
low_true all (d ∷ ds) is (suc k) e within = low_true all ds is.1 k e (omega (arith, within))

few_from : (target : Target) (n : ℕ) (ds : List Def) → length (definition_numbers (defs_from target n ds)) ≤ length ds
few_from target n [] = omega arith
few_from target n (d ∷ ds) = by (same_target d.target target) (few_from target (n + 1) ds) where
  by : (b : Bool) → length (definition_numbers (defs_from target (n + 1) ds)) ≤ length ds
      → length (definition_numbers
      (if b then (n, d) ∷ defs_from target (n + 1) ds else defs_from target (n + 1) ds)) ≤ suc (length ds)
  by true rest = omega (arith, rest)
  by false rest = omega (arith, rest)

pub target_defs : (target : Target) (defs : List Def)
    → defs_at defs (definition_numbers (defs_from target 0 defs)) ≡ defs_from target 0 defs
target_defs target defs = at_true defs (defs_from target 0 defs) (from_true target [] defs)

pub target_numbers : (target : Target) (defs : List Def)
    → All (λ n. n < length defs) (definition_numbers (defs_from target 0 defs))
target_numbers target defs = low_true defs (defs_from target 0 defs) (from_true target [] defs)

pub few_numbers : (target : Target) (defs : List Def)
    → length (definition_numbers (defs_from target 0 defs)) ≤ length defs
few_numbers target defs = few_from target 0 defs
