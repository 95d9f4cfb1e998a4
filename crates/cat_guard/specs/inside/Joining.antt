-- Conjuncts that are added, and those that are broken.
use Rattle.std.specs.Prelude.{◌≡◌, ℕ, Bool, not, List, ◌++◌, Option, Some}
use Rattle.cat_scope.specs.Names.{IsOneOf}
use Rattle.cat_guard.specs.declared.conjuncts.Conjunct.{Conjunct}
use Rattle.cat_guard.specs.Conjuncts.{AreAmong}

-- some of these conjuncts are added
pub record Adds (all old new : List Conjunct) : Type 0 where
  pub more : List Conjunct
  pub is : new ≡ old ++ more
  pub among : AreAmong all more

-- a conjunct is known to be false
abbrev pub IsBroken : (ℕ → Option Bool) → Conjunct → Type 0
IsBroken answers l = answers l.atom ≡ Some (not l.so)

-- one of them is
abbrev pub HasBroken : (ℕ → Option Bool) → List Conjunct → Type 0
HasBroken answers ls = (l : Conjunct) × IsOneOf l ls × IsBroken answers l
