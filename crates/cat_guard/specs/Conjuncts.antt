-- The conjuncts that formulas join by `and`: where one of them is false, the whole is.
use Rattle.std.specs.Prelude.{ℕ, true, false, List, [], ◌∷◌, ◌++◌}
use Rattle.cat_scope.specs.Names.{IsOneOf}
use Rattle.cat_guard.specs.declared.guard.GuardDef.{GuardDef}
use Rattle.cat_guard.specs.declared.conjuncts.Conjunct.{Conjunct}
use Rattle.cat_guard.specs.Formulas.{Formula}
use Rattle.cat_guard.specs.Formulas as formula
use Rattle.cat_guard.specs.GuardFormulas.{formula_of}

-- the conjunct that the negation of a formula is, if it is one
abbrev pub negated : Formula ℕ → List Conjunct
negated (formula.Atom a) = record { atom = a; so = false } ∷ []
negated f = []

-- the conjuncts that a formula joins, from the left
abbrev pub joined : Formula ℕ → List Conjunct
joined (formula.Atom a) = record { atom = a; so = true } ∷ []
joined (formula.Not f) = negated f
joined (formula.Both f g) = joined f ++ joined g
joined f = []

-- each of some conjuncts is one of others
abbrev pub AreAmong : List Conjunct → List Conjunct → Type 0
AreAmong all ls = (l : Conjunct) → IsOneOf l ls → IsOneOf l all

-- each definition has a list of conjuncts that its guard joins
abbrev pub AreOfDefs : List GuardDef → List (List Conjunct) → Type 0
AreOfDefs [] [] = Unit {0}
AreOfDefs [] (ls ∷ lists) = ⊥
AreOfDefs (d ∷ ds) [] = ⊥
AreOfDefs (d ∷ ds) (ls ∷ lists) = AreAmong (joined (formula_of d.guard)) ls × AreOfDefs ds lists
