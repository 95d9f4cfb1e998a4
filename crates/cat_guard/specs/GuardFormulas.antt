-- The formula that a guard is, over the numbers of atoms.
use Rattle.std.specs.Prelude.{ℕ}
use Rattle.cat_guard.specs.declared.guard.Guard.{Guard}
use Rattle.cat_guard.specs.declared.guard.Guard.TheOpen.{Guard-F}
use Rattle.cat_guard.specs.declared.guard.Guard.TheFolds.{fold-Guard}
use Rattle.cat_guard.specs.Formulas.{Formula}
use Rattle.cat_guard.specs.Formulas as formula

-- one connective over the formulas of its parts
abbrev pub connective : Guard-F (Formula ℕ) → Formula ℕ
connective (Guard-F.Constant b) = formula.Constant b
connective (Guard-F.Atom a) = formula.Atom a
connective (Guard-F.Not f) = formula.Not f
connective (Guard-F.Both f g) = formula.Both f g
connective (Guard-F.Either f g) = formula.Either f g
connective (Guard-F.Differ f g) = formula.Differ f g
connective (Guard-F.Choice c f g) = formula.Choice c f g

-- the formula of a guard
unfoldable pub formula_of : Guard → Formula ℕ
formula_of = fold-Guard (Formula ℕ) connective
