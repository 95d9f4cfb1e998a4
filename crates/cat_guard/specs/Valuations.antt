-- What the atoms of a table answer at a valuation of its terms.
use Rattle.std.specs.Prelude.{ℕ, Bool, false, List, map, Option, Some, None, slice_get}
use Rattle.cat_region.specs.declared.dim.Dim.{Dim}
use Rattle.cat_region.specs.Points.{answer}
use Rattle.cat_region.specs.Regions.{Valuation}
use Rattle.cat_guard.specs.declared.table.Term.{Term}
use Rattle.cat_guard.specs.declared.table.Atom.{Atom}

-- the dimension of each term
abbrev pub dims_of : List Term → List Dim
dims_of terms = map (λ term. term.dim) terms

-- the answer of an atom, where there is one
abbrev pub atom_answer : Valuation → Option Atom → Bool
atom_answer v None = false
atom_answer v (Some atom) = answer atom.cut (v atom.term)

-- the truth value of the atom of that number
abbrev pub holds_at : List Atom → Valuation → ℕ → Bool
holds_at atoms v a = atom_answer v (slice_get atoms a)
