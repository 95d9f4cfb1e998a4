-- Into how many cells the cuts of a target part the values of its terms.
use Rattle.std.specs.Prelude.{ℕ, zero, suc, ◌+◌, ◌*◌, ◌<◌, nat_eq, if◌then◌else◌, List, [], ◌∷◌, length}
use Rattle.std.specs.Prelude.{Option, Some, None, slice_get}
use Rattle.cat_region.specs.declared.dim.Dim.{Dim}
use Rattle.cat_region.specs.declared.dim.Dim.TheVariants as dim
use Rattle.cat_region.specs.declared.cut.Cut.{Cut}
use Rattle.cat_guard.specs.declared.table.Term.{Term}
use Rattle.cat_guard.specs.declared.table.Atom.{Atom}
use Rattle.cat_guard.specs.declared.table.TableTarget.{TableTarget}
use Rattle.cat_guard.specs.Numbering.{firsts}
use Rattle.cat_guard.specs.Terms.{same_cut}
use Rattle.cat_guard.specs.Valuations.{dims_of}
use Rattle.cat_guard.specs.Judgements.{atoms_in}
use Rattle.cat_search.specs.declared.found.Search.{Search}
use Rattle.cat_search.specs.declared.found.Search.TheVariants as search

-- the cut of an atom in front of others, where it is one of term i
abbrev pub cut_before : ℕ → Option Atom → List Cut → List Cut
cut_before i None cuts = cuts
cut_before i (Some atom) cuts = if nat_eq atom.term i then atom.cut ∷ cuts else cuts

-- the cuts of term i among atoms of these numbers
abbrev pub cuts_of : List Atom → ℕ → List ℕ → List Cut
cuts_of atoms i [] = []
cuts_of atoms i (a ∷ numbers) = cut_before i (slice_get atoms a) (cuts_of atoms i numbers)

-- each of them once
abbrev pub distinct_cuts : List Atom → List ℕ → ℕ → List Cut
distinct_cuts atoms numbers i = firsts same_cut [] (cuts_of atoms i numbers)

-- into how many cells so many distinct cuts part a dimension: one for each case, two for a truth value, and else one
-- more than the cuts
abbrev pub parted : Dim → ℕ → ℕ
parted d zero = 1
parted (dim.Cases n) (suc k) = n
parted dim.Truth (suc k) = 2
parted d (suc k) = suc k + 1

-- the product over the terms from number i on
abbrev pub cells_from : List Atom → List ℕ → ℕ → List Dim → ℕ
cells_from atoms numbers i [] = 1
cells_from atoms numbers i (d ∷ ds) =
    parted d (length (distinct_cuts atoms numbers i)) * cells_from atoms numbers (suc i) ds

-- the product over the terms of a target
abbrev pub cells : List Term → List Atom → TableTarget → ℕ
cells terms atoms t = cells_from atoms (atoms_in t) 0 (dims_of terms)

-- leaves are spent only where a target has more cells
abbrev pub IsSpentWithin : List Term → List Atom → TableTarget → ℕ → Search → Type 0
IsSpentWithin terms atoms t budget (search.Closed tree bad) = Unit {0}
IsSpentWithin terms atoms t budget (search.Spent tree bad) = budget < cells terms atoms t
