-- How a target is judged in a region of the terms' valuations, where that decides some atoms.
use Rattle.std.specs.Prelude.{ℕ, Bool, true, false, List, Option, Some, None, slice_get}
use Rattle.cat_region.specs.Regions.{Constraints}
use Rattle.cat_region.specs.Decided.{decided_at}
use Rattle.cat_guard.specs.declared.table.Atom.{Atom}
use Rattle.cat_guard.specs.declared.table.TableTarget.{TableTarget}
use Rattle.cat_guard.specs.Verdicts.{Verdict, Holds, Empty, Conflict, Open, verdict_of}

-- what a region decides of an atom: its answer where all admitted valuations agree
abbrev pub atom_decided : Constraints → Option Atom → Option Bool
atom_decided region None = None
atom_decided region (Some atom) = decided_at region atom.term atom.cut

-- what a region decides of the atom of that number
abbrev pub answers_in : List Atom → Constraints → ℕ → Option Bool
answers_in atoms region a = atom_decided region (slice_get atoms a)

-- how a target is judged in a region
abbrev pub judged_in : List Atom → Constraints → TableTarget → Verdict
judged_in atoms region t = verdict_of t (answers_in atoms region)

-- judged covered: Holds, or Empty where that is allowed
abbrev pub covers : Bool → Verdict → Bool
covers empty (Holds d) = true
covers empty Empty = empty
covers empty Conflict = false
covers empty Open = false
