-- What is found of the truth value of a formula.
use Rattle.std.specs.Prelude.{◌≡◌, ℕ, Bool, true, false, not, List, Option, Some, None}
use Rattle.std.specs.List.{list_all}
use Rattle.cat_region.specs.declared.dim.Dim.{Dim}
use Rattle.cat_region.specs.Regions.{is_cut_at}
use Rattle.cat_scope.specs.Names.{IsOneOf}
use Rattle.cat_guard.specs.declared.table.Atom.{Atom}
use Rattle.cat_guard.specs.Formulas.{Formula, asked, known}
use Rattle.cat_guard.specs.declared.truth.Truth.{Truth}
use Rattle.cat_guard.specs.declared.truth.Truth.TheVariants as truth

-- each atom is a cut of one of these dimensions
abbrev pub are_cuts_of : List Dim → List Atom → Bool
are_cuts_of dims atoms = list_all (λ a. is_cut_at dims a.term a.cut) atoms

-- the known truth value of a formula; or that it isn't known, with a question of it that has no answer
abbrev pub Tells : (ℕ → Option Bool) → Formula ℕ → Truth → Type 0
Tells answers f (truth.Known b) = known answers f ≡ Some b
Tells answers f (truth.Open a) = (known answers f ≡ None) × IsOneOf a (asked f) × (answers a ≡ None)

-- what is known by what is found
abbrev pub told : Truth → Option Bool
told (truth.Known b) = Some b
told (truth.Open a) = None

-- what is known is that truth value
abbrev pub is_it : Bool → Option Bool → Bool
is_it so None = false
is_it true (Some b) = b
is_it false (Some b) = not b
