-- Where a walk through the nodes of a tree stands.
use Rattle.std.specs.Prelude.{◌≡◌, ℕ, Bool, true, false, IsTrue, List, [], ◌∷◌, ◌++◌, Option, Some, None, length}
use Rattle.std.specs.Prelude.{slice_get, IfSome}
use Rattle.cat_region.specs.declared.narrowing.Narrowing.{Narrowing}
use Rattle.cat_region.specs.Regions.{Constraints, IsInhabited, narrowed_to}
use Rattle.cat_region.specs.Sides.{IsAt}
use Rattle.cat_guard.specs.declared.levels.Levels.{Levels}
use Rattle.cat_guard.specs.declared.table.Atom.{Atom}
use Rattle.cat_guard.specs.declared.table.Table.{Table}
use Rattle.cat_guard.specs.declared.table.Term.{Term}
use Rattle.cat_guard.specs.declared.tree.TreeNode.{TreeNode}
use Rattle.cat_guard.specs.Levels.{AreLiveTo}
use Rattle.cat_guard.specs.Valuations.{dims_of}
use Rattle.cat_search.specs.declared.way.Answer.{Answer}
use Rattle.cat_search.specs.Ways.{ask_below, led_to, passed}

-- the narrowing that an answer to an atom makes, where there is such an atom
abbrev pub narrowing_by : Option Atom → Bool → List Narrowing
narrowing_by None b = []
narrowing_by (Some atom) b = narrowed_to atom.term atom.cut b ∷ []

-- the narrowings that answers make, of which the last one stands first
abbrev pub path_of : List Atom → List Answer → List Narrowing
path_of atoms [] = []
path_of atoms (n ∷ way) = narrowing_by (slice_get atoms n.atom) n.yes ++ path_of atoms way

-- the region that admits every valuation of some terms, with room for so many narrowings
abbrev pub whole_of : List Term → ℕ → Constraints
whole_of terms room = record { dims = dims_of terms; narrowings = []; room = room }

-- a walk is at the end of a way that asks atoms of the table, with the region there and what is live of the target
pub record IsOn (table : Table) (target room : ℕ) (way : List Answer) (region : Constraints) (levels : Levels) :
    Type 0 where
  pub asked : IsTrue (ask_below (length table.atoms) way)
  pub here : IsAt (whole_of table.terms room) (path_of table.atoms way) region
  pub live : IfSome (slice_get table.targets target) (λ t. AreLiveTo table.atoms t region levels)

-- a walk is on its way where there is a node, and else its way has come to its end
abbrev pub GoesOn : Table → ℕ → ℕ → List Answer → Constraints → Levels → Bool → Type 0
GoesOn table target room way region levels true = IsOn table target room way region levels
GoesOn table target room way region levels false = way ≡ []

-- each of some nodes, of which the first is at the end of that way, has a region that admits something, and none is
-- behind the one where the way comes to its end
abbrev pub AreReached : List Atom → Constraints → List Answer → List TreeNode → Type 0
AreReached atoms base way [] = Unit {0}
AreReached atoms base way (n ∷ nodes) =
    IsInhabited (led_to atoms base way)
    × (passed n way ≡ [] → nodes ≡ [])
    × AreReached atoms base (passed n way) nodes
