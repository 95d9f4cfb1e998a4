-- Leaves to which ways lead.
use Rattle.std.specs.Prelude.{◌≡◌, ◌≤◌, ◌<◌, ℕ, suc, List, [], ◌∷◌, length, take}
use Rattle.cat_region.specs.Regions.{Constraints}
use Rattle.cat_guard.specs.declared.table.Atom.{Atom}
use Rattle.cat_guard.specs.declared.tree.TreeNode.{TreeNode}
use Rattle.cat_search.specs.Searched.{Reached}
use Rattle.cat_search.specs.Ways.{led_to, way_from}

-- the way to the node of a leaf leads to its region
pub record IsOnWay (atoms : List Atom) (base : Constraints) (nodes : List TreeNode) (l : Reached) : Type 0 where
  pub within : l.leaf < length nodes
  pub region_is : l.region ≡ led_to atoms base (way_from [] (take l.leaf nodes))

-- so it is with each of some leaves, which stand one behind the other from that place on
abbrev pub AreOnWays : List Atom → Constraints → List TreeNode → ℕ → List Reached → Type 0
AreOnWays atoms base nodes from [] = Unit {0}
AreOnWays atoms base nodes from (l ∷ ls) =
    (from ≤ l.leaf) × IsOnWay atoms base nodes l × AreOnWays atoms base nodes (suc l.leaf) ls
