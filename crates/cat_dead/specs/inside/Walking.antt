-- How far a walk has come through the nodes of a tree.
use Rattle.std.specs.Prelude.{◌≡◌, ℕ, List, [], ◌∷◌, ◌++◌, map, length, Option, None, Some}
use Rattle.cat_region.specs.declared.narrowing.Narrowing.{Narrowing}
use Rattle.cat_region.specs.Regions.{Constraints}
use Rattle.cat_region.specs.Sides.{IsAt, turns}
use Rattle.cat_guard.specs.declared.table.Atom.{Atom}
use Rattle.cat_guard.specs.declared.table.TableTarget.{TableTarget}
use Rattle.cat_guard.specs.declared.tree.TreeNode.{TreeNode}
use Rattle.cat_guard.specs.Trees.{Tree, trees_of}
use Rattle.cat_walk.specs.inside.Walking.{AreFit, regions_along}
use Rattle.cat_dead.specs.declared.judged.JudgedLeaf.{JudgedLeaf}
use Rattle.cat_dead.specs.Leaves.{judged_at, leaf_nodes, leaves_at}

-- leaves at their places, each judged in its region of the target of a number, where there is one
abbrev pub judged_of : List Atom → Option TableTarget → List ℕ → List Constraints → List JudgedLeaf
judged_of atoms None places regions = []
judged_of atoms (Some t) places regions = leaves_at places (map (judged_at atoms t) regions)

-- a walk is under way, before the nodes from that place on: the region is at the end of a path, the nodes make the tree
-- of this path and those of its turns, and the leaves so far and those to come are the wanted ones
pub record IsUnderWay (atoms : List Atom) (o : Option TableTarget) (base : Constraints) (wanted : List JudgedLeaf)
    (region : Constraints) (place : ℕ) (nodes : List TreeNode) (made : List JudgedLeaf) : Type 0 where
  pub path : List Narrowing
  pub trees : List Tree
  pub here : IsAt base path region
  pub are : trees_of nodes ≡ Some trees
  pub fit : AreFit (length atoms) base.room (path ∷ turns path) trees
  pub leaves :
      made ++ judged_of atoms o (leaf_nodes place nodes) (regions_along atoms base (path ∷ turns path) trees) ≡ wanted
