-- What is left of a walk.
use Rattle.std.specs.Prelude.{◌≡◌, ◌≤◌, ℕ, ◌+◌, Bool, false, IsTrue, List, [], ◌∷◌, ◌++◌, length, Option, None, Some}
use Rattle.std.specs.Prelude.{Result}
use Rattle.cat_region.specs.declared.narrowing.Narrowing.{Narrowing}
use Rattle.cat_region.specs.Regions.{Constraints}
use Rattle.cat_region.specs.Sides.{along, IsAt, turns}
use Rattle.cat_guard.specs.declared.table.Atom.{Atom}
use Rattle.cat_guard.specs.declared.table.TableTarget.{TableTarget}
use Rattle.cat_guard.specs.declared.tree.TreeNode.TheVariants as node
use Rattle.cat_guard.specs.Trees.{Tree, node_before, height}
use Rattle.cat_walk.specs.declared.place.NodePlace.{NodePlace}
use Rattle.cat_walk.specs.declared.refusal.WalkRefusal.{WalkRefusal}
use Rattle.cat_walk.specs.declared.meeting.Met.{Met}
use Rattle.cat_walk.specs.declared.meeting.Met.TheVariants as met
use Rattle.cat_walk.specs.Coverage.{leaf_regions, is_uncovered, Answers}
use Rattle.cat_walk.specs.Walkable.{splits_below}

-- the trees that what is met makes, one behind the other
abbrev pub trees_met : List Met → Option (List Tree)
trees_met [] = Some []
trees_met (met.Split a ∷ ms) = node_before (node.Split a) (trees_met ms)
trees_met (met.Leaf place ∷ ms) = node_before node.Leaf (trees_met ms)
trees_met (met.Cite i ∷ ms) = trees_met ms
trees_met (met.End ∷ ms) = trees_met ms

-- the leaves that are met
abbrev pub leaves_met : List Met → List NodePlace
leaves_met [] = []
leaves_met (met.Split a ∷ ms) = leaves_met ms
leaves_met (met.Leaf place ∷ ms) = place ∷ leaves_met ms
leaves_met (met.Cite i ∷ ms) = leaves_met ms
leaves_met (met.End ∷ ms) = leaves_met ms

-- the regions of the leaves of trees, each at the end of its path
abbrev pub regions_along : List Atom → Constraints → List (List Narrowing) → List Tree → List Constraints
regions_along atoms base [] trees = []
regions_along atoms base (path ∷ paths) [] = []
regions_along atoms base (path ∷ paths) (tree ∷ trees) =
    leaf_regions atoms (along base path) tree ++ regions_along atoms base paths trees

-- a tree splits on the first atoms, and there is room for it at the end of its path
pub record IsFit (atoms : ℕ) (room : ℕ) (path : List Narrowing) (tree : Tree) : Type 0 where
  pub splits : IsTrue (splits_below atoms tree)
  pub low : length path + height tree ≤ room

-- each path has a tree that is so
abbrev pub AreFit : ℕ → ℕ → List (List Narrowing) → List Tree → Type 0
AreFit atoms room [] [] = Unit {0}
AreFit atoms room [] (tree ∷ trees) = ⊥
AreFit atoms room (path ∷ paths) [] = ⊥
AreFit atoms room (path ∷ paths) (tree ∷ trees) = IsFit atoms room path tree × AreFit atoms room paths trees

-- a walk from a region on is under way: the region is at the end of a path, what is to come makes the tree of this path
-- and those of its turns, and whatever answers for their leaves is told of all
pub record IsUnderWay (atoms : List Atom) (test : Constraints → Bool) (base : Constraints)
    (Told : Result (Unit {0}) WalkRefusal → Type 0) (region : Constraints) (ms : List Met) : Type 0 where
  pub path : List Narrowing
  pub trees : List Tree
  pub here : IsAt base path region
  pub made : trees_met ms ≡ Some trees
  pub fit : AreFit (length atoms) base.room (path ∷ turns path) trees
  pub rest : (answer : Result (Unit {0}) WalkRefusal)
      → Answers test (leaves_met ms) (regions_along atoms base (path ∷ turns path) trees) answer → Told answer

-- a target of that number is uncovered in a region, where there is one
abbrev pub uncovered_at : List Atom → Option TableTarget → Constraints → Bool
uncovered_at atoms None region = false
uncovered_at atoms (Some t) region = is_uncovered atoms t region
