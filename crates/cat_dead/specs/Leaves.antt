-- The leaves of a tree as they are judged.
use Rattle.std.specs.Prelude.{ℕ, ◌+◌, if◌then◌else◌, List, [], ◌∷◌, map, Option, None, Some}
use Rattle.cat_region.specs.Regions.{Constraints}
use Rattle.cat_region.specs.Decided.{admits_none}
use Rattle.cat_guard.specs.declared.table.Atom.{Atom}
use Rattle.cat_guard.specs.declared.table.TableTarget.{TableTarget}
use Rattle.cat_guard.specs.declared.tree.TreeNode.{TreeNode}
use Rattle.cat_guard.specs.declared.tree.TreeNode.TheVariants as node
use Rattle.cat_guard.specs.Judged.{judged_in}
use Rattle.cat_guard.specs.Trees.{tree_of}
use Rattle.cat_guard.specs.Verdicts.{Verdict, Holds, Empty, Conflict, Open}
use Rattle.cat_cert.specs.Uncovered.{regions_of}
use Rattle.cat_dead.specs.declared.judged.JudgedLeaf.{JudgedLeaf}
use Rattle.cat_dead.specs.declared.judged.LeafJudgement.{LeafJudgement}
use Rattle.cat_dead.specs.declared.judged.LeafJudgement.TheVariants as leaf

-- a verdict at a leaf
abbrev pub judgement_of : Verdict → LeafJudgement
judgement_of (Holds d) = leaf.Wins d
judgement_of Empty = leaf.NoWinner
judgement_of Conflict = leaf.NoWinner
judgement_of Open = leaf.Open

-- how a target is judged in the region of a leaf
abbrev pub judged_at : List Atom → TableTarget → Constraints → LeafJudgement
judged_at atoms t region = if admits_none region then leaf.Nothing else judgement_of (judged_in atoms region t)

-- the places of the leaves among nodes, of which the first has that place
abbrev pub leaf_nodes : ℕ → List TreeNode → List ℕ
leaf_nodes place [] = []
leaf_nodes place (node.Leaf ∷ ns) = place ∷ leaf_nodes (place + 1) ns
leaf_nodes place (node.Rest ∷ ns) = leaf_nodes (place + 1) ns
leaf_nodes place (node.Split a ∷ ns) = leaf_nodes (place + 1) ns

-- leaves at their places, as they are judged
abbrev pub leaves_at : List ℕ → List LeafJudgement → List JudgedLeaf
leaves_at [] js = []
leaves_at (place ∷ places) [] = []
leaves_at (place ∷ places) (j ∷ js) = record { node = place; judged = j } ∷ leaves_at places js

-- the leaves of the tree that nodes are, each judged in its region, from a region on
abbrev pub leaves_judged : List Atom → TableTarget → Constraints → List TreeNode → List JudgedLeaf
leaves_judged atoms t base nodes =
    leaves_at (leaf_nodes 0 nodes) (map (judged_at atoms t) (regions_of atoms base (tree_of nodes)))

-- ---- nodes

-- the atom of a split
abbrev pub split_of : TreeNode → Option ℕ
split_of (node.Split a) = Some a
split_of node.Leaf = None
split_of node.Rest = None

-- a node at that place as a leaf that is judged in a region, if it is one
abbrev pub leaf_if : List Atom → TableTarget → Constraints → ℕ → TreeNode → List JudgedLeaf
leaf_if atoms t region place node.Leaf = record { node = place; judged = judged_at atoms t region } ∷ []
leaf_if atoms t region place node.Rest = []
leaf_if atoms t region place (node.Split a) = []
