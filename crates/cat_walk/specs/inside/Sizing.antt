-- The sizes of the trees that nodes are.
use Rattle.std.specs.Prelude.{◌≡◌, ◌+◌, ◌<◌, min, max, List, ◌∷◌, length, map, Some, slice_get}
use Rattle.cat_guard.specs.declared.tree.CitedNode.{CitedNode}
use Rattle.cat_guard.specs.declared.tree.CitedNode.TheVariants as cited
use Rattle.cat_guard.specs.Trees.{Tree, cited_tree_of}
use Rattle.cat_walk.specs.declared.size.TreeSize.{TreeSize}
use Rattle.cat_walk.specs.Sizes.{past_most}
use Rattle.cat_walk.specs.Sizes.{size_of}

-- a split over two trees of these sizes
abbrev pub split_size : TreeSize → TreeSize → TreeSize
split_size left right = record {
  leaves = min (left.leaves + right.leaves) past_most;
  height = min (1 + max left.height right.height) past_most;
}

-- there are trees that a node needs: that of its name, or two sides
abbrev pub Sizable : List TreeSize → CitedNode → List TreeSize → Type 0
Sizable named cited.Leaf behind = Unit {0}
Sizable named (cited.Cite i) behind = i < length named
Sizable named (cited.Split a) behind =
    (left : TreeSize) × (right : TreeSize) × (rest : List TreeSize) × (behind ≡ left ∷ right ∷ rest)

-- a node begins a tree of this size in front of trees of these sizes, and leaves those that are no side of it
abbrev pub Sizes : List TreeSize → CitedNode → List TreeSize → TreeSize → List TreeSize → Type 0
Sizes named cited.Leaf behind size rest = (size ≡ record { leaves = 1; height = 0 }) × (rest ≡ behind)
Sizes named (cited.Cite i) behind size rest = (slice_get named i ≡ Some size) × (rest ≡ behind)
Sizes named (cited.Split a) behind size rest =
    (left : TreeSize) × (right : TreeSize) × (behind ≡ left ∷ right ∷ rest) × (size ≡ split_size left right)

-- nodes are a tree over named trees of these sizes
pub record HasSizes (named : List TreeSize) (nodes : List CitedNode) : Type 0 where
  pub names : List Tree
  pub tree : Tree
  pub sizes : named ≡ map size_of names
  pub is : cited_tree_of names nodes ≡ Some tree
