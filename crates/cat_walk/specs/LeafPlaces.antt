-- Where the leaves of a tree with citations are written.
use Rattle.std.specs.Prelude.{◌≡◌, ℕ, suc, List, [], ◌∷◌, ◌++◌, length, Option, None, Some, slice_get}
use Rattle.cat_guard.specs.declared.tree.CitedNode.{CitedNode}
use Rattle.cat_guard.specs.declared.tree.CitedNode.TheVariants as cited
use Rattle.cat_guard.specs.declared.tree.CitedTree.{CitedTree}
use Rattle.cat_walk.specs.declared.place.NodePlace.{NodePlace}
use Rattle.cat_walk.specs.declared.refusal.WalkRefusal.{WalkRefusal}
use Rattle.cat_walk.specs.declared.refusal.WalkRefusal.TheVariants as why

-- the elements of a list, where there is one
abbrev pub elements : {A : Type 0} → Option (List A) → List A
elements None = []
elements (Some xs) = xs

-- ---- the lists of a tree

-- the lists in which a tree is written: the named trees, and the tree itself
abbrev pub lists_of : CitedTree → List (List CitedNode)
lists_of tree = tree.names ++ tree.main ∷ []

-- the list of that number
abbrev pub list_at : List (List CitedNode) → ℕ → List CitedNode
list_at lists i = elements (slice_get lists i)

-- the node that is written there
abbrev pub node_at : List (List CitedNode) → NodePlace → Option CitedNode
node_at lists place = slice_get (list_at lists place.list) place.node

-- a leaf is written there
abbrev pub IsLeafAt : List (List CitedNode) → NodePlace → Type 0
IsLeafAt lists place = node_at lists place ≡ Some cited.Leaf

-- a refusal names a leaf
abbrev pub NamesLeaf : CitedTree → WalkRefusal → Type 0
NamesLeaf tree (why.NotCovered place) = IsLeafAt (lists_of tree) place
NamesLeaf tree why.Memory = Unit {0}

-- ---- the leaves of a tree whose citations are replaced

-- the leaves of nodes of a list, of which the first is the one of that index; a citation has those of the named tree
abbrev pub leaves_from : List (List NodePlace) → ℕ → ℕ → List CitedNode → List NodePlace
leaves_from named list node [] = []
leaves_from named list node (cited.Leaf ∷ ns) =
    record { list = list; node = node } ∷ leaves_from named list (suc node) ns
leaves_from named list node (cited.Split a ∷ ns) = leaves_from named list (suc node) ns
leaves_from named list node (cited.Cite i ∷ ns) = elements (slice_get named i) ++ leaves_from named list (suc node) ns

-- the leaves of each named tree, behind those of the trees that are named already
abbrev pub named_leaves : List (List NodePlace) → List (List CitedNode) → List (List NodePlace)
named_leaves named [] = named
named_leaves named (nodes ∷ more) = named_leaves (named ++ leaves_from named (length named) 0 nodes ∷ []) more

-- the leaves of a tree, in the preorder of the tree with its citations replaced
abbrev pub leaf_places : CitedTree → List NodePlace
leaf_places tree = leaves_from (named_leaves [] tree.names) (length tree.names) 0 tree.main
