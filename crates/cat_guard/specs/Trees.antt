-- Decision trees, and where they are closed.
use Rattle.std.specs.Prelude.{◌≡◌, ℕ, ◌+◌, ◌&&◌, max, nat_eq, Bool, true, false, List, [], ◌∷◌, ◌++◌, Option, Some}
use Rattle.std.specs.Prelude.{None, slice_get}
use Rattle.cat_region.specs.Regions.{Constraints, Valuation, Admits, with_narrowing, IsEmpty}
use Rattle.cat_guard.specs.declared.table.Atom.{Atom}
use Rattle.cat_guard.specs.declared.table.TableTarget.{TableTarget}
use Rattle.cat_guard.specs.declared.tree.TreeNode.{TreeNode}
use Rattle.cat_guard.specs.declared.tree.TreeNode.TheVariants as node
use Rattle.cat_guard.specs.declared.tree.CitedNode.{CitedNode}
use Rattle.cat_guard.specs.declared.tree.CitedNode.TheVariants as cited
use Rattle.cat_guard.specs.declared.tree.CitedTree.{CitedTree}
use Rattle.cat_guard.specs.TableJudging.{Covers}
use Rattle.cat_guard.specs.Valuations.{holds_at}

-- a leaf, what is not explored, or a split on an atom with the sides where it is true and where it is false
pub data Tree : Type 0 where
  Leaf : Tree
  Rest : Tree
  Split : ℕ → Tree → Tree → Tree

-- ---- trees as their nodes in preorder

-- a split in front of its two sides, where these follow
abbrev pub split_before : ℕ → List Tree → Option (List Tree)
split_before a [] = None
split_before a (left ∷ []) = None
split_before a (left ∷ right ∷ more) = Some (Split a left right ∷ more)

-- a node in front of the trees that follow
abbrev pub node_before : TreeNode → Option (List Tree) → Option (List Tree)
node_before n None = None
node_before node.Leaf (Some trees) = Some (Leaf ∷ trees)
node_before node.Rest (Some trees) = Some (Rest ∷ trees)
node_before (node.Split a) (Some trees) = split_before a trees

-- the trees that nodes are, one behind the other
abbrev pub trees_of : List TreeNode → Option (List Tree)
trees_of [] = Some []
trees_of (n ∷ ns) = node_before n (trees_of ns)

-- the one tree of a list
abbrev pub one_tree : Option (List Tree) → Option Tree
one_tree None = None
one_tree (Some []) = None
one_tree (Some (t ∷ [])) = Some t
one_tree (Some (t ∷ u ∷ ts)) = None

-- the tree that nodes in preorder are, where they are one
abbrev pub tree_of : List TreeNode → Option Tree
tree_of nodes = one_tree (trees_of nodes)

-- the greatest number of splits above a node
abbrev pub height : Tree → ℕ
height Leaf = 0
height Rest = 0
height (Split a left right) = 1 + max (height left) (height right)

-- a tree of that height
abbrev pub has_height : ℕ → Option Tree → Bool
has_height depth None = false
has_height depth (Some t) = nat_eq (height t) depth

-- nodes are one tree, of that height
unfoldable pub is_tree : List TreeNode → ℕ → Bool
is_tree nodes depth = has_height depth (tree_of nodes)

-- nothing is left to explore
abbrev pub is_whole : Tree → Bool
is_whole Leaf = true
is_whole Rest = false
is_whole (Split a left right) = is_whole left && is_whole right

-- the number of leaves
abbrev pub leaves : Tree → ℕ
leaves Leaf = 1
leaves Rest = 0
leaves (Split a left right) = leaves left + leaves right

-- ---- citations

-- a named tree in front of the trees that follow, where there is one
abbrev pub named_before : Option Tree → List Tree → Option (List Tree)
named_before None trees = None
named_before (Some t) trees = Some (t ∷ trees)

-- a node in front of the trees that follow, where a citation is replaced by the named tree
abbrev pub cited_before : List Tree → CitedNode → Option (List Tree) → Option (List Tree)
cited_before names n None = None
cited_before names cited.Leaf (Some trees) = Some (Leaf ∷ trees)
cited_before names (cited.Split a) (Some trees) = split_before a trees
cited_before names (cited.Cite i) (Some trees) = named_before (slice_get names i) trees

-- the trees that nodes are, with citations replaced
abbrev pub cited_trees_of : List Tree → List CitedNode → Option (List Tree)
cited_trees_of names [] = Some []
cited_trees_of names (n ∷ ns) = cited_before names n (cited_trees_of names ns)

-- the tree that nodes are, with citations replaced
abbrev pub cited_tree_of : List Tree → List CitedNode → Option Tree
cited_tree_of names nodes = one_tree (cited_trees_of names nodes)

-- one named tree more, behind those that are named already
abbrev pub name_behind : List Tree → Option Tree → Option (List Tree)
name_behind names None = None
name_behind names (Some t) = Some (names ++ t ∷ [])

-- the next named tree, with its citations of earlier ones replaced
abbrev pub with_named : Option (List Tree) → List CitedNode → Option (List Tree)
with_named None nodes = None
with_named (Some names) nodes = name_behind names (cited_tree_of names nodes)

-- the named trees, behind those that are named already
abbrev pub named_from : Option (List Tree) → List (List CitedNode) → Option (List Tree)
named_from names [] = names
named_from names (nodes ∷ more) = named_from (with_named names nodes) more

-- the tree with its citations replaced, where they can be
abbrev pub main_of : Option (List Tree) → List CitedNode → Option Tree
main_of None nodes = None
main_of (Some names) nodes = cited_tree_of names nodes

-- the tree that a tree with citations stands for
abbrev pub expanded : CitedTree → Option Tree
expanded tree = main_of (named_from (Some []) tree.names) tree.main

-- ---- closed trees

-- a region where an atom has an answer
abbrev pub with_answer : Constraints → Option Atom → Bool → Constraints
with_answer region None b = region
with_answer region (Some atom) b = with_narrowing region (record { dim = atom.term; cut = atom.cut; yes = b })

-- a region where the atom of that number has an answer
abbrev pub answering : List Atom → Constraints → ℕ → Bool → Constraints
answering atoms region a b = with_answer region (slice_get atoms a) b

-- a leaf is closed in a region where each valuation that it admits is covered, a rest where it admits none, and a split
-- where its sides are, in the regions where the atom is true and where it is false
abbrev pub Closed : List Atom → TableTarget → Constraints → Tree → Type 0
Closed atoms t region Leaf = (v : Valuation) → Admits region v → Covers t (holds_at atoms v)
Closed atoms t region Rest = IsEmpty region
Closed atoms t region (Split a left right) =
    Closed atoms t (answering atoms region a true) left × Closed atoms t (answering atoms region a false) right

-- nodes are one tree, which is closed
abbrev pub AreClosed : List Atom → TableTarget → Constraints → List TreeNode → Type 0
AreClosed atoms t region nodes = (tree : Tree) × (tree_of nodes ≡ Some tree) × Closed atoms t region tree

-- a tree with citations is closed where the tree that it stands for is
abbrev pub IsCitedClosed : List Atom → TableTarget → Constraints → CitedTree → Type 0
IsCitedClosed atoms t region cited = (tree : Tree) × (expanded cited ≡ Some tree) × Closed atoms t region tree
