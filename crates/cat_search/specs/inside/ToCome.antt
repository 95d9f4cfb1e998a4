-- Trees that are still to come behind some nodes, one behind the other, each in the region at the end of its path.
use Rattle.std.specs.Prelude.{ℕ, ◌+◌, max, List, [], ◌∷◌, ◌++◌, length}
use Rattle.std.specs.Prelude.{Option, Some}
use Rattle.cat_region.specs.declared.narrowing.Narrowing.{Narrowing}
use Rattle.cat_region.specs.Regions.{Constraints}
use Rattle.cat_region.specs.Sides.{along}
use Rattle.cat_guard.specs.declared.table.Atom.{Atom}
use Rattle.cat_guard.specs.declared.table.TableTarget.{TableTarget}
use Rattle.cat_guard.specs.declared.tree.TreeNode.{TreeNode}
use Rattle.cat_guard.specs.declared.tree.TreeNode.TheVariants as node
use Rattle.cat_guard.specs.Trees.{Tree, node_before, height}
use Rattle.cat_search.specs.Searched.{IsSearched, Reached, leaves_from, size}

-- nodes in front of trees
abbrev pub in_front : List TreeNode → List Tree → Option (List Tree)
in_front [] trees = Some trees
in_front (n ∷ ns) trees = node_before n (in_front ns trees)

-- each path has a tree that is searched in its region
abbrev pub AreSearched : List Atom → TableTarget → Constraints → List (List Narrowing) → List Tree → Type 0
AreSearched atoms t base [] [] = Unit {0}
AreSearched atoms t base [] (tree ∷ trees) = ⊥
AreSearched atoms t base (path ∷ paths) [] = ⊥
AreSearched atoms t base (path ∷ paths) (tree ∷ trees) =
    IsSearched atoms t (along base path) tree × AreSearched atoms t base paths trees

-- the greatest number of splits above a node: of one that is written, or of one in these trees
abbrev pub highest : ℕ → List (List Narrowing) → List Tree → ℕ
highest depth [] trees = depth
highest depth (path ∷ paths) [] = depth
highest depth (path ∷ paths) (tree ∷ trees) = highest (max depth (length path + height tree)) paths trees

-- the leaves of these trees, of which the first node has that place
abbrev pub leaves_along : List Atom → Constraints → ℕ → List (List Narrowing) → List Tree → List Reached
leaves_along atoms base place [] trees = []
leaves_along atoms base place (path ∷ paths) [] = []
leaves_along atoms base place (path ∷ paths) (tree ∷ trees) =
    leaves_from atoms place (along base path) tree ++ leaves_along atoms base (place + size tree) paths trees

-- ---- counts

-- the leaves among some nodes, and the rests
abbrev pub leaf_nodes : List TreeNode → ℕ
leaf_nodes [] = 0
leaf_nodes (node.Leaf ∷ ns) = 1 + leaf_nodes ns
leaf_nodes (n ∷ ns) = leaf_nodes ns

-- how many nodes were left undecided
abbrev pub rest_nodes : List TreeNode → ℕ
rest_nodes [] = 0
rest_nodes (node.Rest ∷ ns) = 1 + rest_nodes ns
rest_nodes (n ∷ ns) = rest_nodes ns
