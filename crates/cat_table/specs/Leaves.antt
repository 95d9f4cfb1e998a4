-- How many leaves nodes have.
use Rattle.std.specs.Prelude.{◌≡◌, ℕ, ◌+◌, List, [], ◌∷◌, refl}
use Rattle.cat_guard.specs.declared.tree.TreeNode.{TreeNode}
use Rattle.cat_guard.specs.declared.tree.TreeNode.TheVariants as node

-- a leaf counts for one
abbrev pub leaf_of : TreeNode → ℕ
leaf_of node.Leaf = 1
leaf_of n = 0

-- the leaves among nodes
abbrev pub leaves_among : List TreeNode → ℕ
leaves_among [] = 0
leaves_among (n ∷ ns) = leaf_of n + leaves_among ns

-- ---- worked example

a_split_has_two : leaves_among (node.Split 3 ∷ node.Leaf ∷ node.Split 4 ∷ node.Rest ∷ node.Leaf ∷ []) ≡ 2
a_split_has_two = refl
