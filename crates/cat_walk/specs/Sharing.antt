-- How a tree is written where its equal parts are written once.
use Rattle.std.specs.Prelude.{ℕ, suc, ◌+◌, nat_eq, nat_lt, Bool, true, false, ◌&&◌, if◌then◌else◌, List, [], ◌∷◌}
use Rattle.std.specs.Prelude.{◌++◌, map}
use Rattle.std.specs.Prelude.{filter, Option, None, Some}
use Rattle.std.specs.List.{list_any}
use Rattle.std.specs.Option.{option_map}
use Rattle.cat_guard.specs.declared.tree.CitedNode.{CitedNode}
use Rattle.cat_guard.specs.declared.tree.CitedNode.TheVariants as cited
use Rattle.cat_guard.specs.declared.tree.CitedTree.{CitedTree}
use Rattle.cat_guard.specs.Trees.{Tree, is_whole}
use Rattle.cat_guard.specs.Trees as tree

-- two trees are equal
abbrev pub same_tree : Tree → Tree → Bool
same_tree tree.Leaf tree.Leaf = true
same_tree tree.Leaf tree.Rest = false
same_tree tree.Leaf (tree.Split b m s) = false
same_tree tree.Rest tree.Leaf = false
same_tree tree.Rest tree.Rest = true
same_tree tree.Rest (tree.Split b m s) = false
same_tree (tree.Split a l r) tree.Leaf = false
same_tree (tree.Split a l r) tree.Rest = false
same_tree (tree.Split a l r) (tree.Split b m s) = nat_eq a b && same_tree l m && same_tree r s

-- a tree is among some
abbrev pub is_among : List Tree → Tree → Bool
is_among ts t = list_any (same_tree t) ts

-- the number of a tree among some, if it is one of them
abbrev pub number_in : List Tree → Tree → Option ℕ
number_in [] t = None
number_in (u ∷ us) t = if same_tree t u then Some 0 else option_map suc (number_in us t)

-- ---- the subtrees that get names

-- the subtrees with a split, one for each place, in postorder
abbrev pub subtrees : Tree → List Tree
subtrees tree.Leaf = []
subtrees tree.Rest = []
subtrees (tree.Split a left right) = subtrees left ++ subtrees right ++ tree.Split a left right ∷ []

-- one tree more, where it isn't among them
abbrev pub with_tree : List Tree → Tree → List Tree
with_tree known t = if is_among known t then known else known ++ t ∷ []

-- some trees, each once and in the order of their first occurrences, behind those that are known
abbrev pub with_all : List Tree → List Tree → List Tree
with_all known [] = known
with_all known (t ∷ ts) = with_all (with_tree known t) ts

-- how often a tree is among some
abbrev pub times_in : List Tree → Tree → ℕ
times_in [] t = 0
times_in (u ∷ us) t = (if same_tree t u then 1 else 0) + times_in us t

-- a subtree with a split occurs at two or more places of a tree
abbrev pub recurs_in : Tree → Tree → Bool
recurs_in t s = nat_lt 1 (times_in (subtrees t) s)

-- the subtrees that get names: those that do, in the postorder of their first occurrences
abbrev pub named_in : Tree → List Tree
named_in t = filter (recurs_in t) (with_all [] (subtrees t))

-- ---- how a tree is written

-- a citation of the name of that number, where there is one, and else these nodes
abbrev pub cited_or : Option ℕ → List CitedNode → List CitedNode
cited_or None nodes = nodes
cited_or (Some i) nodes = cited.Cite i ∷ []

-- a subtree in its place: where it has a name, a citation
abbrev pub written : List Tree → Tree → List CitedNode
written names tree.Leaf = cited.Leaf ∷ []
written names tree.Rest = []
written names (tree.Split a left right) =
    cited_or (number_in names (tree.Split a left right))
    (cited.Split a ∷ written names left ++ written names right)

-- a tree under its own name
abbrev pub body : List Tree → Tree → List CitedNode
body names tree.Leaf = cited.Leaf ∷ []
body names tree.Rest = []
body names (tree.Split a left right) = cited.Split a ∷ written names left ++ written names right

-- a tree with equal parts written once
abbrev pub shared : Tree → CitedTree
shared t = record { names = map (body (named_in t)) (named_in t); main = written (named_in t) t }

-- there is a tree, and nothing of it is left to explore
abbrev pub is_whole_tree : Option Tree → Bool
is_whole_tree None = false
is_whole_tree (Some t) = is_whole t
