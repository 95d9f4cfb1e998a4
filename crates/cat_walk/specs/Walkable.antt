-- Which trees with citations can be walked.
use Rattle.std.specs.Prelude.{◌≤◌, ℕ, nat_lt, Bool, true, ◌&&◌, IsTrue, List, [], ◌∷◌, Option, None, Some}
use Rattle.std.specs.List.{list_all}
use Rattle.cat_guard.specs.declared.tree.CitedNode.{CitedNode}
use Rattle.cat_guard.specs.declared.tree.CitedNode.TheVariants as cited
use Rattle.cat_guard.specs.declared.tree.CitedTree.{CitedTree}
use Rattle.cat_guard.specs.Trees.{Tree, height}
use Rattle.cat_guard.specs.Trees as tree
use Rattle.cat_walk.specs.LeafPlaces.{lists_of}

-- the splits of a tree are on atoms that pass a test
abbrev pub splits_pass : (ℕ → Bool) → Tree → Bool
splits_pass test tree.Leaf = true
splits_pass test tree.Rest = true
splits_pass test (tree.Split a left right) = test a && splits_pass test left && splits_pass test right

-- the splits of a tree are on the first atoms, of that number
abbrev pub splits_below : ℕ → Tree → Bool
splits_below atoms t = splits_pass (λ a. nat_lt a atoms) t

-- a tree can be walked that is there, splits on the first atoms of that number and is no higher than the room
abbrev pub IsWalkable : ℕ → ℕ → Option Tree → Type 0
IsWalkable atoms room None = ⊥
IsWalkable atoms room (Some t) = IsTrue (splits_below atoms t) × (height t ≤ room)

-- ---- by what is written

-- the splits of a list are on atoms that pass a test
abbrev pub nodes_pass : (ℕ → Bool) → List CitedNode → Bool
nodes_pass test [] = true
nodes_pass test (cited.Leaf ∷ ns) = nodes_pass test ns
nodes_pass test (cited.Split a ∷ ns) = test a && nodes_pass test ns
nodes_pass test (cited.Cite i ∷ ns) = nodes_pass test ns

-- the splits of each list in which a tree is written are on the first atoms, of that number
abbrev pub written_below : ℕ → CitedTree → Bool
written_below atoms c = list_all (nodes_pass (λ a. nat_lt a atoms)) (lists_of c)
