-- How large the tree is that a tree with citations stands for.
use Rattle.std.specs.Prelude.{ℕ, ◌+◌, min, nat_lt, Bool, true, false, Option, None, Some}
use Rattle.cat_guard.specs.Trees.{Tree, leaves, height}
use Rattle.cat_walk.specs.declared.size.TreeSize.{TreeSize}

-- how many leaves a tree may have
abbrev pub most_leaves : ℕ
most_leaves = 16777216

-- one more
abbrev pub past_most : ℕ
past_most = most_leaves + 1

-- the numbers of leaves and of splits above one, of which past_most stands for any greater one
abbrev pub size_of : Tree → TreeSize
size_of t = record { leaves = min (leaves t) past_most; height = min (height t) past_most }

-- there is a tree
abbrev pub is_there : Option Tree → Bool
is_there None = false
is_there (Some t) = true

-- there is a tree, of no more leaves than a tree may have
abbrev pub is_small : Option Tree → Bool
is_small None = false
is_small (Some t) = nat_lt (leaves t) past_most
