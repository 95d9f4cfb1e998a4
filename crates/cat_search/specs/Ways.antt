-- The answers that lead through a tree to a node, and the region that they leave. The last one stands first.
use Rattle.std.specs.Prelude.{ℕ, nat_lt, Bool, true, false, if◌then◌else◌, List, [], ◌∷◌}
use Rattle.std.specs.List.{list_all}
use Rattle.cat_region.specs.Regions.{Constraints}
use Rattle.cat_guard.specs.declared.table.Atom.{Atom}
use Rattle.cat_guard.specs.declared.tree.TreeNode.{TreeNode}
use Rattle.cat_guard.specs.declared.tree.TreeNode.TheVariants as node
use Rattle.cat_guard.specs.Trees.{answering}
use Rattle.cat_search.specs.declared.way.Answer.{Answer}

-- whether answers are to the first atoms, of that number
abbrev pub ask_below : ℕ → List Answer → Bool
ask_below bound way = list_all (λ n. nat_lt n.atom bound) way

-- what answers leave of a region
abbrev pub led_to : List Atom → Constraints → List Answer → Constraints
led_to atoms base [] = base
led_to atoms base (n ∷ way) = answering atoms (led_to atoms base way) n.atom n.yes

-- the way to the false side of the last split on whose true side a way is, where there is one
abbrev pub turned : List Answer → List Answer
turned [] = []
turned (n ∷ way) = if n.yes then record { atom = n.atom; yes = false } ∷ way else turned way

-- the way to the node behind one in preorder: the true side of a split, and else the next false side
abbrev pub passed : TreeNode → List Answer → List Answer
passed (node.Split a) way = record { atom = a; yes = true } ∷ way
passed node.Leaf way = turned way
passed node.Rest way = turned way

-- the way to the node behind some nodes, of which the first is at the end of that way
abbrev pub way_from : List Answer → List TreeNode → List Answer
way_from way [] = way
way_from way (n ∷ ns) = way_from (passed n way) ns
