-- The nodes that are met, as those of a tree without citations.
use Rattle.std.specs.Prelude.{List, [], ◌∷◌}
use Rattle.cat_guard.specs.declared.tree.TreeNode.{TreeNode}
use Rattle.cat_guard.specs.declared.tree.TreeNode.TheVariants as node
use Rattle.cat_walk.specs.declared.meeting.Met.{Met}
use Rattle.cat_walk.specs.declared.meeting.Met.TheVariants as met

-- the nodes that are met, but for citations and the ends of lists
abbrev pub nodes_met : List Met → List TreeNode
nodes_met [] = []
nodes_met (met.Split a ∷ ms) = node.Split a ∷ nodes_met ms
nodes_met (met.Leaf place ∷ ms) = node.Leaf ∷ nodes_met ms
nodes_met (met.Cite i ∷ ms) = nodes_met ms
nodes_met (met.End ∷ ms) = nodes_met ms
