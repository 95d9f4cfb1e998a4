-- The lines of a tree's leaves, by its nodes from one on.
use Rattle.std.specs.Prelude.{ℕ, true, List, [], ◌∷◌, ◌++◌, reverse}
use Rattle.cat_guard.specs.declared.table.Table.{Table}
use Rattle.cat_guard.specs.declared.table.TableTarget.{TableTarget}
use Rattle.cat_guard.specs.declared.tree.TreeNode.{TreeNode}
use Rattle.cat_guard.specs.declared.tree.TreeNode.TheVariants as node
use Rattle.cat_search.specs.declared.way.Answer.{Answer}
use Rattle.cat_search.specs.Searched.{everything}
use Rattle.cat_search.specs.Ways.{led_to, passed}
use Rattle.cat_table.specs.Conditions.{Naming}
use Rattle.cat_table.specs.Rows.{Row, row, row_text, ended}

-- the row of a leaf at the end of a way
abbrev pub row_at : Table → List Answer → Row
row_at table way = row (reverse way) (led_to table.atoms (everything table.terms) way) true

-- the line of a node at the end of a way, where it is a leaf
abbrev pub node_text : Naming → Table → TableTarget → List Answer → TreeNode → List ℕ
node_text ns table t way node.Leaf = ended (row_text ns table t (row_at table way))
node_text ns table t way n = []

-- the lines of the leaves among nodes, of which the first is at the end of that way
abbrev pub nodes_text : Naming → Table → TableTarget → List Answer → List TreeNode → List ℕ
nodes_text ns table t way [] = []
nodes_text ns table t way (n ∷ nodes) = node_text ns table t way n ++ nodes_text ns table t (passed n way) nodes
