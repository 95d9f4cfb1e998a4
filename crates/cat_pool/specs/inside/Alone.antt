-- Nodes that stand for values by themselves.
use Rattle.std.specs.Prelude.{◌≡◌, List}
use Rattle.cat_value.specs.declared.value.Value.{Value}
use Rattle.cat_pool.specs.declared.node.PoolNode.{PoolNode}
use Rattle.cat_pool.specs.Nodes.{IsPlain, Standing, value_in}
use Rattle.cat_pool.specs.Loading.{node_count}

-- a node stands for a value in any pool, and it is the value's only node
pub record IsAlone (v : Value) (n : PoolNode) : Type 0 where
  pub plain : (nodes : List Standing) → IsPlain nodes n
  pub value : (nodes : List Standing) → value_in nodes n ≡ v
  pub count : node_count v ≡ 1
