-- Worked examples of pools.
use Rattle.std.proofs.Common.{◌≡◌, ℕ, pos, List, [], ◌∷◌, Some, None, refl, rules}
use Rattle.cat_value.specs.declared.value.Value.{Value}
use Rattle.cat_value.specs.declared.value.Value.TheVariants as flat
use Rattle.cat_value.specs.declared.value.Value.TheViews as value
use Rattle.cat_value.specs.declared.value.Value.TheFolds.{fold_out-Value}
use Rattle.cat_pool.specs.declared.node.PoolNode.{PoolNode}
use Rattle.cat_pool.specs.declared.node.PoolNode.TheVariants as node
use Rattle.cat_pool.specs.Nodes.{Standing, kept_parts, values}
use Rattle.cat_pool.specs.Marks.{mark_of}
use Rattle.cat_pool.specs.Loading.{count_at, node_count}
use Rattle.cat_pool.specs.inside.Laid.{seen}

-- two numbers, the list of them, and a case of it
abbrev nodes : List PoolNode
nodes =
    node.Integer (pos 1) ∷ node.Integer (pos 2) ∷ node.List (record { start = 0; end = 2 }) ∷ node.Case 3 (Some 2) ∷ []

abbrev stand : List Standing
stand = seen (0 ∷ 1 ∷ []) [] nodes

abbrev both : Value
both = value.List (flat.Integer (pos 1) ∷ flat.Integer (pos 2) ∷ [])

nodes_have_values : values stand ≡ flat.Integer (pos 1) ∷ flat.Integer (pos 2) ∷ both ∷ value.Case 3 (Some both) ∷ []
nodes_have_values = refl

lists_keep_references : kept_parts stand ≡ 0 ∷ 1 ∷ []
lists_keep_references = refl

marks_are_two_lengths : mark_of stand ≡ record { nodes = 4; parts = 2 }
marks_are_two_lengths = refl

a_list_of_two_has_three_nodes : node_count both ≡ 3
unfolding node_count
a_list_of_two_has_three_nodes = search (rules, value.the_lemmas, fold_out-Value ℕ count_at)
