use Rattle.std.proofs.Common.{◌≡◌, ◌+◌, ◌-◌, ◌*◌, drop}
use Rattle.cat_pool.specs.Nodes.{seen_at}
use Rattle.cat_pool.specs.Loading.{node_counts}
use Rattle.cat_pool.proofs.unloading.+counting.Given as goal

abbrev pub decreases-left_by : goal.decreases-left_by
decreases-left_by l = 2 * l.r + 1

abbrev pub decreases-left_by_all : goal.decreases-left_by_all
decreases-left_by_all l = 2 * l.of

abbrev pub invariant-left_by_all-loop-part : goal.invariant-left_by_all-loop-part
invariant-left_by_all-loop-part l =
    l.left - node_counts (seen_at l.pool (drop l.part-index l.parts)) ≡ l.fn.left - node_counts (seen_at l.pool l.parts)
