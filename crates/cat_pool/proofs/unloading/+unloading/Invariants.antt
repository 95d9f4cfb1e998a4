use Rattle.std.proofs.Common.{◌≡◌, ◌+◌, ◌*◌, take}
use Rattle.cat_pool.specs.Nodes.{seen_at}
use Rattle.cat_pool.proofs.unloading.+unloading.Given as goal

abbrev pub decreases-unload_node : goal.decreases-unload_node
decreases-unload_node l = 2 * l.r + 1

abbrev pub decreases-unload_all : goal.decreases-unload_all
decreases-unload_all l = 2 * l.of

abbrev pub invariant-unload_all-loop-part : goal.invariant-unload_all-loop-part
invariant-unload_all-loop-part l = l.values ≡ seen_at l.pool (take l.part-index l.parts)
