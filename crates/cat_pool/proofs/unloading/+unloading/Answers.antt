use Rattle.std.proofs.Common.{◌∙◌, ◌<◌, arith, get_or}
use Rattle.cat_pool.proofs.LoadingLemmas.{part_below, unloaded_more}
use Rattle.cat_pool.proofs.unloading.+unloading.Goals as goal

pub unload_all-unload_node-requires : goal.unload_all-unload_node-requires
unload_all-unload_node-requires t c =
    let lower : get_or c.args.parts.now c.loop-part.part-index 0 < c.args.of
    = part_below c.args.of c.args.parts.now c.loop-part.part-index c.requires.parts c.loop-part-test.true in
    let below = c.requires.of in
    (omega (arith, lower), omega (arith, lower, below))

pub unload_all-loop-part-preserved : goal.unload_all-loop-part-preserved
unload_all-loop-part-preserved t c =
    c.in_ok-push.ensures.ok
    ∙ unloaded_more c.args.pool.now c.args.parts.now c.loop-part.part-index c.loop-part.values
    c.in_ok-unload_node.field-0 c.loop-part-test.true c.loop-part.invariant c.in_ok-unload_node.ensures
