use Rattle.std.proofs.Common.{sym}
use Rattle.cat_calc.proofs.Tables.{one_target_more}
use Rattle.cat_calc.proofs.table.target_table.Goals as goal

pub loop-index-preserved : goal.loop-index-preserved
loop-index-preserved c =
    one_target_more c.args.targets.now c.loop-index.index c.index-targets-index.result c.loop-index.table
    c.insert.new.self c.loop-index-test.true (sym c.index-targets-index.is) c.loop-index.invariant
    c.in_ok-insert.ensures.updates.0
