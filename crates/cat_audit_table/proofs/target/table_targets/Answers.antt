use Rattle.std.proofs.Common.{sym}
use Rattle.cat_audit_table.proofs.Steps.{one_target_more}
use Rattle.cat_audit_table.proofs.target.table_targets.Goals as goal

pub loop-target-preserved : goal.loop-target-preserved
loop-target-preserved c =
    one_target_more c.args.scene.now c.args.forest.now c.loop-target.target-index c.target-item.result
    c.args.numbering.now c.loop-target.numbering c.table_target.new.numbering c.loop-target.targets c.push.new.self
    c.in_ok-table_target.field-0 c.loop-target-test.true (sym c.target-item.is) c.loop-target.invariant
    c.in_ok-table_target.ensures c.in_ok-push.ensures.ok
