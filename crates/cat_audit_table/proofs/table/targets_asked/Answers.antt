use Rattle.cat_audit_table.specs.inside.Added.{targets_in}
use Rattle.cat_audit_table.proofs.Steps.{scene_table}
use Rattle.cat_audit_table.proofs.table.targets_asked.Goals as goal

pub returns : goal.returns
returns c =
    scene_table c.args.scene.now (targets_in c.args.forest.now) c.new-numbering.result c.table_targets.new.numbering
    c.in_ok-targets.targets (c.new-numbering.ensures c.args.scene.now.items.now) c.in_ok-targets.ensures
