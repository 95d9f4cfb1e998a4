use Rattle.std.proofs.Common.{sym, ◌∙◌}
use Rattle.cat_except.specs.inside.Finding.{kind_of}
use Rattle.cat_except.proofs.Firsts.{here, behind, in_targets_step}
use Rattle.cat_except.proofs.faults.fault_in.Goals as goal

pub returns-in-Some : goal.returns-in-Some
returns-in-Some c =
    here _ c.in-Some.pos _ _ _ (in_targets_step (kind_of c.args.kind) c.args.defs.now c.args.targets.now
    c.loop-groups.groups-index c.groups-item.result c.loop-groups-test.true (sym c.groups-item.is))
    c.loop-groups.invariant (sym c.fault_in_target.ensures ∙ c.in-Some.is)

pub loop-groups-preserved : goal.loop-groups-preserved
loop-groups-preserved c =
    behind _ _ _ _ (in_targets_step (kind_of c.args.kind) c.args.defs.now c.args.targets.now
    c.loop-groups.groups-index c.groups-item.result c.loop-groups-test.true (sym c.groups-item.is))
    c.loop-groups.invariant (sym c.fault_in_target.ensures ∙ c.in_default.is)
