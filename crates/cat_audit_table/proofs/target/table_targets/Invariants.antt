use Rattle.std.proofs.Common.{take}
use Rattle.cat_audit_table.specs.inside.Added.{AddsTargets, targets_in}
use Rattle.cat_audit_table.proofs.target.table_targets.Given as goal

abbrev pub invariant-loop-target : goal.invariant-loop-target
invariant-loop-target l =
    AddsTargets l.scene (targets_in (take l.target-index l.forest)) l.initial.numbering l.numbering l.targets
