use Rattle.std.proofs.Common.{take}
use Rattle.cat_except.specs.inside.Grouping.{defs_at}
use Rattle.cat_audit_table.specs.inside.Added.{AddsDefs}
use Rattle.cat_audit_table.proofs.defs.guard_defs.Given as goal

abbrev pub invariant-loop-number : goal.invariant-loop-number
invariant-loop-number l =
    AddsDefs l.scene (defs_at l.scene.defs.now (take l.number-index l.numbers)) l.initial.numbering l.numbering l.made
