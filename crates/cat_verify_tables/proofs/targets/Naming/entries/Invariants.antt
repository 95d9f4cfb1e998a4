use Rattle.std.proofs.Common.{[], take}
use Rattle.cat_verify_tables.specs.inside.Entries.{AreTold}
use Rattle.cat_verify_tables.specs.inside.TargetNaming.{IsEntryOf}
use Rattle.cat_verify_tables.proofs.targets.Naming.entries.Given as goal

abbrev pub invariant-loop-at : goal.invariant-loop-at
invariant-loop-at l = AreTold (λ _. IsEntryOf l.self.decls.now l.self.files) [] (take l.at l.lines) l.entries
