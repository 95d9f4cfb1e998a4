use Rattle.std.proofs.Common.{take}
use Rattle.std.specs.List.{AllZip}
use Rattle.cat_check_names.specs.Tables.{AreOutputsOf}
use Rattle.cat_check_names.proofs.building.tables_of_outputs.Given as goal

abbrev pub invariant-loop-scope : goal.invariant-loop-scope
invariant-loop-scope l =
    AllZip (λ s outputs. AreOutputsOf s.items outputs) (take l.scope-index l.decls.scopes) l.tables
