use Rattle.std.proofs.Common.{take}
use Rattle.std.specs.List.{AllZip}
use Rattle.cat_check_names.specs.Table.{IsTableOf}
use Rattle.cat_check_names.proofs.building.tables_of_fields.Given as goal

abbrev pub invariant-loop-structure : goal.invariant-loop-structure
invariant-loop-structure l =
    AllZip (λ s table. IsTableOf (λ f. f.name) s.fields table) (take l.structure-index l.decls.structures) l.tables
