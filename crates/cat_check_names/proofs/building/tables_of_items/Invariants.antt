use Rattle.std.proofs.Common.{take}
use Rattle.std.specs.List.{AllZip}
use Rattle.cat_check_names.specs.Table.{IsTableOf}
use Rattle.cat_check_names.proofs.building.tables_of_items.Given as goal

abbrev pub invariant-loop-scope : goal.invariant-loop-scope
invariant-loop-scope l =
    AllZip (λ s table. IsTableOf (λ i. i.name) s.items table) (take l.scope-index l.decls.scopes) l.tables
