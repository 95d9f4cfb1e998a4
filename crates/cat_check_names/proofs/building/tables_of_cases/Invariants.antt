use Rattle.std.proofs.Common.{take}
use Rattle.std.specs.List.{AllZip}
use Rattle.cat_check_names.specs.Table.{IsTableOf}
use Rattle.cat_check_names.specs.CaseTable.{AreOnlyCases}
use Rattle.cat_check_names.proofs.building.tables_of_cases.Given as goal

abbrev pub invariant-loop-number : goal.invariant-loop-number
invariant-loop-number l =
    AllZip (λ e table. IsTableOf (λ k. k.name) e.cases table) (take l.number l.decls.enumerations) l.tables
    × AreOnlyCases (take l.number l.decls.enumerations) l.only_cases
