use Rattle.std.proofs.Common.{List, [], take}
use Rattle.cat_value.specs.declared.declaration.Enumeration.{Enumeration}
use Rattle.cat_check_names.specs.Table.{IsTableOf}
use Rattle.cat_check_names.specs.inside.Counting.{AreCounted}
use Rattle.cat_check_names.proofs.building.table_of_cases.Given as goal

abbrev pub invariant-loop-number : goal.invariant-loop-number
invariant-loop-number l = IsTableOf (λ k. k.name) (take l.number l.cases) l.table
    × ((front : List Enumeration) → AreCounted front l.enumeration [] l.initial.only_cases
    → AreCounted front l.enumeration (take l.number l.cases) l.only_cases)
