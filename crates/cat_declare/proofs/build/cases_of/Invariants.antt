use Rattle.std.proofs.Common.{◌≡◌, ◌++◌, map, take}
use Rattle.cat_declare.specs.inside.Made.{case_made, cut, case_faults}
use Rattle.cat_declare.specs.inside.Tabling.{types_at}
use Rattle.cat_declare.proofs.build.cases_of.Given as goal

abbrev pub invariant-loop-case : goal.invariant-loop-case
invariant-loop-case l = (l.made ≡ map (case_made cut (types_at l.tables)) (take l.case-index l.cases))
    × (l.faults ≡ l.fn.faults ++ case_faults (types_at l.tables) (take l.case-index l.cases))
