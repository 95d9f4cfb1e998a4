use Rattle.std.proofs.Common.{◌≡◌, ◌++◌, take}
use Rattle.std.specs.Prelude.{flat_map, option_to_list}
use Rattle.cat_names.specs.Heights.{high_list}
use Rattle.cat_declare.specs.inside.Measuring.{measured, types_measured}
use Rattle.cat_declare.proofs.heights.Measures.add_cases.Given as goal

abbrev pub invariant-loop-case : goal.invariant-loop-case
invariant-loop-case l = l.faults ≡ l.fn.faults
    ++ flat_map (λ c. flat_map (high_list (measured l.self) (types_measured l.self)) (option_to_list c.content))
    (take l.case-index l.cases)
