use Rattle.std.proofs.Common.{◌≡◌, ◌++◌, take}
use Rattle.std.specs.Prelude.{flat_map}
use Rattle.cat_names.specs.Heights.{high_list, variable_types}
use Rattle.cat_declare.specs.inside.Measuring.{measured, types_measured}
use Rattle.cat_declare.proofs.heights.Measures.add_variables.Given as goal

abbrev pub invariant-loop-variable : goal.invariant-loop-variable
invariant-loop-variable l = l.faults ≡ l.fn.faults
    ++ flat_map (λ v. flat_map (high_list (measured l.self) (types_measured l.self)) (variable_types v))
    (take l.variable-index l.variables)
