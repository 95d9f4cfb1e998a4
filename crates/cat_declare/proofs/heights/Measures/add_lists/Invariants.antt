use Rattle.std.proofs.Common.{◌≡◌, ◌++◌, take}
use Rattle.std.specs.Prelude.{flat_map}
use Rattle.cat_names.specs.Heights.{high_list, types_written}
use Rattle.cat_declare.specs.inside.Measuring.{measured, types_measured}
use Rattle.cat_declare.proofs.heights.Measures.add_lists.Given as goal

abbrev pub invariant-loop-item : goal.invariant-loop-item
invariant-loop-item l = l.faults ≡ l.fn.faults
    ++ flat_map (λ i. flat_map (high_list (measured l.self) (types_measured l.self)) (types_written i))
    (take l.item-index l.items)
