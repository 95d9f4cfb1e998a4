use Rattle.std.proofs.Common.{◌≡◌, ◌++◌, take}
use Rattle.std.specs.Prelude.{flat_map}
use Rattle.cat_names.specs.Heights.{high_list}
use Rattle.cat_declare.specs.inside.Measuring.{measured, types_measured}
use Rattle.cat_declare.proofs.heights.Measures.add_fields.Given as goal

abbrev pub invariant-loop-field : goal.invariant-loop-field
invariant-loop-field l = l.faults ≡ l.fn.faults
    ++ flat_map (λ f. high_list (measured l.self) (types_measured l.self) f.ty)
    (take l.field-index l.fields)
