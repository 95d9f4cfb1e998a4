use Rattle.std.proofs.Common.{◌≡◌, nat_le, drop}
use Rattle.cat_value.specs.Declarations.{highest}
use Rattle.cat_value.specs.Heights.{height_to, highest_field}
use Rattle.cat_declare.specs.inside.Measuring.{measured}
use Rattle.cat_declare.proofs.heights.Measures.are_low_fields.Given as goal

abbrev pub invariant-loop-field : goal.invariant-loop-field
invariant-loop-field l =
    nat_le (highest_field (height_to (measured l.self).structures (measured l.self).enumerations highest)
    (drop l.field-index l.fields)) highest
    ≡ nat_le (highest_field (height_to (measured l.self).structures (measured l.self).enumerations highest) l.fields)
    highest
