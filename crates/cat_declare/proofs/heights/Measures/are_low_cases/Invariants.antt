use Rattle.std.proofs.Common.{◌≡◌, nat_le, drop}
use Rattle.cat_value.specs.Declarations.{highest}
use Rattle.cat_value.specs.Heights.{height_to, highest_content}
use Rattle.cat_declare.specs.inside.Measuring.{measured}
use Rattle.cat_declare.proofs.heights.Measures.are_low_cases.Given as goal

abbrev pub invariant-loop-case : goal.invariant-loop-case
invariant-loop-case l =
    nat_le (highest_content (height_to (measured l.self).structures (measured l.self).enumerations highest)
    (drop l.case-index l.cases)) highest
    ≡ nat_le (highest_content (height_to (measured l.self).structures (measured l.self).enumerations highest) l.cases)
    highest
