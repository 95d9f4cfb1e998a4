use Rattle.std.proofs.Common.{◌≡◌, ◌≤◌, ◌+◌, max, drop}
use Rattle.cat_value.specs.Heights.{height_to, highest_field}
use Rattle.cat_value.proofs.table.TypeHeights.highest_field.Given as goal

abbrev pub invariant-loop-field : goal.invariant-loop-field
invariant-loop-field l = (l.highest ≤ l.depth + 1)
    × (max l.highest (highest_field (height_to l.structures l.enumerations l.depth) (drop l.field-index l.fields))
    ≡ highest_field (height_to l.structures l.enumerations l.depth) l.fields)
