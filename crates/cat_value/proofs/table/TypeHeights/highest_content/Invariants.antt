use Rattle.std.proofs.Common.{◌≡◌, ◌≤◌, ◌+◌, max, drop}
use Rattle.cat_value.specs.Heights.{height_to, highest_content}
use Rattle.cat_value.proofs.table.TypeHeights.highest_content.Given as goal

abbrev pub invariant-loop-case : goal.invariant-loop-case
invariant-loop-case l = (l.highest ≤ l.depth + 1)
    × (max l.highest (highest_content (height_to l.structures l.enumerations l.depth) (drop l.case-index l.cases))
    ≡ highest_content (height_to l.structures l.enumerations l.depth) l.cases)
