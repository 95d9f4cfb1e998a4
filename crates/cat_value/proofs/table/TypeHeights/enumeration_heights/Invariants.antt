use Rattle.std.proofs.Common.{◌≡◌, ◌+◌, map, take}
use Rattle.cat_value.specs.Heights.{height_to, highest_content}
use Rattle.cat_value.proofs.table.TypeHeights.enumeration_heights.Given as goal

abbrev pub invariant-loop-enumeration : goal.invariant-loop-enumeration
invariant-loop-enumeration l = l.made
    ≡ map (λ e. 1 + highest_content (height_to l.structures l.enumerations l.depth) e.cases)
    (take l.enumeration-index l.enumerations)
