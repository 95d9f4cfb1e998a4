use Rattle.std.proofs.Common.{◌≡◌, ◌+◌, map, take}
use Rattle.cat_value.specs.Heights.{height_to, highest_field}
use Rattle.cat_value.proofs.table.TypeHeights.structure_heights.Given as goal

abbrev pub invariant-loop-structure : goal.invariant-loop-structure
invariant-loop-structure l = l.made
    ≡ map (λ s. 1 + highest_field (height_to l.structures l.enumerations l.depth) s.fields)
    (take l.structure-index l.structures)
