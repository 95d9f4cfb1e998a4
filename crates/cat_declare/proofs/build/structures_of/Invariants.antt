use Rattle.std.proofs.Common.{◌≡◌, ◌++◌, map, take}
use Rattle.std.specs.Prelude.{flat_map}
use Rattle.cat_declare.specs.inside.Made.{structure_made, cut, field_faults}
use Rattle.cat_declare.specs.inside.Tabling.{types_at}
use Rattle.cat_declare.specs.inside.Writings.{as_pair}
use Rattle.cat_declare.proofs.build.structures_of.Given as goal

abbrev pub invariant-loop-structure : goal.invariant-loop-structure
invariant-loop-structure l =
    (l.made ≡ map (λ s. structure_made cut (types_at l.tables) (as_pair s)) (take l.structure-index l.structures))
    × (l.faults ≡ l.fn.faults
    ++ flat_map (λ s. field_faults (types_at l.tables) s.parts.now) (take l.structure-index l.structures))
