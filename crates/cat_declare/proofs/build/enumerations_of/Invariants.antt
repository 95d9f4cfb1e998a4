use Rattle.std.proofs.Common.{◌≡◌, ◌++◌, map, take}
use Rattle.std.specs.Prelude.{flat_map}
use Rattle.cat_declare.specs.inside.Made.{enumeration_made, cut, case_faults}
use Rattle.cat_declare.specs.inside.Tabling.{types_at}
use Rattle.cat_declare.specs.inside.Writings.{as_pair}
use Rattle.cat_declare.proofs.build.enumerations_of.Given as goal

abbrev pub invariant-loop-enumeration : goal.invariant-loop-enumeration
invariant-loop-enumeration l =
    (l.made ≡ map (λ e. enumeration_made cut (types_at l.tables) (as_pair e)) (take l.enumeration-index l.enumerations))
    × (l.faults ≡ l.fn.faults
    ++ flat_map (λ e. case_faults (types_at l.tables) e.parts.now) (take l.enumeration-index l.enumerations))
