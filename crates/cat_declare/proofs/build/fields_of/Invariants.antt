use Rattle.std.proofs.Common.{◌≡◌, ◌++◌, map, take}
use Rattle.cat_declare.specs.inside.Made.{field_made, cut, field_faults}
use Rattle.cat_declare.specs.inside.Tabling.{types_at}
use Rattle.cat_declare.proofs.build.fields_of.Given as goal

abbrev pub invariant-loop-field : goal.invariant-loop-field
invariant-loop-field l = (l.made ≡ map (field_made cut (types_at l.tables)) (take l.field-index l.fields))
    × (l.faults ≡ l.fn.faults ++ field_faults (types_at l.tables) (take l.field-index l.fields))
