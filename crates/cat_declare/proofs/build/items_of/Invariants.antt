use Rattle.std.proofs.Common.{◌≡◌, ◌++◌, map, take}
use Rattle.std.specs.Prelude.{flat_map}
use Rattle.cat_declare.specs.inside.Made.{item_made, cut, variable_faults}
use Rattle.cat_declare.specs.inside.Tabling.{types_at, scopes_at}
use Rattle.cat_declare.proofs.build.items_of.Given as goal

abbrev pub invariant-loop-variable : goal.invariant-loop-variable
invariant-loop-variable l =
    (l.made ≡ map (item_made cut (types_at l.tables) (scopes_at l.tables)) (take l.variable-index l.variables))
    × (l.faults ≡ l.fn.faults
    ++ flat_map (variable_faults (types_at l.tables) (scopes_at l.tables)) (take l.variable-index l.variables))
