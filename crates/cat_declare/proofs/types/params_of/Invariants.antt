use Rattle.std.proofs.Common.{◌≡◌, ◌++◌, map, take}
use Rattle.cat_declare.specs.inside.Made.{type_made, cut, field_faults}
use Rattle.cat_declare.specs.inside.Tabling.{types_at}
use Rattle.cat_declare.proofs.types.params_of.Given as goal

abbrev pub invariant-loop-param : goal.invariant-loop-param
invariant-loop-param l = (l.types ≡ map (λ f. type_made cut (types_at l.tables) f.ty) (take l.param-index l.params))
    × (l.faults ≡ l.fn.faults ++ field_faults (types_at l.tables) (take l.param-index l.params))
