use Rattle.std.proofs.Common.{◌≡◌, ◌++◌, map, take}
use Rattle.std.specs.Prelude.{flat_map}
use Rattle.cat_declare.specs.inside.Made.{scope_made, cut, variable_faults}
use Rattle.cat_declare.specs.inside.Tabling.{types_at, scopes_at}
use Rattle.cat_declare.specs.inside.Writings.{as_pair}
use Rattle.cat_declare.proofs.build.scopes_of.Given as goal

abbrev pub invariant-loop-scope : goal.invariant-loop-scope
invariant-loop-scope l =
    (l.made ≡ map (λ s. scope_made cut (types_at l.tables) (scopes_at l.tables) (as_pair s))
    (take l.scope-index l.scopes))
    × (l.faults ≡ l.fn.faults ++ flat_map (λ s. flat_map (variable_faults (types_at l.tables) (scopes_at l.tables))
    s.parts.now) (take l.scope-index l.scopes))
