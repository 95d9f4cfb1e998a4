use Rattle.std.proofs.Common.{◌≡◌, ◌++◌, List, map, drop}
use Rattle.std.specs.Prelude.{filter}
use Rattle.cat_pos.specs.declared.pos.Pos.{Pos}
use Rattle.cat_dead.specs.Winners.{wins_nowhere}
use Rattle.cat_dead.specs.inside.Keys.{HasKeys}
use Rattle.cat_dead.proofs.winning.push_dead.Given as goal

abbrev pub invariant-loop-definition : goal.invariant-loop-definition
invariant-loop-definition l =
    (winners : List Pos) → HasKeys l.keys winners
    → l.dead ++ filter (wins_nowhere winners) (map (λ d. d.pos) (drop l.definition-index l.definitions))
    ≡ l.fn.dead ++ filter (wins_nowhere winners) (map (λ d. d.pos) l.definitions)
