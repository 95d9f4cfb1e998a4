use Rattle.std.proofs.Common.{◌≡◌, ◌++◌, drop}
use Rattle.std.specs.Prelude.{filter}
use Rattle.cat_dead.specs.Winners.{wins_nowhere, definitions_of}
use Rattle.cat_dead.proofs.winning.dead_among.Given as goal

abbrev pub invariant-loop-target : goal.invariant-loop-target
invariant-loop-target l =
    l.dead ++ filter (wins_nowhere l.winners) (definitions_of (drop l.target-index l.targets))
    ≡ filter (wins_nowhere l.winners) (definitions_of l.targets)
