use Rattle.std.proofs.Common.{◌≡◌, ◌++◌, drop}
use Rattle.std.specs.Prelude.{flat_map}
use Rattle.cat_names.specs.Bodies.{use_rounds}
use Rattle.cat_check.proofs.rounds.add_uses.Given as goal

abbrev pub invariant-loop-line : goal.invariant-loop-line
invariant-loop-line l = l.rounds ++ flat_map use_rounds (drop l.line-index l.lines)
    ≡ l.fn.rounds ++ flat_map use_rounds l.lines
