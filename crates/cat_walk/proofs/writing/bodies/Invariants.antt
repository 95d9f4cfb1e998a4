use Rattle.std.proofs.Common.{◌≡◌, ◌++◌, List, drop, map}
use Rattle.cat_guard.specs.Trees.{Tree}
use Rattle.cat_walk.specs.Sharing.{body}
use Rattle.cat_walk.specs.inside.Writing.{Knows, picked}
use Rattle.cat_walk.proofs.writing.bodies.Given as goal

abbrev pub invariant-loop-index : goal.invariant-loop-index
invariant-loop-index l =
    (known names : List Tree) → Knows l.classes.splits.keys l.numbers known names
    → l.lists ++ map (body names) (picked (drop l.index known) (drop l.index l.numbers))
    ≡ map (body names) (picked known l.numbers)
