use Rattle.std.proofs.Common.{List, length}
use Rattle.cat_guard.specs.Trees.{Tree}
use Rattle.cat_walk.specs.inside.Classes.{HasRoom}
use Rattle.cat_walk.specs.inside.Numbering.{Arrives}
use Rattle.cat_walk.proofs.numbering.close.Given as goal

abbrev pub invariant-loop-split : goal.invariant-loop-split
invariant-loop-split l = record {
  room : HasRoom l.classes.splits.keys l.classes.recurs;
  arrives : (trees : List Tree) (t : Tree)
      → Arrives l.fn.classes.splits.keys l.fn.classes.recurs l.fn.waiting trees l.side t
      → Arrives l.classes.splits.keys l.classes.recurs l.waiting trees l.class t;
}

abbrev pub decreases-loop-split : goal.decreases-loop-split
decreases-loop-split l = length l.waiting
