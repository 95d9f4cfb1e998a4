use Rattle.cat_walk.specs.inside.Writing.{CanWrite, work_of}
use Rattle.cat_walk.proofs.WritingLemmas.{IsWriting}
use Rattle.cat_walk.proofs.writing.write.Given as goal

abbrev pub invariant-loop-class : goal.invariant-loop-class
invariant-loop-class l = record {
  can : CanWrite l.classes.splits.keys l.numbers l.left_over;
  writes : IsWriting l.classes.splits.keys l.numbers l.fn.left_over l.fn.nodes l.left_over l.nodes;
}

abbrev pub decreases-loop-class : goal.decreases-loop-class
decreases-loop-class l = work_of l.left_over
