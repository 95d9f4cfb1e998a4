use Rattle.std.proofs.Common.{◌≡◌, ℕ, List}
use Rattle.cat_weave.specs.inside.UnderWay.{gathered_of, AreBounded, AreToCome, left_to_take}
use Rattle.cat_weave.proofs.gatherer.Gathering.take_segments.Given as goal

-- gathering goes on with the segments to come as it did with those of the beginning
abbrev pub invariant-loop-segment : goal.invariant-loop-segment
invariant-loop-segment g l = record {
  same : g.S.Shelf.state l.shelf ≡ g.S.Shelf.state l.initial.shelf;
  bounded : AreBounded (gathered_of l.self) l.self.to_come;
  goes_on : (main : List ℕ)
      → AreToCome (g.S.Shelf.state l.initial.shelf).content main (gathered_of l.initial.self) l.initial.self.to_come
      → AreToCome (g.S.Shelf.state l.initial.shelf).content main (gathered_of l.self) l.self.to_come;
}

abbrev pub decreases-loop-segment : goal.decreases-loop-segment
decreases-loop-segment g l = left_to_take (gathered_of l.self) l.self.to_come
