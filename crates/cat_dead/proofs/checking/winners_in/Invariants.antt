use Rattle.cat_dead.proofs.TargetsLemmas.{IsOnWay}
use Rattle.cat_dead.proofs.checking.winners_in.Given as goal

abbrev pub invariant-loop-at : goal.invariant-loop-at
invariant-loop-at l = IsOnWay l.table l.trees l.at l.region l.won
