use Rattle.cat_verify.proofs.StampLemmas.{IsUnderWay}
use Rattle.cat_verify.proofs.RoomLemmas.{left_in}
use Rattle.cat_verify.proofs.stamps.stamps_of.Given as goal

abbrev pub invariant-loop-arrival : goal.invariant-loop-arrival
invariant-loop-arrival l = IsUnderWay l.code l.starts l.calls (record { marks = l.marks.items; waiting = l.waiting })

abbrev pub decreases-loop-arrival : goal.decreases-loop-arrival
decreases-loop-arrival l = left_in (record { marks = l.marks.items; waiting = l.waiting })
