use Rattle.std.proofs.Common.{◌≡◌, ◌++◌, reverse, length}
use Rattle.cat_weave.proofs.pending.Pending.put_in_front.Given as goal

-- those left and those moved are all
abbrev pub invariant-loop-segment : goal.invariant-loop-segment
invariant-loop-segment l =
    l.segments.items ++ reverse l.self-inside.segments.items ≡ l.initial.segments.items ++ reverse
    l.initial.self-inside.segments.items

abbrev pub decreases-loop-segment : goal.decreases-loop-segment
decreases-loop-segment l = length l.segments.items
