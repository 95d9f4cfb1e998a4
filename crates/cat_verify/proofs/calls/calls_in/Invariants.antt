use Rattle.std.proofs.Common.{◌≡◌, ◌++◌, drop, length}
use Rattle.cat_verify.specs.inside.CallNumbers.{calls_from, calls_in}
use Rattle.cat_verify.proofs.calls.calls_in.Given as goal

abbrev pub invariant-loop-at : goal.invariant-loop-at
invariant-loop-at l =
    l.calls ++ calls_from (length l.tables.scopes) l.marks l.at (drop l.at l.code) ≡ calls_in l.tables l.code l.marks
