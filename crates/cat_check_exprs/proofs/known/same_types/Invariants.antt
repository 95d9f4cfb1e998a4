use Rattle.std.proofs.Common.{◌≡◌, take}
use Rattle.cat_check_exprs.proofs.known.same_types.Given as goal

abbrev pub invariant-loop-index : goal.invariant-loop-index
invariant-loop-index l = take l.index l.left ≡ take l.index l.right
