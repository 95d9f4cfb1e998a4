use Rattle.std.proofs.Common.{◌≡◌, ◌-◌, take, length}
use Rattle.cat_check_names.proofs.bound.unbind.Given as goal

abbrev pub invariant-loop : goal.invariant-loop
invariant-loop l = l.bound ≡ take (length l.fn.bound - l.counter) l.fn.bound
