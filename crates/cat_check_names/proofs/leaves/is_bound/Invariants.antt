use Rattle.std.proofs.Common.{◌≡◌, drop}
use Rattle.cat_names.specs.Unknown.{is_name}
use Rattle.cat_check_names.proofs.leaves.is_bound.Given as goal

abbrev pub invariant-loop-other : goal.invariant-loop-other
invariant-loop-other l = is_name l.name (drop l.other-index l.bound) ≡ is_name l.name l.bound
