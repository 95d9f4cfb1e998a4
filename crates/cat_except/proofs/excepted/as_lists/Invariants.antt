use Rattle.std.proofs.Common.{◌≡◌, ◌++◌, drop}
use Rattle.cat_except.specs.inside.Linking.{lists_of}
use Rattle.cat_except.proofs.excepted.as_lists.Given as goal

abbrev pub invariant-loop-group : goal.invariant-loop-group
invariant-loop-group l = l.lists.items ++ lists_of (drop l.group-index l.excepted) ≡ lists_of l.excepted
