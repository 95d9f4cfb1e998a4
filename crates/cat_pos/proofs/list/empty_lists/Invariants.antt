use Rattle.std.proofs.Common.{◌≡◌, replicate, []}
use Rattle.cat_pos.proofs.list.empty_lists.Given as goal

-- as many empty lists as were made so far
abbrev pub invariant-loop : goal.invariant-loop
invariant-loop g l = l.lists.items ≡ replicate l.counter []
