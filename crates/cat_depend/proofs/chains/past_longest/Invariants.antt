use Rattle.std.proofs.Common.{◌≡◌, ◌≤◌, ℕ, nat_le, IsTrue, length, take, get_or}
use Rattle.cat_order.specs.Order.{is_listed}
use Rattle.cat_scope.specs.Chains.{is_within}
use Rattle.cat_depend.proofs.chains.past_longest.Given as goal

-- the lengths of the chains from the numbers passed so far on
abbrev pub invariant-loop-number : goal.invariant-loop-number
invariant-loop-number l = record {
  counted : length l.lengths.items ≡ length l.deps;
  low : (n : ℕ) → get_or l.lengths.items n 0 ≤ 256;
  known : (n : ℕ) → IsTrue (is_listed (take l.number-index l.order) n) → (k : ℕ)
      → is_within l.deps k n ≡ nat_le (get_or l.lengths.items n 0) k;
}
