use Rattle.std.proofs.Common.{◌≡◌, ◌≤◌, length, drop, ◌-◌}
use Rattle.cat_parse_expr.proofs.Common.{type_after}
use Rattle.cat_parse_expr.proofs.kinds.a_type.Given as goal

abbrev pub invariant-loop-lists : goal.invariant-loop-lists
invariant-loop-lists l = record {
  same : type_after 0 (drop l.at l.tokens) ≡ type_after l.lists (drop l.place l.tokens);
  low : l.at ≤ l.place;
  within : l.place ≤ length l.tokens;
  few : l.lists ≤ l.place;
}

abbrev pub decreases-loop-lists : goal.decreases-loop-lists
decreases-loop-lists l = length l.tokens - l.place
