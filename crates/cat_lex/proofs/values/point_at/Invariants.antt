use Rattle.std.proofs.Common.{◌≡◌, ◌+◌, drop}
use Rattle.std.specs.List.{position_or_len}
use Rattle.cat_lex.specs.Values.{is_point}
use Rattle.cat_lex.proofs.values.point_at.Given as goal

abbrev pub invariant-loop-at : goal.invariant-loop-at
invariant-loop-at l = l.at + position_or_len is_point (drop l.at l.word) ≡ position_or_len is_point l.word
