use Rattle.std.proofs.Common.{◌≡◌, ◌+◌, drop}
use Rattle.cat_weave.specs.inside.Reading.{line_length}
use Rattle.cat_weave.proofs.line.line_len.Given as goal

-- the line goes on as far as the rest says
abbrev pub invariant-loop-at : goal.invariant-loop-at
invariant-loop-at l = l.at + line_length (drop l.at l.text) ≡ line_length l.text
