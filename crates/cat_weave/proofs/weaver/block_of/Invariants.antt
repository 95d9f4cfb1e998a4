use Rattle.std.proofs.Common.{◌≡◌, ◌+◌, ◌-◌, ◌≤◌, take, drop, length}
use denote.Text.{Utf8}
use denote.Shadow.{shadow}
use Rattle.cat_weave.specs.inside.Reading.{block_kinds, IsCodeBefore}
use Rattle.cat_weave.proofs.weaver.block_of.Given as goal

-- all lines in front of the rest are code
abbrev pub invariant-loop-rest : goal.invariant-loop-rest
invariant-loop-rest l = record {
  is_text : shadow (Utf8 l.rest);
  few : l.code_lines + length l.rest ≤ length l.text;
  is_rest : l.rest ≡ drop (length l.text - length l.rest) l.text;
  before : IsCodeBefore (block_kinds l.text) (take (length l.text - length l.rest) l.text) l.code_lines
      (block_kinds l.rest);
}

abbrev pub decreases-loop-rest : goal.decreases-loop-rest
decreases-loop-rest l = length l.rest
