use Rattle.std.proofs.Common.{◌≡◌, ◌+◌, ◌≤◌, length}
use denote.Text.{Utf8}
use denote.Shadow.{shadow}
use Rattle.cat_weave.specs.Woven.{woven_lines}
use Rattle.cat_weave.specs.inside.Reading.{law_kinds}
use Rattle.cat_weave.proofs.SegmentLemmas.{woven_after}
use Rattle.cat_weave.proofs.weaver.woven_text.Given as goal

-- the segments so far and those of the rest are all
abbrev pub invariant-loop-rest : goal.invariant-loop-rest
invariant-loop-rest l = record {
  is_text : shadow (Utf8 l.rest);
  few : l.line + length l.rest ≤ length l.text + 1;
  whole : woven_after l.segments l.file l.line (law_kinds l.rest) ≡ woven_lines l.file (law_kinds l.text);
}

abbrev pub decreases-loop-rest : goal.decreases-loop-rest
decreases-loop-rest l = length l.rest
