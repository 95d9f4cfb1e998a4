use Rattle.std.proofs.Common.{◌≡◌, ◌+◌, ◌≤◌, length}
use Rattle.cat_image.specs.Words.{parts}
use Rattle.cat_image.specs.inside.Reading.{nothing_read}
use Rattle.cat_image.specs.inside.Endings.{ending}
use Rattle.cat_image.proofs.read.take_lines.Given as goal

abbrev pub invariant-loop-line : goal.invariant-loop-line
invariant-loop-line l = record {
  ends : ending (parts 10 l.rest) l.reading l.number ≡ ending (parts 10 l.bytes) nothing_read 1;
  counted : l.number + length l.rest ≤ length l.bytes + 1;
}

abbrev pub decreases-loop-line : goal.decreases-loop-line
decreases-loop-line l = length l.rest
