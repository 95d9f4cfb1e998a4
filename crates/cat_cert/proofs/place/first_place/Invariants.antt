use Rattle.std.proofs.Common.{◌≡◌, ◌+◌, ◌-◌, length}
use Rattle.cat_cert.specs.Texts.{parted, passed_over, lines_read}
use Rattle.cat_cert.specs.inside.Outcomes.{lines_at, rest_at, IsWithin}
use Rattle.cat_cert.proofs.place.first_place.Given as goal

abbrev pub invariant-loop-line : goal.invariant-loop-line
invariant-loop-line l = record {
  same : l.before ≡ l.place;
  within : IsWithin l.bytes l.place;
  lines : lines_read (lines_at l.bytes l.place) ≡ lines_read (parted l.bytes).ended;
  passed : l.place.line + passed_over (lines_at l.bytes l.place) ≡ passed_over (parted l.bytes).ended;
  rest : rest_at l.bytes l.place ≡ (parted l.bytes).rest;
}

abbrev pub decreases-loop-line : goal.decreases-loop-line
decreases-loop-line l = length l.bytes - l.place.at
