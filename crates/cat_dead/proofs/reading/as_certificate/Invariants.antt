use Rattle.std.proofs.Common.{◌-◌, length}
use Rattle.cat_dead.proofs.TextLemmas.{IsPassing}
use Rattle.cat_dead.proofs.reading.as_certificate.Given as goal

abbrev pub invariant-loop-line : goal.invariant-loop-line
invariant-loop-line l = IsPassing l.bytes l.text l.at

abbrev pub decreases-loop-line : goal.decreases-loop-line
decreases-loop-line l = length l.bytes - l.at
