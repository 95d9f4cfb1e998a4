use Rattle.std.proofs.Common.{take}
use Rattle.cat_dead_report.proofs.PlaceLemmas.{IsPlacing}
use Rattle.cat_dead_report.proofs.places.numbered_places.Given as goal

abbrev pub invariant-loop-definition : goal.invariant-loop-definition
invariant-loop-definition l = IsPlacing (take l.definition-index l.definitions) l.places.keys l.numbers
