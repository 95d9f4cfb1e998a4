use Rattle.std.proofs.Common.{◌≡◌, ◌+◌, drop}
use Rattle.cat_machine.specs.inside.Outcomes.{place_among}
use Rattle.cat_machine.proofs.ending.place_among.Given as goal

abbrev pub invariant-loop-one : goal.invariant-loop-one
invariant-loop-one l = record {
  passed : l.at ≡ l.one-index;
  place : l.one-index + place_among l.held (drop l.one-index l.sorted) ≡ place_among l.held l.sorted;
}
