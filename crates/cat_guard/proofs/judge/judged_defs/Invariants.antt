use Rattle.std.proofs.Common.{◌≡◌, map, drop, slice_get}
use Rattle.cat_guard.specs.Judged.{answers_in}
use Rattle.cat_guard.specs.Verdicts.{listed, def_verdict}
use Rattle.cat_guard.specs.inside.Counting.{completed, HasOpen}
use Rattle.cat_guard.proofs.judge.judged_defs.Given as goal

abbrev pub invariant-loop-number : goal.invariant-loop-number
invariant-loop-number l = record {
  total : completed l.tally (map (λ d. def_verdict (answers_in l.atoms l.region) d (slice_get l.target.defs d))
      (drop l.number-index l.numbers))
      ≡ listed (map (λ d. def_verdict (answers_in l.atoms l.region) d (slice_get l.target.defs d)) l.numbers);
  needs : HasOpen (answers_in l.atoms l.region) l.target l.tally.needs;
}
