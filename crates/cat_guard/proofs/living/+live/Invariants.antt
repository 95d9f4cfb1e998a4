use Rattle.std.proofs.Common.{◌≡◌, map, drop}
use Rattle.cat_guard.specs.Judged.{answers_in}
use Rattle.cat_guard.specs.Live.{live_verdict, lives_verdict}
use Rattle.cat_guard.specs.inside.Counting.{completed, HasOpen}
use Rattle.cat_guard.proofs.living.+live.Given as goal

abbrev pub invariant-live_groups-loop-group : goal.invariant-live_groups-loop-group
invariant-live_groups-loop-group l = record {
  total : completed l.tally (map (live_verdict l.target (answers_in l.atoms l.region)) (drop l.group-index l.groups))
      ≡ lives_verdict l.target (answers_in l.atoms l.region) l.groups;
  needs : HasOpen (answers_in l.atoms l.region) l.target l.tally.needs;
}
