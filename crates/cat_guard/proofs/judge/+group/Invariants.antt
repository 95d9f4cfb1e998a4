use Rattle.std.proofs.Common.{◌≡◌, ◌+◌, ◌*◌, map, drop}
use Rattle.cat_guard.specs.Judged.{answers_in}
use Rattle.cat_guard.specs.Verdicts.{listed, group_verdict}
use Rattle.cat_guard.specs.inside.Counting.{completed, HasOpen}
use Rattle.cat_guard.proofs.judge.+group.Given as goal

abbrev pub decreases-judged_group : goal.decreases-judged_group
decreases-judged_group l = 2 * l.room

abbrev pub decreases-judged_groups : goal.decreases-judged_groups
decreases-judged_groups l = 2 * l.room + 1

abbrev pub invariant-judged_groups-loop-number : goal.invariant-judged_groups-loop-number
invariant-judged_groups-loop-number l = record {
  total : completed l.tally (map (group_verdict l.target (answers_in l.atoms l.region) l.room)
      (drop l.number-index l.numbers))
      ≡ listed (map (group_verdict l.target (answers_in l.atoms l.region) l.room) l.numbers);
  needs : HasOpen (answers_in l.atoms l.region) l.target l.tally.needs;
}
