use Rattle.std.proofs.Common.{◌≡◌, ◌++◌}
use Rattle.std.specs.Vec.Iter.{into_iter_items}
use Rattle.cat_dead_report.specs.inside.Tries.{last_lines}
use Rattle.cat_dead_report.proofs.target.last_lines.Given as goal

abbrev pub invariant-loop-place : goal.invariant-loop-place
invariant-loop-place l = record {
  made : l.lines ≡ last_lines l.whole l.yielded;
  rest : l.yielded ++ into_iter_items l.place-iterator ≡ into_iter_items l.initial.place-iterator;
}
