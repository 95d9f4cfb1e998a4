use Rattle.std.proofs.Common.{◌≡◌, take}
use Rattle.cat_search.specs.Searched.{roomy}
use Rattle.cat_dead_report.specs.DeadReports.{AreDeadLines}
use Rattle.cat_dead_report.specs.inside.Faultless.{IsReached}
use Rattle.cat_dead_report.proofs.report.report_lines.Given as goal

abbrev pub invariant-loop-number : goal.invariant-loop-number
invariant-loop-number l = record {
  lines : AreDeadLines l.program l.table l.budget (take l.number l.table.targets) l.lines;
  whole : l.whole ≡ roomy l.table.terms l.table.atoms;
  front : IsReached l.program l.table.scope l.front;
}
