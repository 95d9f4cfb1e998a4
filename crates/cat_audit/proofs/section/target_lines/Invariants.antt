use Rattle.std.proofs.Common.{◌≡◌, take}
use Rattle.cat_search.specs.Searched.{roomy}
use Rattle.cat_audit.proofs.LineLemmas.{AreLinesTo}
use Rattle.cat_audit.proofs.section.target_lines.Given as goal

abbrev pub invariant-loop-number : goal.invariant-loop-number
invariant-loop-number l = record {
  lines : AreLinesTo l.program l.table l.budget (take l.number l.table.targets) l.fn.trees l.trees l.lines;
  whole : l.whole ≡ roomy l.table.terms l.table.atoms;
}
