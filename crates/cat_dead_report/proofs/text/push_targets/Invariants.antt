use Rattle.std.proofs.Common.{◌≡◌, ◌++◌, drop, string_bytes}
use Rattle.cat_cert.specs.Texts.{text_of}
use Rattle.cat_dead_report.specs.ReportLines.{all_lines}
use Rattle.cat_dead_report.proofs.text.push_targets.Given as goal

abbrev pub invariant-loop-number : goal.invariant-loop-number
invariant-loop-number l = string_bytes l.text ++ text_of (all_lines l.decls l.table.scope l.files l.budget
    (drop l.number l.table.targets) (drop l.number l.lines))
    ≡ string_bytes l.fn.text ++ text_of (all_lines l.decls l.table.scope l.files l.budget l.table.targets l.lines)
