use Rattle.std.proofs.Common.{◌≡◌, ◌++◌, drop, string_bytes}
use Rattle.cat_cert.specs.Texts.{text_of}
use Rattle.cat_dead_report.specs.ReportLines.{lines_of, target_lines}
use Rattle.cat_dead_report.proofs.text.push_target.Given as goal

abbrev pub invariant-loop-number : goal.invariant-loop-number
invariant-loop-number l = string_bytes l.text ++ text_of (target_lines l.decls l.scope l.files l.budget l.target
    (drop l.number l.target.defs) (drop l.number (lines_of l.found)))
    ≡ string_bytes l.fn.text ++ text_of (target_lines l.decls l.scope l.files l.budget l.target l.target.defs
    (lines_of l.found))
