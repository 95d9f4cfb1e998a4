use Rattle.std.proofs.Common.{◌≡◌, ◌++◌, drop, string_bytes}
use Rattle.cat_audit.specs.ReportTexts.{called_lines}
use Rattle.cat_audit.proofs.text.push_called.Given as goal

abbrev pub invariant-loop-line : goal.invariant-loop-line
invariant-loop-line l = string_bytes l.text ++ called_lines l.decls (drop l.line-index l.lines)
    ≡ string_bytes l.fn.text ++ called_lines l.decls l.lines
