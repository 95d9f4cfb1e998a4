use Rattle.std.proofs.Common.{◌≡◌, ◌++◌, drop, string_bytes}
use Rattle.cat_audit.specs.ReportTexts.{target_lines}
use Rattle.cat_audit.specs.RunsAgain.{IsReadBack, OfLines}
use Rattle.cat_audit.proofs.BackLemmas.{Leads}
use Rattle.cat_audit.proofs.text.push_targets.Given as goal

abbrev pub invariant-loop-line : goal.invariant-loop-line
invariant-loop-line l =
    (string_bytes l.text ++ target_lines l.decls l.scope l.files l.budget (drop l.line-index l.lines)
    ≡ string_bytes l.fn.text ++ target_lines l.decls l.scope l.files l.budget l.lines)
    × Leads (OfLines (IsReadBack l.decls l.scope)) (drop l.line-index l.lines) l.lines
