use Rattle.std.proofs.Common.{◌≡◌, drop}
use Rattle.cat_audit.specs.declared.report.Verdict.TheVariants.{Undecided}
use Rattle.cat_app.proofs.Audits.{last_from}
use Rattle.cat_app.proofs.audited.last_verdict.Given as goal

abbrev pub invariant-loop-section : goal.invariant-loop-section
invariant-loop-section l =
    last_from l.last (drop l.section-index l.sections) ≡ last_from Undecided l.sections
