use Rattle.std.proofs.Common.{◌≡◌, ◌++◌, drop, string_bytes}
use Rattle.cat_cert.specs.Texts.{text_of}
use Rattle.cat_dead_report.proofs.WritingLemmas.{Dues}
use Rattle.cat_dead_report.proofs.certificate.push_certificate.Given as goal

abbrev pub invariant-loop-number : goal.invariant-loop-number
invariant-loop-number l =
    string_bytes l.text ++ text_of (Dues (drop l.number l.table.targets) (drop l.number l.lines))
    ≡ string_bytes l.initial.text ++ text_of (Dues l.table.targets l.lines)
