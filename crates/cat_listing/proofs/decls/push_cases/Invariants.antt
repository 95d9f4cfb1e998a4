use Rattle.std.proofs.Common.{◌≡◌, ◌++◌, drop, string_bytes}
use Rattle.cat_listing.specs.Texts.{lines_of}
use Rattle.cat_listing.specs.DeclarationLines.{case_line}
use Rattle.cat_listing.proofs.decls.push_cases.Given as goal

abbrev pub invariant-loop-case : goal.invariant-loop-case
invariant-loop-case l =
    string_bytes l.text ++ lines_of (case_line l.decls) (drop l.case-index l.cases)
    ≡ string_bytes l.initial.text ++ lines_of (case_line l.decls) l.cases
