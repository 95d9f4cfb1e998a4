use Rattle.std.proofs.Common.{◌≡◌, ◌++◌, drop}
use Rattle.cat_lower.specs.Starts as words
use Rattle.cat_lower.proofs.starts.case_starts.Given as goal

abbrev pub invariant-loop-enumeration : goal.invariant-loop-enumeration
invariant-loop-enumeration l =
    l.starts ++ words.case_starts l.total (drop l.enumeration-index l.enumerations) ≡ words.case_starts 0 l.enumerations
