use Rattle.std.proofs.Common.{◌≡◌, ◌++◌, drop}
use Rattle.cat_code.specs.Places as words
use Rattle.cat_verify_tables.proofs.places.case_places.Given as goal

abbrev pub invariant-loop-number : goal.invariant-loop-number
invariant-loop-number l =
    l.places ++ words.case_places l.number (drop l.number l.decls.enumerations)
    ≡ words.case_places 0 l.decls.enumerations
