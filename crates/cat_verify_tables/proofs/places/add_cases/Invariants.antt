use Rattle.std.proofs.Common.{◌≡◌, ◌++◌, drop}
use Rattle.cat_code.specs.Places.{places_in}
use Rattle.cat_verify_tables.proofs.places.add_cases.Given as goal

abbrev pub invariant-loop-case : goal.invariant-loop-case
invariant-loop-case l =
    l.places ++ places_in l.enumeration l.case (drop l.case l.cases) ≡ l.fn.places ++ places_in l.enumeration 0 l.cases
