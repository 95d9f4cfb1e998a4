use Rattle.std.proofs.Common.{◌≡◌, ◌++◌, drop, map}
use Rattle.cat_code.specs.Places.{functions_from, function_places}
use Rattle.cat_verify_tables.specs.TableWords.{numbered}
use Rattle.cat_verify_tables.proofs.places.function_places.Given as goal

abbrev pub invariant-loop-number : goal.invariant-loop-number
invariant-loop-number l =
    l.places ++ map numbered (functions_from l.number (drop l.number l.decls.scopes))
    ≡ map numbered (function_places l.decls)
