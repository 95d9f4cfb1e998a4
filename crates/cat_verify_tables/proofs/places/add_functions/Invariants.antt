use Rattle.std.proofs.Common.{◌≡◌, ◌++◌, drop, map}
use Rattle.cat_code.specs.Places.{functions_in}
use Rattle.cat_verify_tables.specs.TableWords.{numbered}
use Rattle.cat_verify_tables.proofs.places.add_functions.Given as goal

abbrev pub invariant-loop-number : goal.invariant-loop-number
invariant-loop-number l =
    l.places ++ map numbered (functions_in l.scope l.number (drop l.number l.items))
    ≡ l.fn.places ++ map numbered (functions_in l.scope 0 l.items)
