use Rattle.cat_verify_shapes.specs.inside.States.{IsState, all_places}
use Rattle.cat_verify_shapes.proofs.shapes.enter_scopes.Given as goal

abbrev pub invariant-loop-number : goal.invariant-loop-number
invariant-loop-number l = IsState l.tables l.code l.forms l.found.items l.number (all_places l.owners)
