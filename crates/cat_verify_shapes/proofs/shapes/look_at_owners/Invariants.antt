use Rattle.std.proofs.Common.{drop, length}
use Rattle.cat_verify_shapes.specs.inside.States.{IsState, all_places}
use Rattle.cat_verify_shapes.proofs.shapes.look_at_owners.Given as goal

abbrev pub invariant-loop-one : goal.invariant-loop-one
invariant-loop-one l =
    IsState l.tables l.code l.forms l.found.items (length l.tables.decls.scopes)
    (all_places (drop l.one-index l.owners))
