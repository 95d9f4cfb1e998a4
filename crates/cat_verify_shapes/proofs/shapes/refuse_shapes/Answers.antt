use Rattle.std.proofs.lemmas.Result.{err_from_is_err_and}
use Rattle.cat_verify_shapes.proofs.OrderLemmas.{places_in_order, places_inside}
use Rattle.cat_verify_shapes.proofs.StateSteps.{first_state, ends}
use Rattle.cat_verify_shapes.proofs.shapes.refuse_shapes.Goals as goal

pub enter_scopes-requires-clause-known : goal.enter_scopes-requires-clause-known
enter_scopes-requires-clause-known c =
    first_state c.args.tables.now c.args.code.now c.in_ok-forms.forms c.in_ok-found.found.items c.args.owners.now
    c.in_ok-forms.ensures c.in_ok-found.ensures c.requires.owners

pub look_at_owners-requires-clause-inside : goal.look_at_owners-requires-clause-inside
look_at_owners-requires-clause-inside c =
    places_inside c.args.tables.now c.args.code.now c.args.owners.now c.requires.owners

pub look_at_owners-requires-clause-order : goal.look_at_owners-requires-clause-order
look_at_owners-requires-clause-order c =
    places_in_order c.args.tables.now c.args.code.now c.args.owners.now c.requires.owners

pub returns-clause-shaped : goal.returns-clause-shaped
returns-clause-shaped c =
    (ends c.args.tables.now c.args.code.now c.look_at_owners.new.forms c.look_at_owners.new.found.items
    c.look_at_owners.result c.requires.settled.scopes c.look_at_owners.ensures).0

pub returns-clause-cause : goal.returns-clause-cause
returns-clause-cause c =
    (ends c.args.tables.now c.args.code.now c.look_at_owners.new.forms c.look_at_owners.new.found.items
    c.look_at_owners.result c.requires.settled.scopes c.look_at_owners.ensures).1

pub returns-in_err-enter_scopes-clause-cause : goal.returns-in_err-enter_scopes-clause-cause
returns-in_err-enter_scopes-clause-cause c =
    let p = err_from_is_err_and c.from_residual-in_err-enter_scopes.result
    c.from_residual-in_err-enter_scopes.ensures.1 in
    rw (p.1, p.2) c.in_err-enter_scopes.ensures
