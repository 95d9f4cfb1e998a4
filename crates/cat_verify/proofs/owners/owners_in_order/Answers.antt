use Rattle.std.proofs.Common.{◌∙◌, ℕ, List, length, map, subst, sym, ap}
use Rattle.std.proofs.lemmas.Result.{err_from_is_err_and}
use Rattle.cat_verify.specs.declared.stamps.Stamps.{Stamps}
use Rattle.cat_verify.specs.inside.CallNumbers.{IsInOrder}
use Rattle.cat_verify.specs.inside.OwnerNumbers.{NoneShared, placed_from, with_places}
use Rattle.cat_verify.specs.inside.Stamped.{AreStamps}
use Rattle.cat_verify.specs.inside.Starts.{scope_starts, function_starts}
use Rattle.cat_verify.proofs.OwnerLemmas.{marked_well, listed_below, function_count, are_owners, are_apart, round_cause}
use Rattle.cat_verify.proofs.owners.owners_in_order.Goals as goal

pub callers_first-requires : goal.callers_first-requires
callers_first-requires c =
    rw c.deref.ensures.value (marked_well c.args.tables.now c.args.code.now c.args.functions.now
    c.in_ok-marks.marks.items c.requires.orderly c.in_ok-marks.ensures.stamps)

pub returns-in_err-listed-clause-cause : goal.returns-in_err-listed-clause-cause
returns-in_err-listed-clause-cause c =
    let r = c.from_residual-in_err-listed in
    let why = err_from_is_err_and r.result r.ensures.1 in
    let are = subst (AreStamps c.args.code.now (scope_starts c.args.tables.now) (function_starts c.args.tables.now))
    (sym c.deref.ensures.value) c.in_ok-marks.ensures.stamps in
    let single = subst NoneShared (sym c.deref.ensures.value) c.in_ok-marks.ensures.single in
    rw (why.1, why.2) (round_cause c.args.tables.now c.args.code.now c.args.functions.now c.deref.result.now
    c.requires.orderly are c.requires.home single c.in_err-listed.field-0.0 c.in_err-listed.ensures.cause)

pub all_places-requires-clause-marked : goal.all_places-requires-clause-marked
all_places-requires-clause-marked c =
    rw c.deref-2.ensures.value (marked_well c.args.tables.now c.args.code.now c.args.functions.now
    c.in_ok-marks.marks.items c.requires.orderly c.in_ok-marks.ensures.stamps)

pub all_places-requires-clause-counted : goal.all_places-requires-clause-counted
all_places-requires-clause-counted c =
    function_count c.args.tables.now c.args.code.now c.args.functions.now c.requires.orderly

pub all_places-requires-clause-within : goal.all_places-requires-clause-within
all_places-requires-clause-within c =
    rw c.as_slice.ensures (listed_below c.args.tables.now c.args.code.now c.args.functions.now c.deref.result.now
    c.in_ok-listed.listed c.requires.orderly c.in_ok-listed.ensures.order c.the_order_lists_items.ensures.items)

pub returns-clause-owners : goal.returns-clause-owners
returns-clause-owners c =
    let tables = c.args.tables.now in
    let functions = c.args.functions.now in
    let listed = c.in_ok-listed.listed in
    let marks = c.in_ok-marks.marks.items in
    let order = subst (λ (ms : List Stamps). IsInOrder tables c.args.code.now ms listed) c.deref.ensures.value
    c.in_ok-listed.ensures.order in
    are_owners tables c.args.code.now functions marks c.requires.orderly c.requires.home c.in_ok-marks.ensures.stamps
    c.in_ok-marks.ensures.single listed order c.the_order_puts_dependencies_first.ensures
    c.the_order_lists_items.ensures.items c.in_ok-owners.owners
    (c.in_ok-owners.ensures
    ∙ ap (λ (ms : List Stamps). map (with_places (length tables.scopes) functions (placed_from 0 ms))
    c.as_slice.result.now) c.deref-2.ensures.value
    ∙ ap (λ (ns : List ℕ). map (with_places (length tables.scopes) functions (placed_from 0 marks)) ns)
    c.as_slice.ensures)

pub returns-clause-apart : goal.returns-clause-apart
returns-clause-apart c =
    let tables = c.args.tables.now in
    let listed = c.in_ok-listed.listed in
    let order = subst (λ (ms : List Stamps). IsInOrder tables c.args.code.now ms listed) c.deref.ensures.value
    c.in_ok-listed.ensures.order in
    are_apart tables c.args.code.now c.args.functions.now c.in_ok-marks.marks.items c.requires.orderly c.requires.home
    c.in_ok-marks.ensures.stamps c.in_ok-marks.ensures.single listed order
    c.the_order_puts_dependencies_first.ensures c.the_order_lists_items.ensures.items
    c.a_cycle_leaves_no_order.ensures
