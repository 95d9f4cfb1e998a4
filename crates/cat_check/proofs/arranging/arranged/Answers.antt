use Rattle.std.proofs.Common.{List, ℕ, sym, subst, ◌∙◌}
use Rattle.std.proofs.lemmas.Result.{err_from_is_err_and}
use Rattle.cat_value.specs.declared.decls.Decls.{Decls}
use Rattle.cat_scope.specs.declared.defs.Body.{Body}
use Rattle.cat_scope.specs.WellFormed.{IsWellFormed}
use Rattle.cat_names.specs.Accepted.{IsProgramOf}
use Rattle.cat_check.proofs.ArrangingLemmas.{scope_refused, item_refused, itemized_still, order_still}
use Rattle.cat_check.proofs.ArrangingLemmas.{chain_refused, function_refused, arranged_program}
use Rattle.cat_check.proofs.Chaining.{made_meant}
use Rattle.cat_check.proofs.Ordering.{all_itemized}
use Rattle.cat_check.proofs.arranging.arranged.Goals as goal

pub returns-in_err-scope_order-clause-cause : goal.returns-in_err-scope_order-clause-cause
returns-in_err-scope_order-clause-cause c =
    let p = err_from_is_err_and c.from_residual.result c.from_residual.ensures.1 in
    rw (p.1, p.2) (λ tree is meant. scope_refused c.a_cycle_leaves_no_order.ensures c.args.decls
    c.declarations_are_sound.ensures tree c.args.bodies meant c.in_err-scope_order.field-0.0
    (c.in_err-scope_order.ensures.cause tree is meant))

pub returns-in_err-bodies-clause-cause : goal.returns-in_err-bodies-clause-cause
returns-in_err-bodies-clause-cause c =
    let p = err_from_is_err_and c.from_residual-in_err-bodies.result c.from_residual-in_err-bodies.ensures.1 in
    rw (p.1, p.2) (λ tree is meant. item_refused c.a_cycle_leaves_no_order.ensures c.args.decls
    c.declarations_are_sound.ensures tree c.args.bodies meant c.in_ok-scope_order.scope_order
    c.in_ok-scope_order.ensures.order
    c.in_err-bodies.field-0.0 c.in_err-bodies.ensures.cause)

pub items_in_order-requires : goal.items_in_order-requires
items_in_order-requires c =
    all_itemized c.args.decls c.declarations_are_sound.ensures c.requires.0 c.args.bodies c.requires.2

pub refuse_long_functions-requires-clause-items : goal.refuse_long_functions-requires-clause-items
refuse_long_functions-requires-clause-items c =
    itemized_still c.a_cycle_leaves_no_order.ensures c.args.decls c.declarations_are_sound.ensures
    c.requires.0 c.args.bodies c.requires.2 c.in_ok-scope_order.scope_order c.in_ok-scope_order.ensures.order
    c.in_ok-bodies.bodies c.in_ok-bodies.ensures.kept c.in_ok-bodies.ensures.order

pub returns-in_err-refuse_long_functions-clause-cause : goal.returns-in_err-refuse_long_functions-clause-cause
returns-in_err-refuse_long_functions-clause-cause c =
    let p = err_from_is_err_and c.from_residual-in_err-refuse_long_functions.result
    c.from_residual-in_err-refuse_long_functions.ensures.1 in
    rw (p.1, p.2) (λ tree is meant. function_refused c.a_cycle_leaves_no_order.ensures c.args.decls
    c.declarations_are_sound.ensures tree c.args.bodies meant c.in_ok-scope_order.scope_order
    c.in_ok-scope_order.ensures.order
    c.in_ok-bodies.bodies c.in_ok-bodies.ensures.kept c.in_ok-bodies.ensures.order
    c.in_err-refuse_long_functions.field-0.0 c.in_err-refuse_long_functions.ensures.cause)

pub refuse_long_calls-requires-clause-order : goal.refuse_long_calls-requires-clause-order
refuse_long_calls-requires-clause-order c =
    order_still c.a_cycle_leaves_no_order.ensures c.args.decls c.declarations_are_sound.ensures
    c.requires.0 c.args.bodies c.requires.2 c.in_ok-scope_order.scope_order c.in_ok-scope_order.ensures.order
    c.in_ok-bodies.bodies c.in_ok-bodies.ensures.kept c.in_ok-bodies.ensures.order

pub returns-in_err-refuse_long_calls-clause-cause : goal.returns-in_err-refuse_long_calls-clause-cause
returns-in_err-refuse_long_calls-clause-cause c =
    let p = err_from_is_err_and c.from_residual-in_err-refuse_long_calls.result
    c.from_residual-in_err-refuse_long_calls.ensures.1 in
    rw (p.1, p.2) (λ tree is meant. chain_refused c.a_cycle_leaves_no_order.ensures c.args.decls
    c.declarations_are_sound.ensures tree c.args.bodies meant c.in_ok-scope_order.scope_order
    c.in_ok-scope_order.ensures.order
    c.in_ok-bodies.bodies c.in_ok-bodies.ensures.kept c.in_ok-bodies.ensures.order
    c.in_err-refuse_long_calls.field-0.0
    (c.in_err-refuse_long_calls.ensures.cause tree is
    (made_meant c.args.decls c.declarations_are_sound.ensures tree c.args.bodies c.in_ok-bodies.bodies meant
    c.in_ok-bodies.ensures.kept)))

pub from_parts-requires : goal.from_parts-requires
from_parts-requires c =
    let made = c.in_ok-bodies.bodies in
    let order = c.in_ok-scope_order.scope_order in
    subst (λ (ds : Decls). ∥ IsWellFormed ds made order ∥₁) (sym c.in_ok-shared.ensures)
    ∣ c.programs_of_trees_are_well_formed.ensures c.requires.0 made order
    (arranged_program c.a_cycle_leaves_no_order.ensures c.args.decls c.declarations_are_sound.ensures
    c.requires.0 c.args.bodies c.requires.2 order c.in_ok-scope_order.ensures.order
    made c.in_ok-bodies.ensures.kept c.in_ok-bodies.ensures.order
    c.in_ok-refuse_long_functions.ensures.short c.in_ok-refuse_long_calls.ensures.short) ∣₁

pub returns-clause-decls : goal.returns-clause-decls
returns-clause-decls c = c.from_parts.ensures.decls ∙ c.in_ok-shared.ensures

pub returns-clause-program : goal.returns-clause-program
returns-clause-program c = λ tree is meant.
    let made = c.in_ok-bodies.bodies in
    let order = c.in_ok-scope_order.scope_order in
    let program = arranged_program c.a_cycle_leaves_no_order.ensures c.args.decls c.declarations_are_sound.ensures
    tree c.args.bodies meant order c.in_ok-scope_order.ensures.order
    made c.in_ok-bodies.ensures.kept c.in_ok-bodies.ensures.order
    c.in_ok-refuse_long_functions.ensures.short c.in_ok-refuse_long_calls.ensures.short in
    subst (λ (xs : List ℕ). IsProgramOf tree c.args.decls c.from_parts.result.bodies xs)
    (sym c.from_parts.ensures.scope_order)
    (subst (λ (bs : List Body). IsProgramOf tree c.args.decls bs order) (sym c.from_parts.ensures.bodies) program)
