use Rattle.std.proofs.Common.{◌≡◌, ◌<◌, ◌∙◌, List, ℕ, Some, length, slice_get, sym, ap, subst}
use Rattle.cat_order.specs.Order.{IsOrder}
use Rattle.cat_scope.specs.Orders.{scope_dependencies}
use Rattle.cat_depend.specs.Listed.{listed_calls}
use Rattle.cat_check.specs.declared.outline.Outline.{Outline}
use Rattle.cat_check.proofs.Scoped.{listed}
use Rattle.cat_check.proofs.Chaining.{told_short, told_past, scope_there, scope_is_fault}
use Rattle.cat_check.proofs.chains.refuse_long_calls.Goals as goal

pub long_scope-requires : goal.long_scope-requires
long_scope-requires c =
    let deps = ap listed_calls c.as_slice.ensures
    ∙ listed c.args.decls.now c.declarations_are_sound.ensures c.requires.meant.0 c.args.bodies.now
    c.requires.meant.2 in
    subst (λ (xs : List ℕ). IsOrder (listed_calls c.as_slice.result.now) xs) (sym c.as_slice-2.ensures)
    (subst (λ (ds : List (List ℕ)). IsOrder ds c.args.order.now) (sym deps) c.requires.order)

pub returns-in-None-clause-short : goal.returns-in-None-clause-short
returns-in-None-clause-short c =
    let deps = ap listed_calls c.as_slice.ensures
    ∙ listed c.args.decls.now c.declarations_are_sound.ensures c.requires.meant.0 c.args.bodies.now
    c.requires.meant.2 in
    told_short (listed_calls c.as_slice.result.now) (scope_dependencies c.args.decls.now.scopes c.args.bodies.now)
    c.in_ok-long.long deps c.in-None.is c.in_ok-long.ensures

pub at-pos-requires : goal.at-pos-requires
at-pos-requires c =
    let past = told_past (listed_calls c.as_slice.result.now) (listed_calls c.args.bodies.now) c.in_ok-long.long
    c.in-Some.scope (ap listed_calls c.as_slice.ensures) c.in-Some.is c.in_ok-long.ensures in
    subst (λ (o : Outline). c.in-Some.scope < length o.scopes) (sym c.requires.meant.1)
    (scope_there c.args.decls.now c.declarations_are_sound.ensures c.requires.meant.0 c.args.bodies.now
    c.requires.meant.2 c.in-Some.scope past)

pub returns-in-Some-clause-cause : goal.returns-in-Some-clause-cause
returns-in-Some-clause-cause c = λ tree is meant.
    let past = told_past (listed_calls c.as_slice.result.now) (listed_calls c.args.bodies.now) c.in_ok-long.long
    c.in-Some.scope (ap listed_calls c.as_slice.ensures) c.in-Some.is c.in_ok-long.ensures in
    scope_is_fault c.args.decls.now c.declarations_are_sound.ensures tree c.args.bodies.now meant
    c.in-Some.scope c.at-pos.result.now past
    (subst (λ (o : Outline). slice_get o.scopes c.in-Some.scope ≡ Some c.at-pos.result.now) is c.at-pos.ensures)
