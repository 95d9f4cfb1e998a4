use Rattle.std.proofs.Common.{◌≡◌, ◌<◌, ◌∙◌, ◌++◌, ◌∷◌, ℕ, List, [], length, Some, slice_get, sym, ap, subst}
use Rattle.std.proofs.lemmas.List.{append_assoc}
use Rattle.std.proofs.lemmas.Result.{err_from_is_err_and}
use Rattle.std.specs.Vec.Iter.{into_iter_items}
use Rattle.cat_scope.specs.declared.defs.Body.{Body}
use Rattle.cat_names.specs.Cycles.{IsItemCycle}
use Rattle.cat_check.specs.inside.Ordered.{IsCyclicItem}
use Rattle.cat_check.proofs.Ordering.{AreSoFar, because, cyclic, itemized, one_more, scope_there}
use Rattle.cat_check.proofs.items.items_in_order.Goals as goal

pub at-scope-requires : goal.at-scope-requires
at-scope-requires c =
    let split = ap (λ (bs : List Body). c.loop-body.yielded ++ bs) (sym c.in-Some.ensures.steps.0)
    ∙ c.loop-body.invariant.1
    ∙ c.into_iter-body-iterator.ensures.into_iter_gives.0 ∙ c.into_vec-body-items.ensures in
    subst (λ (n : ℕ). n < length c.args.decls.now.scopes) (sym c.len.ensures)
    (scope_there c.args.decls.now c.args.bodies c.requires
    c.loop-body.made c.loop-body.yielded c.in-Some.body (into_iter_items c.next.new.self) split
    c.loop-body.invariant.0.kept)

pub order_of-requires : goal.order_of-requires
order_of-requires c =
    let split = ap (λ (bs : List Body). c.loop-body.yielded ++ bs) (sym c.in-Some.ensures.steps.0)
    ∙ c.loop-body.invariant.1
    ∙ c.into_iter-body-iterator.ensures.into_iter_gives.0 ∙ c.into_vec-body-items.ensures in
    let at = subst (λ (n : ℕ). slice_get c.args.decls.now.scopes n ≡ Some c.at-scope.result.now) c.len.ensures
    c.at-scope.ensures in
    itemized c.args.decls.now c.args.bodies c.requires
    c.loop-body.made c.loop-body.yielded c.in-Some.body (into_iter_items c.next.new.self) split
    c.loop-body.invariant.0.kept c.at-scope.result.now at

pub returns-in_err-order-clause-cause : goal.returns-in_err-order-clause-cause
returns-in_err-order-clause-cause c =
    let split = ap (λ (bs : List Body). c.loop-body.yielded ++ bs) (sym c.in-Some.ensures.steps.0)
    ∙ c.loop-body.invariant.1
    ∙ c.into_iter-body-iterator.ensures.into_iter_gives.0 ∙ c.into_vec-body-items.ensures in
    let at = subst (λ (n : ℕ). slice_get c.args.decls.now.scopes n ≡ Some c.at-scope.result.now) c.len.ensures
    c.at-scope.ensures in
    let p = err_from_is_err_and c.from_residual.result c.from_residual.ensures.1 in
    rw (p.1, p.2) (because (IsCyclicItem c.at-scope.result.now.items c.in-Some.body.defs)
    (IsItemCycle c.args.decls.now c.args.bodies)
    (cyclic c.args.decls.now c.args.bodies c.requires
    c.loop-body.made c.loop-body.yielded c.in-Some.body (into_iter_items c.next.new.self) split
    c.loop-body.invariant.0.kept c.at-scope.result.now at) c.in_err-order.field-0.0 c.in_err-order.ensures.cause)

pub loop-body-preserved : goal.loop-body-preserved
loop-body-preserved c =
    let at = subst (λ (n : ℕ). slice_get c.args.decls.now.scopes n ≡ Some c.at-scope.result.now) c.len.ensures
    c.at-scope.ensures in (
      subst (λ (bs : List Body). AreSoFar c.args.decls.now.scopes bs (c.loop-body.yielded ++ c.in-Some.body ∷ []))
          (sym c.in_ok-push.ensures.ok)
          (one_more c.args.decls.now.scopes c.loop-body.made c.loop-body.yielded c.at-scope.result.now c.in-Some.body
          c.with_order.result c.in_ok-order.order c.loop-body.invariant.0 at c.with_order.ensures
          c.in_ok-order.ensures.order),
      append_assoc c.loop-body.yielded (c.in-Some.body ∷ []) (into_iter_items c.next.new.self)
          ∙ ap (λ (bs : List Body). c.loop-body.yielded ++ bs) (sym c.in-Some.ensures.steps.0)
          ∙ c.loop-body.invariant.1,
    )
