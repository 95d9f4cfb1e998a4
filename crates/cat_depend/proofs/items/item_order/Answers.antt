use Rattle.std.proofs.Common.{◌≡◌, ◌∙◌, List, ℕ, length, ap, subst, IfErr}
use Rattle.cat_order.specs.Cause.{HasCause}
use Rattle.cat_depend.specs.declared.naming.Wanted.TheVariants.{Items}
use Rattle.cat_scope.specs.Orders.{item_dependencies}
use Rattle.cat_depend.proofs.Lists.{of_items, one_each}
use Rattle.cat_depend.proofs.Cycles.{item_cause}
use Rattle.cat_depend.proofs.items.item_order.Goals as goal

pub order-requires-clause-one_list_each : goal.order-requires-clause-one_list_each
order-requires-clause-one_list_each c =
    ap (λ (ls : List (List ℕ)). length ls) (c.deref.ensures.value ∙ c.in_ok-deps.ensures)
    ∙ one_each Items c.args.defs.now 0 c.args.items.now

pub returns-clause-cause : goal.returns-clause-cause
returns-clause-cause c = let deps : c.deref.result.now ≡ item_dependencies c.args.items.now c.args.defs.now =
    c.deref.ensures.value ∙ c.in_ok-deps.ensures ∙ of_items c.args.defs.now 0 c.args.items.now in
    item_cause (item_dependencies c.args.items.now c.args.defs.now) c.order.result
    (subst (λ ds. IfErr c.order.result (HasCause ds)) deps c.order.ensures.cause)
