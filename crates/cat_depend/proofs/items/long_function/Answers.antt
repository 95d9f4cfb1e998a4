use Rattle.std.proofs.Common.{◌≡◌, ◌∙◌, IfOk, sym, subst}
use Rattle.cat_order.specs.Order.{IsOrder}
use Rattle.cat_scope.specs.Orders.{item_dependencies, function_calls}
use Rattle.cat_depend.specs.declared.naming.Wanted.TheVariants.{Items, Functions}
use Rattle.cat_depend.specs.Past.{TellsPast}
use Rattle.cat_depend.specs.inside.Wanted.{lists_from}
use Rattle.cat_depend.specs.inside.Chains.{IsTopological}
use Rattle.cat_depend.proofs.Lists.{of_items, of_functions, one_each}
use Rattle.cat_depend.proofs.Measured.{IsTopological-of_IsOrder}
use Rattle.cat_depend.proofs.Subsets.{calls_among}
use Rattle.cat_depend.proofs.items.long_function.Goals as goal

pub past_longest-requires : goal.past_longest-requires
past_longest-requires c =
    let items = c.args.items.now in
    let defs = c.args.defs.now in
    let deps : lists_from Items c.args.defs.now 0 c.args.items.now ≡ item_dependencies c.args.items.now c.args.defs.now
    =
    of_items c.args.defs.now 0 c.args.items.now in
    let order : IsOrder (lists_from Items c.args.defs.now 0 c.args.items.now) c.args.order.now =
    subst (λ ls. IsOrder ls c.args.order.now) (sym deps) c.requires.order in
    rw (c.deref.ensures.value ∙ c.in_ok-calls.ensures) (IsTopological-of_IsOrder (lists_from Items defs 0 items)
    (lists_from Functions defs 0 items) c.args.order.now (one_each Functions defs 0 items ∙ sym
    (one_each Items defs 0 items)) (λ n m h. calls_among defs 0 items n m h) order
    (c.the_order_lists_items.ensures.items (lists_from Items defs 0 items) c.args.order.now order)
    (λ place other h on. c.the_order_puts_dependencies_first.ensures (lists_from Items defs 0 items) c.args.order.now
    place other order h on))

pub returns : goal.returns
returns c = let calls : c.deref.result.now ≡ function_calls c.args.items.now c.args.defs.now =
    c.deref.ensures.value ∙ c.in_ok-calls.ensures ∙ of_functions c.args.defs.now 0 c.args.items.now in
    subst (λ ls. IfOk c.past_longest.result (TellsPast ls)) calls c.past_longest.ensures
