use Rattle.std.proofs.Common.{◌∙◌, refl}
use Rattle.cat_depend.specs.Listed.{listed_calls}
use Rattle.cat_depend.proofs.Measured.{IsTopological-of_IsOrder}
use Rattle.cat_depend.proofs.scopes.long_scope.Goals as goal

pub past_longest-requires : goal.past_longest-requires
past_longest-requires c =
    let deps = listed_calls c.args.bodies.now in
    rw (c.deref.ensures.value ∙ c.in_ok-calls.ensures) (IsTopological-of_IsOrder deps deps c.args.order.now refl
    (λ n m h. h) c.requires (c.the_order_lists_items.ensures.items deps c.args.order.now c.requires)
    (λ place other h on. c.the_order_puts_dependencies_first.ensures deps c.args.order.now place other c.requires h on))
