use Rattle.std.proofs.Common.{arith, refl, subst}
use Rattle.cat_scope.specs.Orders.{item_dependencies}
use Rattle.cat_depend.specs.Causes.{HasItemCause}
use Rattle.cat_check.proofs.Ordering.{as_long, cause_at}
use Rattle.cat_check.proofs.items.order_of.Goals as goal

pub at-requires : goal.at-requires
at-requires c =
    let cause = subst (HasItemCause (item_dependencies c.args.items.now c.args.defs.now)) c.in-Err-Cycle.field-0-is
    (cause_at c.args.items.now c.as_slice.result.now c.args.defs.now c.as_slice-2.result.now
    c.as_slice.ensures c.as_slice-2.ensures c.in-Err-Cycle.field-0 c.in-Err-Cycle.ensures.cause) in
    omega (arith, cause.0, as_long c.args.items.now c.args.defs.now)

pub returns-in-Err-Cycle-clause-cause : goal.returns-in-Err-Cycle-clause-cause
returns-in-Err-Cycle-clause-cause c =
    let cause = subst (HasItemCause (item_dependencies c.args.items.now c.args.defs.now)) c.in-Err-Cycle.field-0-is
    (cause_at c.args.items.now c.as_slice.result.now c.args.defs.now c.as_slice-2.result.now
    c.as_slice.ensures c.as_slice-2.ensures c.in-Err-Cycle.field-0 c.in-Err-Cycle.ensures.cause) in
    record {
      number = c.in-Err-Cycle.item;
      item = c.at.result.now;
      item_is = c.at.ensures;
      on_cycle = cause.1;
      fault_is = refl;
    }
