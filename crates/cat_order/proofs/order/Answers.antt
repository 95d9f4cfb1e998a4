use Rattle.std.proofs.Common.{arith}
use Rattle.cat_order.proofs.Theorems.{no_order_of_IsOnCycle}
use Rattle.cat_order.proofs.Endings.{IsOrder-of_none_unmet, each_waits}
use Rattle.cat_order.proofs.order.Goals as goal

pub item_on_cycle-requires-clause-each_waits : goal.item_on_cycle-requires-clause-each_waits
item_on_cycle-requires-clause-each_waits c =
    rw c.deref.ensures.value (each_waits c.args.deps.now c.in_ok-listed.field-0.listed
    c.in_ok-listed.field-0.unmet.items c.in_ok-listed.ensures c.requires.items)

pub returns-then-index-gt0-clause-cause : goal.returns-then-index-gt0-clause-cause
returns-then-index-gt0-clause-cause c =
    (c.in_ok-on_cycle.ensures, no_order_of_IsOnCycle c.args.deps.now c.in_ok-on_cycle.on_cycle c.in_ok-on_cycle.ensures)

pub returns-clause-order : goal.returns-clause-order
returns-clause-order c =
    IsOrder-of_none_unmet c.args.deps.now c.in_ok-listed.field-0.listed c.in_ok-listed.field-0.unmet.items
    c.in_ok-listed.ensures
    (λ item within. c.loop-item.invariant item (omega arith))
