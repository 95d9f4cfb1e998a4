use Rattle.std.proofs.Common.{◌≡◌, ◌∙◌, ◌<◌, ap, arith, get_or, length, List, Option}
use Rattle.cat_value.specs.declared.value.Value.{Value}
use Rattle.cat_machine.proofs.Loads.{one_entry}
use Rattle.cat_machine.proofs.starting.load_input.Goals as goal

pub loop-entry-preserved : goal.loop-entry-preserved
loop-entry-preserved c =
    let items = c.as_slice-entry-items.ensures in
    let i = c.loop-entry.entry-index in
    let within : i < length c.args.input.now = omega (arith, c.loop-entry-test.true, ap length items) in
    let is : c.entry-item.result ≡ get_or c.args.input.now i c.entry-item.result
    = c.entry-item.is ∙ ap (λ (l : List (Option Value)). get_or l i c.entry-item.result) items in
    one_entry c.args.m.now c.loop-entry.m c.args.input.now i c.entry-item.result c.in_ok-slot.slot c.load_entry.new.pool
    c.push.new.self
    c.loop-entry.invariant within is c.in_ok-slot.ensures.loaded c.in_ok-slot.ensures.count c.in_ok-slot.ensures.kept
    c.in_ok-push.ensures.ok
