use Rattle.std.proofs.Common.{ℕ, List, Option, ap, arith, length, slice_get, ◌≡◌, Some, ◌∙◌, sym}
use Rattle.cat_machine.specs.Layers.{top_items}
use Rattle.cat_machine.proofs.Growth.{top_slots_below}
use Rattle.cat_machine.proofs.Holding.{get_at, get_below, slot_below_at, with_operand}
use Rattle.cat_machine.proofs.MoveSteps.{slot_needs, slot_told}
use Rattle.cat_machine.proofs.steps.moving.slot.Goals as goal

pub returns-clause-told : goal.returns-clause-told
returns-clause-told c =
    let below =
    (let needs = slot_needs c.args.code.now.tables c.args.place c.args.m.now c.args.i c.requires.going in get_below
    (top_items c.args.m.now.slots) c.args.i (Some needs.0) needs.1) in
    let there : slice_get (top_items c.args.m.now.slots) c.args.i ≡ Some (Some c.in-Some.r)
    = ap (λ (l : List (Option ℕ)). slice_get l c.args.i) (sym c.items.ensures)
    ∙ get_at c.items.result.now c.args.i (Some c.in-Some.r) _ (omega (arith, below, ap length c.items.ensures))
    (sym c.in-Some.is) in
    slot_told c.args.code.now.tables c.args.place c.args.m.now c.args.i c.in-Some.r c.push.new.self there
    c.in_ok-push.ensures.ok

pub returns-clause-machine : goal.returns-clause-machine
returns-clause-machine c =
    let below =
    (let needs = slot_needs c.args.code.now.tables c.args.place c.args.m.now c.args.i c.requires.going in get_below
    (top_items c.args.m.now.slots) c.args.i (Some needs.0) needs.1) in
    let there : slice_get (top_items c.args.m.now.slots) c.args.i ≡ Some (Some c.in-Some.r)
    = ap (λ (l : List (Option ℕ)). slice_get l c.args.i) (sym c.items.ensures)
    ∙ get_at c.items.result.now c.args.i (Some c.in-Some.r) _ (omega (arith, below, ap length c.items.ensures))
    (sym c.in-Some.is) in
    with_operand c.args.code.now.tables c.args.m.now c.requires.machine c.in-Some.r c.push.new.self
    (slot_below_at (length c.args.m.now.pool) (top_items c.args.m.now.slots) c.args.i c.in-Some.r
    (top_slots_below (length c.args.m.now.pool) c.args.m.now.slots c.requires.machine.slots) there)
    c.in_ok-push.ensures.ok
