use Rattle.std.proofs.Common.{ℕ, List, ap, arith, length, get_or, slice_get, ◌≡◌, Some, ◌∙◌, refl, sym}
use Rattle.cat_machine.specs.Layers.{top_items}
use Rattle.cat_machine.proofs.Growth.{top_below}
use Rattle.cat_machine.proofs.Holding.{below_at, get_at, with_operand}
use Rattle.cat_machine.proofs.MoveSteps.{local_needs, local_told}
use Rattle.cat_machine.proofs.steps.moving.local.Goals as goal

pub returns-clause-told : goal.returns-clause-told
returns-clause-told c =
    let below = local_needs c.args.code.now.tables c.args.place c.args.m.now c.args.i c.requires.going in
    let there : slice_get (top_items c.args.m.now.locals) c.args.i ≡ Some (get_or c.items.result.now c.args.i 0)
    = ap (λ (l : List ℕ). slice_get l c.args.i) (sym c.items.ensures)
    ∙ get_at c.items.result.now c.args.i (get_or c.items.result.now c.args.i 0) 0
    (omega (arith, below, ap length c.items.ensures)) refl in
    local_told c.args.code.now.tables c.args.place c.args.m.now c.args.i (get_or c.items.result.now c.args.i 0)
    c.push.new.self there c.in_ok-push.ensures.ok

pub returns-clause-machine : goal.returns-clause-machine
returns-clause-machine c =
    let below = local_needs c.args.code.now.tables c.args.place c.args.m.now c.args.i c.requires.going in
    let there : slice_get (top_items c.args.m.now.locals) c.args.i ≡ Some (get_or c.items.result.now c.args.i 0)
    = ap (λ (l : List ℕ). slice_get l c.args.i) (sym c.items.ensures)
    ∙ get_at c.items.result.now c.args.i (get_or c.items.result.now c.args.i 0) 0
    (omega (arith, below, ap length c.items.ensures)) refl in
    with_operand c.args.code.now.tables c.args.m.now c.requires.machine (get_or c.items.result.now c.args.i 0)
    c.push.new.self
    (below_at (length c.args.m.now.pool) (top_items c.args.m.now.locals) c.args.i (get_or c.items.result.now c.args.i 0)
    (top_below (length c.args.m.now.pool) c.args.m.now.locals c.requires.machine.locals) there) c.in_ok-push.ensures.ok
