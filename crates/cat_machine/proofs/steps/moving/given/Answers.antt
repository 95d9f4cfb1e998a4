use Rattle.std.proofs.Common.{ℕ, List, Option, ap, arith, length, slice_get, ◌≡◌, Some, None, ◌∙◌, sym}
use Rattle.cat_machine.specs.Layers.{top_items}
use Rattle.cat_machine.proofs.Holding.{get_at}
use Rattle.cat_machine.proofs.MoveSteps.{given_empty, given_filled, given_needs}
use Rattle.cat_machine.proofs.steps.moving.given.Goals as goal

pub returns-in-Some-clause-told : goal.returns-in-Some-clause-told
returns-in-Some-clause-told c =
    let below = given_needs c.args.code.now.tables c.args.place c.args.m.now c.args.i c.args.t c.requires.going in
    let there : slice_get (top_items c.args.m.now.slots) c.args.i ≡ Some (Some c.in-Some.field-0)
    = ap (λ (l : List (Option ℕ)). slice_get l c.args.i) (sym c.items.ensures)
    ∙ get_at c.items.result.now c.args.i (Some c.in-Some.field-0) _ (omega (arith, below, ap length c.items.ensures))
    (sym c.in-Some.is) in
    given_filled c.args.code.now.tables c.args.place c.args.m.now c.args.i c.args.t c.in-Some.field-0 there

pub returns-in-None-clause-told : goal.returns-in-None-clause-told
returns-in-None-clause-told c =
    let below = given_needs c.args.code.now.tables c.args.place c.args.m.now c.args.i c.args.t c.requires.going in
    let there : slice_get (top_items c.args.m.now.slots) c.args.i ≡ Some None
    = ap (λ (l : List (Option ℕ)). slice_get l c.args.i) (sym c.items.ensures)
    ∙ get_at c.items.result.now c.args.i None _ (omega (arith, below, ap length c.items.ensures)) (sym c.in-None.is) in
    given_empty c.args.code.now.tables c.args.place c.args.m.now c.args.i c.args.t there
