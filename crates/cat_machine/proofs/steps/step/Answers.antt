use Rattle.std.proofs.Common.{arith, ap, length}
use Rattle.cat_machine.proofs.Unstuck.{step_within}
use Rattle.cat_machine.proofs.steps.step.Goals as goal

pub act-requires-clause-place : goal.act-requires-clause-place
act-requires-clause-place c =
    let within = step_within c.args.code.now c.args.place c.args.m.now c.requires.going in
    let fits = c.as_slice.type_inv.0 in
    omega (arith, within, fits, ap length c.as_slice.ensures)
