use Rattle.std.proofs.Common.{◌<◌, ◌≤◌, length, refl, ap, arith}
use Rattle.cat_machine.specs.Layers.{top_items}
use Rattle.cat_machine.proofs.DefaultSteps.{check_machine, check_over, check_told}
use Rattle.cat_machine.proofs.Growth.{no_more}
use Rattle.cat_machine.proofs.steps.defaults.check.Goals as goal

pub returns-then-items-gt1-clause-told : goal.returns-then-items-gt1-clause-told
returns-then-items-gt1-clause-told c =
    let many : 1 < length (top_items c.args.m.now.defaults) = omega (arith, ap length c.items.ensures) in
    (check_over c.args.code.now.tables c.args.place c.args.m.now c.args.v many c.requires.going, refl, many)

pub returns-then-items-gt1-clause-pool : goal.returns-then-items-gt1-clause-pool
returns-then-items-gt1-clause-pool c =
    no_more c.args.m.now.pool

pub returns-clause-told : goal.returns-clause-told
returns-clause-told c =
    let few : length (top_items c.args.m.now.defaults) ≤ 1 = omega (arith, ap length c.items.ensures) in
    rw c.in_ok-set_head.ensures
    (check_told c.args.code.now.tables c.args.place c.args.m.now c.args.v few c.requires.going)

pub returns-clause-machine : goal.returns-clause-machine
returns-clause-machine c =
    rw c.in_ok-set_head.ensures
    (check_machine c.args.code.now.tables c.args.place c.args.m.now c.args.v c.requires.machine)

pub returns-clause-pool : goal.returns-clause-pool
returns-clause-pool c =
    no_more c.args.m.now.pool

pub returns-in_err-set_head-clause-pool : goal.returns-in_err-set_head-clause-pool
returns-in_err-set_head-clause-pool c =
    no_more c.args.m.now.pool
