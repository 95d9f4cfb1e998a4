use Rattle.std.proofs.Common.{refl}
use Rattle.cat_machine.proofs.DefaultSteps.{no_value_over}
use Rattle.cat_machine.proofs.Growth.{no_more}
use Rattle.cat_machine.proofs.steps.defaults.no_value.Goals as goal

pub returns-clause-told : goal.returns-clause-told
returns-clause-told c =
    (no_value_over c.args.code.now.tables c.args.place c.args.v c.args.m.now, refl, tt)

pub returns-clause-pool : goal.returns-clause-pool
returns-clause-pool c =
    no_more c.args.m.now.pool
