use Rattle.cat_machine.proofs.Popping.{jump_told}
use Rattle.cat_machine.proofs.steps.act.Goals as goal

pub returns-in-Jump-clause-told : goal.returns-in-Jump-clause-told
returns-in-Jump-clause-told c =
    jump_told c.args.code.now.tables c.args.place c.in-Jump.t c.args.m.now c.args.instr c.in-Jump.is
