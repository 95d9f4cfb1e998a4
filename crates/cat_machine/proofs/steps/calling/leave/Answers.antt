use Rattle.std.proofs.Common.{◌∙◌, ap, sym, Some, Option}
use Rattle.cat_machine.specs.declared.machine.Return.{Return}
use Rattle.cat_machine.proofs.CallSteps.{back_own_machine}
use Rattle.cat_machine.proofs.steps.calling.leave.Goals as goal

pub returns-clause-machine : goal.returns-clause-machine
returns-clause-machine c =
    back_own_machine c.args.code.now.tables c.args.place c.args.m.now c.in-Some-here.frame c.close.new.self
    c.close-2.new.self c.requires.machine
    (sym c.head.ensures ∙ c.in-Some.is ∙ ap (λ (o : Option Return). Some o) c.in-Some-here.is) c.close.ensures
    c.close-2.ensures
