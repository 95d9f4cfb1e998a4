use Rattle.std.proofs.Common.{false}
use Rattle.cat_machine.proofs.LoopSteps.{begun_machine, iter_needs, iter_told}
use Rattle.cat_machine.proofs.steps.looping.iter.Goals as goal

pub begin-requires : goal.begin-requires
begin-requires c =
    record {
      below = c.requires.machine.operands;
      list =
          iter_needs c.args.code.now.tables c.args.place c.args.m.now c.requires.going;
    }

pub returns-clause-told : goal.returns-clause-told
returns-clause-told c =
    iter_told c.args.code.now.tables c.args.place c.args.m.now c.begin.new.m c.in_ok-begin.ensures.ok

pub returns-clause-machine : goal.returns-clause-machine
returns-clause-machine c =
    begun_machine c.args.code.now.tables c.args.m.now c.begin.new.m false c.requires.machine c.in_ok-begin.ensures.ok
