use Rattle.std.proofs.Common.{true}
use Rattle.cat_machine.proofs.LoopSteps.{begun_machine, iter_list_needs, iter_list_told}
use Rattle.cat_machine.proofs.steps.looping.iter_list.Goals as goal

pub begin-requires : goal.begin-requires
begin-requires c =
    record {
      below = c.requires.machine.operands;
      list =
          iter_list_needs c.args.code.now.tables c.args.place c.args.m.now c.args.k c.requires.going;
    }

pub returns-clause-told : goal.returns-clause-told
returns-clause-told c =
    iter_list_told c.args.code.now.tables c.args.place c.args.m.now c.args.k c.begin.new.m c.in_ok-begin.ensures.ok

pub returns-clause-machine : goal.returns-clause-machine
returns-clause-machine c =
    begun_machine c.args.code.now.tables c.args.m.now c.begin.new.m true c.requires.machine c.in_ok-begin.ensures.ok
