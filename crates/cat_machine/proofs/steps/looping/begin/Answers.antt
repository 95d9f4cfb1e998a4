use Rattle.std.proofs.Common.{length}
use Rattle.cat_machine.proofs.Holding.{below_split}
use Rattle.cat_machine.proofs.LoopSteps.{begin_list, begins}
use Rattle.cat_machine.proofs.steps.looping.begin.Goals as goal

pub unreachable-requires-in_default-look : goal.unreachable-requires-in_default-look
unreachable-requires-in_default-look c =
    begin_list c.args.m.now c.requires.list c.in-Some.r c.pop.new.self c.look.result.now c.in-Some.ensures
    c.look.ensures.value
    c.in_default-look.not-List

pub returns-clause-ok : goal.returns-clause-ok
returns-clause-ok c =
    begins c.args.m.now c.in-Some.r c.pop.new.self c.open.new.self c.in-List.left c.look.result.now c.args.collects
    c.in-Some.ensures
    c.look.ensures.value c.in-List.is c.look.ensures.parts
    (below_split (length c.args.m.now.pool) c.args.m.now.operands c.in-Some.r c.pop.new.self c.in-Some.ensures
    c.requires.below).0 c.in_ok-open.ensures.ok
