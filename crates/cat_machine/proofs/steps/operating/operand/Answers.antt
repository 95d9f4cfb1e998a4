use Rattle.std.proofs.Common.{refl, length}
use Rattle.cat_machine.proofs.Holding.{below_split}
use Rattle.cat_machine.proofs.steps.operating.operand.Goals as goal

pub returns : goal.returns
returns c =
    record {
      below =
          (below_split (length c.args.m.now.pool) c.args.m.now.operands c.in-Some.r c.pop.new.self c.in-Some.ensures
          c.requires.below).0;
      popped = c.in-Some.ensures;
      same = refl;
    }
