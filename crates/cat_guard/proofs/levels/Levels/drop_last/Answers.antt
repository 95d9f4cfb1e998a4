use Rattle.cat_pos.proofs.StackLemmas.{pop_fewer}
use Rattle.cat_guard.proofs.LevelLemmas.{pop_keeps}
use Rattle.cat_guard.proofs.levels.Levels.drop_last.Goals as goal

pub returns-clause-kept : goal.returns-clause-kept
returns-clause-kept c atoms t region are = record {
  conjuncts = are.conjuncts;
  whole = are.whole;
  levels = pop_keeps atoms t region c.args.self.now.levels c.pop.new.self c.pop.result c.pop.ensures are.levels;
}

pub returns-clause-fewer : goal.returns-clause-fewer
returns-clause-fewer c = pop_fewer c.args.self.now.levels c.pop.new.self c.pop.result c.pop.ensures
