use Rattle.cat_sound.proofs.GroupLaws.{forest_acyclic, forest_judged}
use Rattle.cat_sound.proofs.grouping.forests_are_judged_by_their_rule.Goals as goal

pub returns-clause-acyclic : goal.returns-clause-acyclic
returns-clause-acyclic c = forest_acyclic c.args.forest.now

pub returns-clause-judged : goal.returns-clause-judged
returns-clause-judged c = forest_judged c.args.forest.now
