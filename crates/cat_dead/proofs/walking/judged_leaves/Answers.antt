use Rattle.std.proofs.Common.{slice_get}
use Rattle.cat_dead.proofs.LeafLemmas.{whole_judged}
use Rattle.cat_dead.proofs.walking.judged_leaves.Goals as goal

pub returns-clause-judged : goal.returns-clause-judged
returns-clause-judged c =
    let table = c.args.table.now in
    whole_judged (slice_get table.targets c.args.target) table.atoms table.terms c.args.region.now c.requires.whole
    c.requires.none c.args.nodes.now c.walked-leaves.result c.walked-leaves.ensures.judged
