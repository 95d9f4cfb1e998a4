use Rattle.cat_guard.proofs.TreeLaws.{closed_covers, nodes_cover, cited_cover}
use Rattle.cat_guard.proofs.judging_laws.closed_trees_cover_what_is_admitted.Goals as goal

pub returns-clause-trees : goal.returns-clause-trees
returns-clause-trees c = closed_covers

pub returns-clause-nodes : goal.returns-clause-nodes
returns-clause-nodes c = nodes_cover

pub returns-clause-cited : goal.returns-clause-cited
returns-clause-cited c = cited_cover
