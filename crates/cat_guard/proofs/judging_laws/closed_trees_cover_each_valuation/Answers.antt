use Rattle.std.proofs.Common.{[]}
use Rattle.cat_guard.proofs.TreeLaws.{nodes_cover, cited_cover, all_admitted}
use Rattle.cat_guard.proofs.judging_laws.closed_trees_cover_each_valuation.Goals as goal

pub returns-clause-nodes : goal.returns-clause-nodes
returns-clause-nodes c atoms t dims room nodes closed v is =
    nodes_cover atoms t (record { dims = dims; narrowings = []; room = room }) nodes v closed
    (all_admitted dims room v is)

pub returns-clause-cited : goal.returns-clause-cited
returns-clause-cited c atoms t dims room tree closed v is =
    cited_cover atoms t (record { dims = dims; narrowings = []; room = room }) tree v closed
    (all_admitted dims room v is)
