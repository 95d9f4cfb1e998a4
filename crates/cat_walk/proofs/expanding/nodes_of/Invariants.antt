use Rattle.std.proofs.Common.{◌≡◌, ◌++◌, ◌∷◌, [], length}
use Rattle.cat_walk.specs.LeafPlaces.{lists_of}
use Rattle.cat_walk.specs.inside.Meetings.{start_of, to_come}
use Rattle.cat_walk.specs.inside.Nodes.{nodes_met}
use Rattle.cat_walk.proofs.expanding.nodes_of.Given as goal

abbrev pub invariant-loop-nodes : goal.invariant-loop-nodes
invariant-loop-nodes l =
    l.nodes ++ nodes_met (to_come (lists_of l.tree) l.places)
    ≡ nodes_met (to_come (lists_of l.tree) (start_of l.tree ∷ []))

abbrev pub decreases-loop-nodes : goal.decreases-loop-nodes
decreases-loop-nodes l = length (to_come (lists_of l.tree) l.places)
