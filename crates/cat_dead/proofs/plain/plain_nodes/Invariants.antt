use Rattle.std.proofs.Common.{◌≡◌, ◌++◌, map, drop}
use Rattle.cat_dead.specs.inside.Plain.{plain_node}
use Rattle.cat_dead.proofs.plain.plain_nodes.Given as goal

abbrev pub invariant-loop-node : goal.invariant-loop-node
invariant-loop-node l = l.made ++ map plain_node (drop l.node-index l.nodes) ≡ map plain_node l.nodes
