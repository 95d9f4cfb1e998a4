use Rattle.std.proofs.Common.{◌≡◌, ◌≤◌, ◌+◌, drop}
use Rattle.cat_table.specs.Leaves.{leaves_among}
use Rattle.cat_table.proofs.leaves.leaves_among.Given as goal

abbrev pub invariant-loop-node : goal.invariant-loop-node
invariant-loop-node l =
    (l.leaves + leaves_among (drop l.node-index l.nodes) ≡ leaves_among l.nodes) × (l.leaves ≤ l.node-index)
