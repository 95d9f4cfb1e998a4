use Rattle.std.proofs.Common.{◌≡◌, drop}
use Rattle.cat_search.specs.Ways.{way_from}
use Rattle.cat_search.proofs.way.Way.go_on.Given as goal

abbrev pub invariant-loop-node : goal.invariant-loop-node
invariant-loop-node l = way_from l.self (drop l.node-index l.nodes) ≡ way_from l.fn.self l.nodes
