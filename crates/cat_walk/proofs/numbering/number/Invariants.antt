use Rattle.std.proofs.Common.{◌≡◌, true, Some, [], drop}
use Rattle.cat_guard.specs.Trees.{Tree, tree_of, is_whole}
use Rattle.cat_walk.specs.inside.Classes.{HasRoom, AreClasses}
use Rattle.cat_walk.specs.inside.Numbering.{IsNumbered}
use Rattle.cat_walk.proofs.numbering.number.Given as goal

abbrev pub invariant-loop-node : goal.invariant-loop-node
invariant-loop-node l = record {
  room : HasRoom l.classes.splits.keys l.classes.recurs;
  numbered : (t : Tree) → tree_of l.nodes ≡ Some t → is_whole t ≡ true
      → AreClasses l.fn.classes.splits.keys l.fn.classes.recurs []
      → IsNumbered l.classes.splits.keys l.classes.recurs l.waiting (drop l.node-index l.nodes) l.root t;
}
