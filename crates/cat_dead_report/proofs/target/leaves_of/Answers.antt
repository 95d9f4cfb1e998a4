use Rattle.std.proofs.Common.{◌≤◌, length, ap, arith}
use Rattle.cat_region.specs.Regions.{Constraints}
use Rattle.cat_guard.specs.Trees.{tree_of}
use Rattle.cat_dead_report.proofs.SearchLemmas.{roomier}
use Rattle.cat_dead_report.proofs.target.leaves_of.Goals as goal

pub leaves_from-requires-clause-whole : goal.leaves_from-requires-clause-whole
leaves_from-requires-clause-whole c = ap (λ (r : Constraints). r.dims) c.requires.whole

pub leaves_from-requires-clause-none : goal.leaves_from-requires-clause-none
leaves_from-requires-clause-none c = ap (λ (r : Constraints). r.narrowings) c.requires.whole

pub leaves_from-requires-clause-tree : goal.leaves_from-requires-clause-tree
leaves_from-requires-clause-tree c =
    let tree = c.args.tree.now in
    let room = c.room.ensures.value in
    let less : tree.depth ≤ c.args.region.now.room = omega (arith, room) in
    roomier (length c.args.here.now.table.now.atoms) tree.depth c.args.region.now.room (tree_of tree.nodes) less
    c.requires.tree
