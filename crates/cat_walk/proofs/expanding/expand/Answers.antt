use Rattle.std.proofs.Common.{◌∙◌}
use Rattle.cat_guard.specs.Trees.{tree_of}
use Rattle.std.proofs.Common.{ap}
use Rattle.cat_walk.proofs.ExpandLemmas.{small_earlier, small_tree, small_is_tree}
use Rattle.cat_walk.proofs.expanding.expand.Goals as goal

pub nodes_of-requires : goal.nodes_of-requires
nodes_of-requires c = small_earlier c.args.tree.now c.requires

pub from_parts-requires : goal.from_parts-requires
from_parts-requires c =
    small_is_tree c.args.tree.now c.requires c.in_ok-nodes.nodes c.in_ok-nodes.ensures c.in_ok-size.size
    c.in_ok-size.ensures

pub returns : goal.returns
returns c =
    ap tree_of c.from_parts.ensures.nodes
    ∙ small_tree c.args.tree.now c.requires c.in_ok-nodes.nodes c.in_ok-nodes.ensures
