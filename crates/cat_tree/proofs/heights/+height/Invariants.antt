use Rattle.std.proofs.Common.{◌≡◌, ◌+◌, ◌*◌, max, drop}
use Rattle.cat_tree.specs.Spells.{height_of}
use Rattle.cat_tree.specs.inside.Highest.{highest_part, highest_node, highest_value, highest_body}
use Rattle.cat_tree.proofs.heights.+height.Given as goal

abbrev pub decreases-height : goal.decreases-height
decreases-height l = 3 * height_of l.e.now

abbrev pub decreases-height_in : goal.decreases-height_in
decreases-height_in l = 3 * height_of l.e.now + 1

abbrev pub decreases-highest_part : goal.decreases-highest_part
decreases-highest_part l = 3 * highest_part l.e.now + 2

abbrev pub decreases-highest_node : goal.decreases-highest_node
decreases-highest_node l = 3 * highest_node l.nodes.now + 1

abbrev pub decreases-highest_value : goal.decreases-highest_value
decreases-highest_value l = 3 * highest_value l.fields.now + 1

abbrev pub decreases-highest_body : goal.decreases-highest_body
decreases-highest_body l = 3 * highest_body l.arms.now + 1

abbrev pub invariant-highest_node-loop-node : goal.invariant-highest_node-loop-node
invariant-highest_node-loop-node l = max l.highest (highest_node (drop l.node-index l.nodes)) ≡ highest_node l.nodes

abbrev pub invariant-highest_value-loop-field : goal.invariant-highest_value-loop-field
invariant-highest_value-loop-field l = max l.highest (highest_value (drop l.field-index l.fields)) ≡ highest_value
    l.fields

abbrev pub invariant-highest_body-loop-arm : goal.invariant-highest_body-loop-arm
invariant-highest_body-loop-arm l = max l.highest (highest_body (drop l.arm-index l.arms)) ≡ highest_body l.arms
