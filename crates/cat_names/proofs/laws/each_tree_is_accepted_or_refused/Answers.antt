use Rattle.cat_names.proofs.DecidedLaws.{decided}
use Rattle.cat_names.proofs.laws.each_tree_is_accepted_or_refused.Goals as goal

pub returns : goal.returns
returns c tree parsed = decided c.a_cycle_leaves_no_order.ensures tree parsed
