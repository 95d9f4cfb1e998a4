use Rattle.cat_guard.proofs.conjuncts.+leaf_count.Given as goal

abbrev pub decreases-leaf_count : goal.decreases-leaf_count
decreases-leaf_count l = goal.size-leaf_count l
