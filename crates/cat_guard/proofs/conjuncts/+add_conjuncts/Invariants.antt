use Rattle.cat_guard.proofs.conjuncts.+add_conjuncts.Given as goal

abbrev pub decreases-add_conjuncts : goal.decreases-add_conjuncts
decreases-add_conjuncts l = goal.size-add_conjuncts l
