use Rattle.cat_guard.proofs.truth.+so.Given as goal

abbrev pub decreases-is_so : goal.decreases-is_so
decreases-is_so l = goal.size-is_so l
