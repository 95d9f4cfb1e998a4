use Rattle.cat_guard.proofs.truth.+known.Given as goal

abbrev pub decreases-known : goal.decreases-known
decreases-known l = goal.size-known l
