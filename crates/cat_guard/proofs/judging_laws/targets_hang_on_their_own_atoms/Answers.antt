use Rattle.cat_guard.proofs.OwnAtoms.{decided_same}
use Rattle.cat_guard.proofs.judging_laws.targets_hang_on_their_own_atoms.Goals as goal

pub returns : goal.returns
returns c t holds other same = decided_same holds other t same
