use Rattle.cat_check_names.proofs.FirstOutputs.{AreFirstOutputs}
use Rattle.cat_check_names.proofs.building.outputs_of.Given as goal

abbrev pub invariant-loop-item : goal.invariant-loop-item
invariant-loop-item l = AreFirstOutputs l.items l.item l.names l.numbers
