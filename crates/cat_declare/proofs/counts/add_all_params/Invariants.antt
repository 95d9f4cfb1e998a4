use Rattle.std.proofs.Common.{◌≡◌, ◌++◌, take}
use Rattle.std.specs.Prelude.{flat_map}
use Rattle.cat_names.specs.DeclarationFaults.{param_faults}
use Rattle.cat_declare.proofs.counts.add_all_params.Given as goal

abbrev pub invariant-loop-variable : goal.invariant-loop-variable
invariant-loop-variable l = l.faults ≡ l.fn.faults ++ flat_map param_faults (take l.variable-index l.variables)
