use Rattle.std.proofs.Common.{◌≡◌, ◌++◌, take}
use Rattle.std.specs.Prelude.{flat_map}
use Rattle.cat_names.specs.DeclarationFaults.{declaration_faults}
use Rattle.cat_declare.proofs.counts.add_declarations.Given as goal

abbrev pub invariant-loop-item : goal.invariant-loop-item
invariant-loop-item l = l.faults ≡ l.fn.faults ++ flat_map declaration_faults (take l.item-index l.items)
