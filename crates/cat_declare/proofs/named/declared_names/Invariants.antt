use Rattle.std.proofs.Common.{◌≡◌, map, take}
use Rattle.std.specs.Prelude.{flat_map}
use Rattle.cat_names.specs.DeclarationFaults.{declared_name}
use Rattle.cat_declare.proofs.named.declared_names.Given as goal

abbrev pub invariant-loop-item : goal.invariant-loop-item
invariant-loop-item l = map (λ d. d.name.now) l.names ≡ flat_map declared_name (take l.item-index l.items)
