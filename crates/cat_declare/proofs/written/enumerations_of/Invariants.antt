use Rattle.std.proofs.Common.{◌≡◌, ◌++◌, map, drop}
use Rattle.cat_names.specs.Written.{enumerations_in}
use Rattle.cat_declare.specs.inside.Writings.{as_pair}
use Rattle.cat_declare.proofs.written.enumerations_of.Given as goal

abbrev pub invariant-loop-item : goal.invariant-loop-item
invariant-loop-item l =
    map as_pair l.enumerations ++ enumerations_in (drop l.item-index l.items) ≡ enumerations_in l.items
