use Rattle.std.proofs.Common.{◌≡◌, ◌++◌, map}
use Rattle.cat_value.specs.declared.ty.Ty.TheVariants as flat
use Rattle.cat_names.specs.Heights.{high_named}
use Rattle.cat_declare.specs.inside.Measuring.{measured}
use Rattle.cat_declare.proofs.Numbering.{high_from, names_from}
use Rattle.cat_declare.proofs.heights.Measures.add_enumerations.Given as goal

abbrev pub invariant-loop-number : goal.invariant-loop-number
invariant-loop-number l =
    l.faults ++ high_from (measured l.self) flat.Enumeration l.number (names_from l.enumerations l.number)
    ≡ l.fn.faults ++ high_named (measured l.self) flat.Enumeration (map (λ d. d.name.now) l.enumerations)
