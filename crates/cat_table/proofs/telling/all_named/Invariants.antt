use Rattle.std.proofs.Common.{◌≡◌, ◌++◌, drop, map}
use Rattle.cat_table.specs.NamedTypes.{named}
use Rattle.cat_table.proofs.telling.all_named.Given as goal

abbrev pub invariant-loop-ty : goal.invariant-loop-ty
invariant-loop-ty l = l.found ++ map named (drop l.ty-index l.types) ≡ map named l.types
