use Rattle.std.proofs.Common.{◌≡◌}
use Rattle.cat_names.specs.Lookup.{nested_list}
use Rattle.cat_declare.proofs.types.nested.Given as goal

abbrev pub invariant-loop : goal.invariant-loop
invariant-loop l = l.ty ≡ nested_list l.counter l.fn.base
