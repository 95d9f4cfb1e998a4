use Rattle.std.proofs.Common.{◌≡◌}
use Rattle.cat_verify_tables.specs.inside.TypeNaming.{lists_of}
use Rattle.cat_verify_tables.proofs.types.in_lists.Given as goal

abbrev pub invariant-loop : goal.invariant-loop
invariant-loop l = l.whole ≡ lists_of l.counter l.fn.ty
