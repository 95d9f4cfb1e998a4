use Rattle.std.proofs.Common.{◌≡◌, take}
use Rattle.cat_check_exprs.proofs.known.copy_types.Given as goal

abbrev pub invariant-loop-ty : goal.invariant-loop-ty
invariant-loop-ty l = l.copies ≡ take l.ty-index l.types
