use Rattle.std.proofs.Common.{take}
use Rattle.cat_scope.specs.Names.{AllHave}
use Rattle.cat_verify_tables.specs.inside.HighWords.{IsLowType}
use Rattle.cat_verify_tables.proofs.heights.Measures.are_low_types.Given as goal

abbrev pub invariant-loop-ty : goal.invariant-loop-ty
invariant-loop-ty l = AllHave (IsLowType l.self) (take l.ty-index l.types)
