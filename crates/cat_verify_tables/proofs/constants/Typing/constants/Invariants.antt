use Rattle.std.proofs.Common.{[], take}
use Rattle.cat_verify_tables.specs.inside.Entries.{AreTold}
use Rattle.cat_verify_tables.specs.inside.ConstantWords.{IsConstantBy}
use Rattle.cat_verify_tables.proofs.constants.Typing.constants.Given as goal

abbrev pub invariant-loop-at : goal.invariant-loop-at
invariant-loop-at l = AreTold (λ _. IsConstantBy l.self) [] (take l.at l.lines) l.constants
