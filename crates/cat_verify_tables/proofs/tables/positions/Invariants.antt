use Rattle.std.proofs.Common.{[], take}
use Rattle.cat_verify_tables.specs.inside.Entries.{AreTold}
use Rattle.cat_verify_tables.specs.inside.FoundPlaces.{IsPosOf}
use Rattle.cat_verify_tables.proofs.tables.positions.Given as goal

abbrev pub invariant-loop-at : goal.invariant-loop-at
invariant-loop-at l = AreTold (λ _. IsPosOf l.files) [] (take l.at l.lines) l.positions
