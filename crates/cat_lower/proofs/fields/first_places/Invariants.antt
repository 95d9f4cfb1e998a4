use Rattle.std.proofs.Common.{◌≡◌, drop, map}
use Rattle.cat_lower.specs.Pieces.{indices}
use Rattle.cat_lower.proofs.fields.first_places.Given as goal

abbrev pub invariant-loop-at : goal.invariant-loop-at
invariant-loop-at l = l.places ≡ indices 0 l.count l.at (map (λ f. f.field) (drop l.at l.fields))
