-- Judgings of which a part is Empty.
use Rattle.std.proofs.Common.{◌≡◌, [], Option, None, Some, refl, ◌∙◌}
use Rattle.cat_scope.specs.Runs.{gives}
use Rattle.cat_scope.specs.Judging.{Held, Judged, found_or, or_else}
use Rattle.cat_scope.proofs.Exported.{and_then_gives, and_then_same}

found_or_none : {A : Type 0} (found : Option (Held A)) → found_or found (gives None) ≡ gives found
found_or_none None = refl
found_or_none (Some h) = refl

-- where nothing stands behind, a judging is what it is
pub or_else_none : {A : Type 0} (judged : Judged A) → or_else judged (gives None) ≡ judged
or_else_none judged =
    and_then_same judged (λ found. found_or found (gives None)) gives found_or_none ∙ and_then_gives judged
