-- How the judging of a run follows the judging by truth values.
use Rattle.std.specs.Prelude.{◌≡◌, ◌⊎◌, Option, Some, None, Result, Ok, Err}
use Rattle.cat_scope.specs.declared.stop.Stop.{Stop}
use Rattle.cat_scope.specs.Judging.{Held}

-- a judging stops with what stopped an evaluation inside, or comes to what truth values come to: to the same
-- definition, with a value of a kind, to nothing, or to the same stop
abbrev pub Follows : {A : Type 0} → (A → Type 0) → (Stop → Type 0) → Result (Option (Held A)) Stop
    → Result (Option (Held (Unit {0}))) Stop → Type 0
Follows Has Inside (Err stop) s = Inside stop ⊎ (s ≡ Err stop)
Follows Has Inside (Ok None) (Ok None) = Unit {0}
Follows Has Inside (Ok None) (Ok (Some i)) = ⊥
Follows Has Inside (Ok None) (Err stop) = ⊥
Follows Has Inside (Ok (Some h)) (Ok (Some i)) = Has h.value × (h.number ≡ i.number) × (h.pos ≡ i.pos)
Follows Has Inside (Ok (Some h)) (Ok None) = ⊥
Follows Has Inside (Ok (Some h)) (Err stop) = ⊥
