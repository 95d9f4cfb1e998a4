-- What groups of definitions come to, of which some except others.
use Rattle.std.specs.Prelude.{ℕ, zero, suc, nat_lt, List, [], ◌∷◌, map, Option, Some, None, Result, Ok, Err}
use Rattle.std.specs.Prelude.{if◌then◌else◌}
use Rattle.cat_pos.specs.declared.pos.Pos.{Pos}
use Rattle.cat_value.specs.declared.outcome.Target.{Target}
use Rattle.cat_scope.specs.declared.stop.Stop.{Stop}
use Rattle.cat_scope.specs.declared.stop.Stop.TheVariants.{Conflict, Stuck}
use Rattle.cat_scope.specs.Runs.{Run, gives, stops, and_then, giving}
use Rattle.cat_scope.specs.Groups.{excepting}

-- a definition that holds: its number, its position, and what it gives
pub record Held (A : Type 0) : Type 0 where
  pub number : ℕ
  pub pos : Pos
  pub value : A

-- Held, Empty (nothing is there), or a stop
abbrev pub Judged : Type 0 → Type 0
Judged A = Run (Option (Held A))

-- one more that holds in front, where it does
abbrev pub with_held : {A : Type 0} → Option (Held A) → List (Held A) → List (Held A)
with_held None more = more
with_held (Some h) more = h ∷ more

-- those that hold, or the first stop
abbrev pub holding : {A : Type 0} → List (Judged A) → Run (List (Held A))
holding [] = gives []
holding (r ∷ rs) = and_then r (λ one. and_then (holding rs) (λ more. gives (with_held one more)))

-- put behind those of lower numbers
abbrev pub put : {A : Type 0} → Held A → List (Held A) → List (Held A)
put h [] = h ∷ []
put h (i ∷ is) = if nat_lt h.number i.number then h ∷ i ∷ is else i ∷ put h is

-- by their numbers, the lowest first
abbrev pub in_source_order : {A : Type 0} → List (Held A) → List (Held A)
in_source_order [] = []
in_source_order (h ∷ hs) = put h (in_source_order hs)

-- the positions of definitions, in the order of the list
abbrev pub positions_in : {A : Type 0} → List (Held A) → List Pos
positions_in [] = []
positions_in (h ∷ hs) = h.pos ∷ positions_in hs

-- none is Empty, one is that one, two or more are a Conflict
abbrev pub alone : {A : Type 0} → Target → List (Held A) → Result (Option (Held A)) Stop
alone target [] = Ok None
alone target (h ∷ []) = Ok (Some h)
alone target (h ∷ i ∷ hs) = Err (Conflict target (positions_in (in_source_order (h ∷ i ∷ hs))))

-- a list is judged in order: the first stop ends it
abbrev pub settle : {A : Type 0} → Target → List (Judged A) → Judged A
settle target judged = giving (holding judged) (alone target)

-- where one holds, nothing else is judged
abbrev pub found_or : {A : Type 0} → Option (Held A) → Judged A → Judged A
found_or (Some h) other = gives (Some h)
found_or None other = other

-- the first, or the second where the first is Empty
abbrev pub or_else : {A : Type 0} → Judged A → Judged A → Judged A
or_else first other = and_then first (λ found. found_or found other)

-- a group is judged as the list of the groups that except it and, where that is Empty, by its own definitions, which
-- come to `own`; a chain of exceptions that is longer than n is stuck
abbrev pub judge : {A : Type 0} → Target → List (ℕ × ℕ) → (ℕ → Judged A) → ℕ → ℕ → Judged A
judge target pairs own zero group = stops Stuck
judge target pairs own (suc n) group =
    or_else (settle target (map (judge target pairs own n) (excepting pairs group))) (own group)

-- the position of the definition that holds
abbrev pub held_position : {A : Type 0} → Option (Held A) → Option Pos
held_position None = None
held_position (Some h) = Some h.pos

-- a judging that ends Held or Empty is logged as it ends, behind all that was decided within
abbrev pub decided : {A : Type 0} → Target → Judged A → Judged A
decided target judged =
    and_then judged
    (λ found. record { log = record { target = target; by = held_position found } ∷ []; end = Ok found })
