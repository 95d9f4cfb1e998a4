-- Definitions that hold, by numbers behind others, and the frames to which they are added.
use Rattle.std.proofs.Common.{◌≡◌, ℕ, ◌+◌, Bool, true, false, nat_lt, List, [], ◌∷◌, ◌++◌, map, Option, Some, None}
use Rattle.std.proofs.Common.{refl, sym, ap, ◌∙◌, append_assoc, arith, if◌then◌else◌}
use Rattle.std.proofs.lemmas.Bool.Decides.{nat_tests}
use Rattle.cat_value.specs.declared.value.Value.{Value}
use Rattle.cat_value.specs.declared.outcome.Target.{Target}
use Rattle.cat_scope.specs.Runs.{plain, gives, and_then}
use Rattle.cat_scope.specs.Judging.{Held, Judged, with_held, put, in_source_order, positions_in, alone, settle}
use Rattle.cat_scope.proofs.Exported.{and_then_and_then, and_then_gives, and_then_same}
use Rattle.cat_code.specs.States.{State, DefaultFrame}
use Rattle.cat_lower.proofs.Stacks.{append_none}

-- a definition that holds, with its number behind others
abbrev pub renumbered : ℕ → Held Value → Held Value
renumbered base h = record { number = base + h.number; pos = h.pos; value = h.value }

lower_so : (base m n : ℕ) → nat_lt (base + m) (base + n) ≡ nat_lt m n
lower_so base m n = grind (arith, nat_tests)

put_renumbered : (base : ℕ) (h : Held Value) (is : List (Held Value))
    → put (renumbered base h) (map (renumbered base) is) ≡ map (renumbered base) (put h is)
put_renumbered base h [] = refl
put_renumbered base h (i ∷ is) =
    ap (λ (b : Bool). if b then renumbered base h ∷ renumbered base i ∷ map (renumbered base) is
    else renumbered base i ∷ put (renumbered base h) (map (renumbered base) is)) (lower_so base h.number i.number)
    ∙ by (nat_lt h.number i.number) (put_renumbered base h is)
  where
    by : (b : Bool) → put (renumbered base h) (map (renumbered base) is) ≡ map (renumbered base) (put h is)
        → (if b then renumbered base h ∷ renumbered base i ∷ map (renumbered base) is
        else renumbered base i ∷ put (renumbered base h) (map (renumbered base) is))
        ≡ map (renumbered base) (if b then h ∷ i ∷ is else i ∷ put h is)
    by true same = refl
    by false same = ap (λ l. renumbered base i ∷ l) same

order_renumbered : (base : ℕ) (hs : List (Held Value))
    → in_source_order (map (renumbered base) hs) ≡ map (renumbered base) (in_source_order hs)
order_renumbered base [] = refl
order_renumbered base (h ∷ hs) =
    ap (put (renumbered base h)) (order_renumbered base hs) ∙ put_renumbered base h (in_source_order hs)

positions_renumbered : (base : ℕ) (hs : List (Held Value)) → positions_in (map (renumbered base) hs) ≡ positions_in hs
positions_renumbered base [] = refl
positions_renumbered base (h ∷ hs) = ap (λ l. h.pos ∷ l) (positions_renumbered base hs)

-- a conflict tells the same positions
pub conflict_renumbered : (base : ℕ) (hs : List (Held Value))
    → positions_in (in_source_order (map (renumbered base) hs)) ≡ positions_in (in_source_order hs)
conflict_renumbered base hs =
    ap positions_in (order_renumbered base hs) ∙ positions_renumbered base (in_source_order hs)

-- a list of one that is settled is that one
pub settle_one : (target : Target) (judged : Judged Value) → settle target (judged ∷ []) ≡ judged
settle_one target judged =
    and_then_and_then judged _ _ ∙ and_then_same judged _ (λ o. gives o) by ∙ and_then_gives judged
  where
    by : (o : Option (Held Value))
        → and_then (and_then (gives []) (λ more. gives (with_held o more))) (λ hs. plain (alone target hs)) ≡ gives o
    by None = refl
    by (Some h) = refl

-- the entries of a frame for what holds
abbrev pub entries : ℕ → Option (Held Value) → List (Held Value)
entries base None = []
entries base (Some h) = renumbered base h ∷ []

-- one more that holds in a frame
abbrev pub adds : ℕ → Option (Held Value) → DefaultFrame → DefaultFrame
adds base None f = f
adds base (Some h) f = record f { held = f.held ++ renumbered base h ∷ [] }

abbrev pub adds_all : ℕ → List (Held Value) → DefaultFrame → DefaultFrame
adds_all base [] f = f
adds_all base (h ∷ hs) f = adds_all base hs (adds base (Some h) f)

pub all_added : (base : ℕ) (hs : List (Held Value)) (f : DefaultFrame)
    → adds_all base hs f ≡ record f { held = f.held ++ map (renumbered base) hs }
all_added base [] f =
    ap (λ (l : List (Held Value)). record { checked = f.checked; held = l }) (sym (append_none f.held))
all_added base (h ∷ hs) f =
    all_added base hs (adds base (Some h) f)
    ∙ ap (λ (l : List (Held Value)). record { checked = f.checked; held = l })
    (append_assoc f.held (renumbered base h ∷ []) (map (renumbered base) hs))

pub added : (base : ℕ) (o : Option (Held Value)) (f : DefaultFrame)
    → record f { held = f.held ++ entries base o } ≡ adds base o f
added base None f = ap (λ (l : List (Held Value)). record { checked = f.checked; held = l }) (append_none f.held)
added base (Some h) f = refl

-- a state with this default frame on top
abbrev pub framed : DefaultFrame → State → State
framed f s = record s { defaults = f ∷ s.defaults }

-- a frame that was checked
abbrev pub tested : ℕ → List (Held Value) → DefaultFrame
tested v hs = record { checked = Some v; held = hs }
