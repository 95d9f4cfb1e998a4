-- Readers whose breaks leave nothing whole.
use Rattle.std.proofs.Common.{◌≡◌, ℕ, zero, suc, Bool, true, false, List, [], ◌∷◌, Option, Some, None, if◌then◌else◌}
use Rattle.std.proofs.Common.{refl}
use Rattle.cat_parse_expr.proofs.Common.{Token, Parsed, Reader, Fails, Reads, after, hidden_in, one, made_of, turns}

-- a break leaves nothing whole
abbrev pub IsShut : {A : Type 0} → Parsed A → Type 0
IsShut (Fails left deep whole) = whole ≡ None
IsShut (Reads x left) = Unit {0}

pub hidden_shut : {A : Type 0} (o : Parsed A) → IsShut (hidden_in o)
hidden_shut (Fails left deep whole) = refl
hidden_shut (Reads x left) = tt

pub shut_after : {A B : Type 0} (o : Parsed A) (r : A → Reader B) → IsShut o
    → ((x : A) (ts : List Token) → IsShut (r x ts))
    → IsShut (after o r)
shut_after (Fails left deep whole) r h next = h
shut_after (Reads x left) r h next = next x left

pub one_shut : {A : Type 0} (take : Token → Option A) (ts : List Token) → IsShut (one take ts)
one_shut take [] = refl
one_shut {A = A} take (p ∷ ts) = by (take p)
  where
    by : (o : Option A) → IsShut (made_of o (p ∷ ts) ts)
    by None = refl
    by (Some x) = tt

pub shut_turns : {A : Type 0} (goes : A → List Token → Bool) (turn : A → Reader A)
    → ((x : A) (ts : List Token) → IsShut (turn x ts)) → (n : ℕ) (x : A) (ts : List Token)
    → IsShut (turns goes turn n x ts)
shut_turns goes turn shut zero x ts = tt
shut_turns {A = A} goes turn shut (suc n) x ts = by (goes x ts) (λ y us. shut_turns goes turn shut n y us)
  where
    by : (c : Bool) → ((y : A) (us : List Token) → IsShut (turns goes turn n y us))
        → IsShut (if c then after (turn x ts) (turns goes turn n) else Reads x ts)
    by true rest = shut_after (turn x ts) (turns goes turn n) (shut x ts) rest
    by false rest = tt
