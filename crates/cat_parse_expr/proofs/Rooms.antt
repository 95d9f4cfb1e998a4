-- What a call gives, by another reader; and an operand by its room.
use Rattle.std.proofs.Common.{◌≡◌, ◌<◌, ◌-◌, ℕ, zero, suc, List, Result, Ok, Err, drop, refl, ap, ◌∙◌, arith}
use Rattle.cat_parse_expr.specs.Climbing.{operand}
use Rattle.cat_parse_expr.proofs.Common.{Token, Behind, Measured, Miss, Broken, Memory, nothing_at, primary, climb}
use Rattle.cat_parse_expr.proofs.Common.{goes_on, step, as_many, Gives, Parsed, Reader, after, ◌⨟◌}

-- a reader that comes to the same at the place
pub same_given : {A : Type 0} (r s : Reader A) (tokens : List Token) (at : ℕ) (x : Result (A × ℕ) Miss)
    → s (drop at tokens) ≡ r (drop at tokens) → Gives r tokens at x → Gives s tokens at x
same_given r s tokens at (Ok x) e g = (e ∙ g.0, g.1, g.2)
same_given r s tokens at (Err (Broken b)) e g = (e ∙ g.0, g.1, g.2)
same_given r s tokens at (Err Memory) e g = tt

-- one reader broke off, so what begins with it does
pub broken_given : {A B : Type 0} (r : Reader A) (next : A → Reader B) (tokens : List Token) (at : ℕ) (miss : Miss)
    → Gives r tokens at (Err miss) → Gives (r ⨟ next) tokens at (Err miss)
broken_given r next tokens at (Broken b) g = (ap (λ (o : Parsed _). after o next) g.0, g.1, g.2)
broken_given r next tokens at Memory g = tt

-- one reader, and the next
pub next_given : {A B : Type 0} (r : Reader A) (next : A → Reader B) (tokens : List Token) (at place : ℕ) (x : A)
    (o : Result (B × ℕ) Miss) → Gives r tokens at (Ok (x, place)) → Gives (next x) tokens place o
    → Gives (r ⨟ next) tokens at o
next_given r next tokens at place x (Ok y) g h =
    (ap (λ (o : Parsed _). after o next) g.0 ∙ h.0, omega (arith, g.1, h.1), h.2)
next_given r next tokens at place x (Err (Broken b)) g h = (ap (λ (o : Parsed _). after o next) g.0 ∙ h.0, h.1, h.2)
next_given r next tokens at place x (Err Memory) g h = tt

-- no room: nothing is read
no_room : (room : ℕ) (b : Behind) (k : ℕ) (ts : List Token) → room ≡ 0 → operand room b k ts ≡ nothing_at k ts
unfolding operand
no_room zero b k ts h = refl
no_room (suc n) b k ts h = absurd (omega (arith, h))

-- room: an operand and what goes on behind it, of parts one lower
some_room : (room : ℕ) (b : Behind) (k : ℕ) (ts : List Token) → 0 < room
    → operand room b k ts ≡ climb (operand (room - 1)) (room - 1) b k ts
unfolding operand
some_room zero b k ts h = absurd (omega (arith, h))
some_room (suc n) b k ts h =
    let e : n ≡ suc n - 1 = omega arith in
    ap (λ (m : ℕ). climb (operand m) m b k ts) e

module _ (room : ℕ) (b : Behind) (k : ℕ) (tokens : List Token) (at : ℕ) where
  pub without_room : room ≡ 0 → (x : Result (Measured × ℕ) Miss) → Gives (nothing_at k) tokens at x
      → Gives (operand room b k) tokens at x
  without_room h x = same_given (nothing_at k) (operand room b k) tokens at x (no_room room b k (drop at tokens) h)

  with_room : 0 < room → (x : Result (Measured × ℕ) Miss)
      → Gives (climb (operand (room - 1)) (room - 1) b k) tokens at x
      → Gives (operand room b k) tokens at x
  with_room h x =
      same_given (climb (operand (room - 1)) (room - 1) b k) (operand room b k) tokens at x
      (some_room room b k (drop at tokens) h)

  pub first_broken : 0 < room → (miss : Miss) → Gives (primary (operand (room - 1)) (room - 1) b k) tokens at (Err miss)
      → Gives (operand room b k) tokens at (Err miss)
  first_broken h miss g =
      with_room h (Err miss) (broken_given (primary (operand (room - 1)) (room - 1) b k)
      (λ a. as_many (goes_on b k) (step (operand (room - 1)) (room - 1) b) a) tokens at miss g)

  pub climbed : 0 < room → (first : Measured) (place : ℕ) (x : Result (Measured × ℕ) Miss)
      → Gives (primary (operand (room - 1)) (room - 1) b k) tokens at (Ok (first, place))
      → Gives (as_many (goes_on b k) (step (operand (room - 1)) (room - 1) b) first) tokens place x
      → Gives (operand room b k) tokens at x
  climbed h first place x g more =
      with_room h x (next_given (primary (operand (room - 1)) (room - 1) b k)
      (λ a. as_many (goes_on b k) (step (operand (room - 1)) (room - 1) b) a) tokens at place first x g more)
