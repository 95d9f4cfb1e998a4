-- Rooms: numbers that what holds never passes.
use Rattle.std.proofs.Common.{◌≡◌, ◌≤◌, ◌<◌, ◌+◌, ◌⊎◌, ℕ, zero, suc, List, [], ◌∷◌, Option, Some, None, ap, subst}
use Rattle.std.proofs.Common.{inl, inr, ⊎_elim, arith, slice_get, eq-or-lt_of_le}
use Rattle.cat_scope.specs.Names.{IsOneOf}

-- it is there, or it can't be
abbrev pub Decided : Type 0 → Type 0
Decided A = A ⊎ (A → ⊥)

-- a number that the size of nothing passes of which this holds
abbrev pub Room : {A : Type 0} → (A → ℕ) → (A → Type 0) → Type 0
Room {A = A} size Holds = (room : ℕ) × ((x : A) → Holds x → size x ≤ room)

pub room_none : {A : Type 0} (size : A → ℕ) (Holds : A → Type 0) → ((x : A) → Holds x → ⊥) → Room size Holds
room_none size Holds none = (0, λ x h. absurd (none x h))

-- what holds of less has the same room
pub room_less : {A : Type 0} (size : A → ℕ) (Holds Also : A → Type 0) → ((x : A) → Holds x → Also x) → Room size Also
    → Room size Holds
room_less size Holds Also also room = (room.0, λ x h. room.1 x (also x h))

pub room_or : {A : Type 0} (size : A → ℕ) (Holds Also : A → Type 0) → Room size Holds → Room size Also
    → Room size (λ x. Holds x ⊎ Also x)
room_or size Holds Also one two = (one.0 + two.0, λ x h. ⊎_elim (λ a. left x a) (λ b. right x b) h)
  where
    left : (x : _) → Holds x → size x ≤ one.0 + two.0
    left x a = omega (arith, one.1 x a)

    right : (x : _) → Also x → size x ≤ one.0 + two.0
    right x b = omega (arith, two.1 x b)

-- one thing alone
pub room_one : {A : Type 0} (size : A → ℕ) (y : A) → Room size (λ x. x ≡ y)
room_one size y = (size y, λ x is. omega (arith, ap size is))

-- what there is, where there is something
pub room_some : {A : Type 0} (size : A → ℕ) (o : Option A) → Room size (λ x. o ≡ Some x)
room_some size None = (0, λ x is. absurd (cc is))
room_some size (Some y) = (size y, λ x is. let same : y ≡ x = cc is in omega (arith, ap size same))

-- the elements of a list
pub room_listed : {A : Type 0} (size : A → ℕ) (xs : List A) → Room size (λ x. IsOneOf x xs)
room_listed size [] = (0, λ x h. absurd h)
room_listed size (y ∷ ys) = room_or size (λ x. x ≡ y) (λ x. IsOneOf x ys) (room_one size y) (room_listed size ys)

-- what holds of something by an element of a list
abbrev pub By : {A X : Type 0} → (A → X → Type 0) → List A → X → Type 0
By {A = A} Holds among x = (a : A) × IsOneOf a among × Holds a x

by_first : {A X : Type 0} (Holds : A → X → Type 0) (a : A) (among : List A) (x : X) → By Holds (a ∷ among) x
    → Holds a x ⊎ By Holds among x
by_first Holds a among x (b, inl same, h) = inl (subst (λ c. Holds c x) same h)
by_first Holds a among x (b, inr more, h) = inr (b, more, h)

pub room_each : {A X : Type 0} (size : X → ℕ) (Holds : A → X → Type 0) → ((a : A) → Room size (Holds a))
    → (among : List A) → Room size (By Holds among)
room_each size Holds room [] = (0, λ x h. absurd h.1)
room_each size Holds room (a ∷ among) =
    room_less size (By Holds (a ∷ among)) (λ x. Holds a x ⊎ By Holds among x) (by_first Holds a among)
    (room_or size (Holds a) (By Holds among) (room a) (room_each size Holds room among))

-- what holds of something by a number below a bound
abbrev pub Below : {X : Type 0} → (ℕ → X → Type 0) → ℕ → X → Type 0
Below Holds bound x = (n : ℕ) × (n < bound) × Holds n x

below_last : {X : Type 0} (Holds : ℕ → X → Type 0) (bound : ℕ) (x : X) → Below Holds (suc bound) x
    → Holds bound x ⊎ Below Holds bound x
below_last Holds bound x h = by (eq-or-lt_of_le (omega (arith, h.1)))
  where
    by : (h.0 ≡ bound) ⊎ (h.0 < bound) → Holds bound x ⊎ Below Holds bound x
    by (inl same) = inl (subst (λ n. Holds n x) same h.2)
    by (inr less) = inr (h.0, less, h.2)

pub room_below : {X : Type 0} (size : X → ℕ) (Holds : ℕ → X → Type 0) → ((n : ℕ) → Room size (Holds n)) → (bound : ℕ)
    → Room size (Below Holds bound)
room_below size Holds room zero = (0, λ x h. absurd (omega (arith, h.1)))
room_below size Holds room (suc bound) =
    room_less size (Below Holds (suc bound)) (λ x. Holds bound x ⊎ Below Holds bound x) (below_last Holds bound)
    (room_or size (Holds bound) (Below Holds bound) (room bound) (room_below size Holds room bound))

-- what a list has at a place is one of it
pub one_of_at : {A : Type 0} (xs : List A) (n : ℕ) (x : A) → slice_get xs n ≡ Some x → IsOneOf x xs
one_of_at [] n x is = cc is
one_of_at (y ∷ ys) zero x is = inl (cc is)
one_of_at (y ∷ ys) (suc n) x is = inr (one_of_at ys n x is)
