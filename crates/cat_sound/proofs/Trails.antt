-- Chains that end where a function of numbers ends have no number twice, and so they are short.
use Rattle.std.proofs.Common.{◌≡◌, ℕ, suc, ◌<◌, ◌≤◌, Bool, true, false, List, [], ◌∷◌, length, Option, Some, None, refl}
use Rattle.std.proofs.Common.{sym, ap, ◌∙◌, subst, arith, true≢false}
use Rattle.std.specs.List.{IsDistinct, AllByRecursion, list_any}
use Rattle.std.specs.Prelude.{◌||◌}
use Rattle.std.proofs.Math.Dec.{eqb}
use Rattle.std.proofs.lemmas.Bool.{eqb-true}
use Rattle.std.proofs.lemmas.Map.Steps.{length-le_from_distinct_below}
use Rattle.cat_sound.proofs.FormTypes.{same_some}

abbrev among : ℕ → List ℕ → Bool
among q xs = list_any (eqb q) xs

module _ (next : ℕ → Option ℕ) (bound : ℕ) where
  -- each number is followed by its next one, and the last has none
  abbrev pub Trail : List ℕ → Type 0
  Trail [] = ⊥
  Trail (x ∷ []) = (x < bound) × (next x ≡ None)
  Trail (x ∷ y ∷ ys) = (x < bound) × (next x ≡ Some y) × Trail (y ∷ ys)

  same_length : (x : ℕ) (xs ys : List ℕ) → Trail (x ∷ xs) → Trail (x ∷ ys) → length xs ≡ length ys
  same_length x [] [] h g = refl
  same_length x [] (y ∷ ys) h g = absurd (cc (h.1, g.1))
  same_length x (y ∷ ys) [] h g = absurd (cc (h.1, g.1))
  same_length x (a ∷ xs) (b ∷ ys) h g =
      let same : a ≡ b = same_some a b (sym h.1 ∙ g.1) in
      ap suc (same_length b xs ys (subst (λ (n : ℕ). Trail (n ∷ xs)) same h.2) g.2)

  -- from a number of a trail on
  record From (q : ℕ) (xs : List ℕ) : Type 0 where
    rest : List ℕ
    trail : Trail (q ∷ rest)
    shorter : length rest < length xs

  from : (q : ℕ) (xs : List ℕ) → Trail xs → among q xs ≡ true → From q xs
  from q [] h there = elim h [ ]
  from q (x ∷ []) h there = by (eqb q x) refl there
    where
      by : (b : Bool) → eqb q x ≡ b → (b || false) ≡ true → From q (x ∷ [])
      by true e g = record {
        rest = [];
        trail = subst (λ (n : ℕ). Trail (n ∷ [])) (sym (eqb-true q x e)) h;
        shorter =
            omega arith;
      }
      by false e g = absurd (true≢false (sym g))
  from q (x ∷ y ∷ ys) h there = by (eqb q x) refl there (from q (y ∷ ys) h.2)
    where
      by : (b : Bool) → eqb q x ≡ b → (b || among q (y ∷ ys)) ≡ true → (among q (y ∷ ys) ≡ true → From q (y ∷ ys))
          → From q (x ∷ y ∷ ys)
      by true e g rest = record {
        rest = y ∷ ys;
        trail = subst (λ (n : ℕ). Trail (n ∷ y ∷ ys)) (sym (eqb-true q x e)) h;
        shorter = omega arith;
      }
      by false e g rest = let more = rest g in let shorter =
          more.shorter in record { rest = more.rest; trail = more.trail; shorter = omega arith }

  not_again : (x : ℕ) (xs : List ℕ) → Trail (x ∷ xs) → Trail xs → among x xs ≡ true → ⊥
  not_again x xs h g there =
      let more = from x xs g there in
      let shorter = more.shorter in
      let same = same_length x xs more.rest h more.trail in
      absurd (omega arith)

  none_among : (x : ℕ) (ys : List ℕ) → (among x ys ≡ true → ⊥) → AllByRecursion (λ y. eqb x y ≡ false) ys
  none_among x [] h = tt
  none_among x (y ∷ ys) h = (by (eqb x y) refl, none_among x ys (λ there. h (behind (eqb x y) there)))
    where
      behind : (b : Bool) → among x ys ≡ true → (b || among x ys) ≡ true
      behind true there = refl
      behind false there = there

      by : (b : Bool) → eqb x y ≡ b → b ≡ false
      by true e = absurd (h (ap (λ b. b || among x ys) e))
      by false e = refl

  distinct : (x : ℕ) (xs : List ℕ) → Trail (x ∷ xs) → IsDistinct eqb (x ∷ xs)
  unfolding IsDistinct
  distinct x [] h = (tt, tt)
  distinct x (y ∷ ys) h = (none_among x (y ∷ ys) (not_again x (y ∷ ys) h h.2), distinct y ys h.2)

  below : (xs : List ℕ) → Trail xs → (q : ℕ) → among q xs ≡ true → q < bound
  below xs h q there = head q (from q xs h there).rest (from q xs h there).trail
    where
      head : (q : ℕ) (xs : List ℕ) → Trail (q ∷ xs) → q < bound
      head q [] h = h.0
      head q (y ∷ ys) h = h.0

  pub trail_short : (x : ℕ) (xs : List ℕ) → Trail (x ∷ xs) → length (x ∷ xs) ≤ bound
  trail_short x xs h = length-le_from_distinct_below (x ∷ xs) bound (distinct x xs h) (below (x ∷ xs) h)
