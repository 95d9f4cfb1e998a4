-- What comparisons of counts and of numbers tell.
use Rattle.std.proofs.Common.{◌≡◌, ◌<◌, ◌≤◌, ℕ, nat_eq, nat_lt, Bool, true, false, refl, sym, ◌∙◌, subst}
use Rattle.std.proofs.lemmas.Bool.{eq-eqb, eqb-true}
use Rattle.cat_verify_shapes.proofs.StepLemmas.{lt_so, lt_not}

-- a number is, or isn't, below a count
pub past_all : (a n count : ℕ) → n ≡ count → n ≤ a → nat_lt a count ≡ false
past_all a n count e h = lt_not a count (subst (λ (k : ℕ). k ≤ a) e h)

pub within_all : (a n count : ℕ) → n ≡ count → a < n → nat_lt a count ≡ true
within_all a n count e h = lt_so a count (subst (λ (k : ℕ). a < k) e h)

-- a count is, or isn't, below a number
pub fewer_so : (a n count : ℕ) → n ≡ count → n < a → nat_lt count a ≡ true
fewer_so a n count e h = lt_so count a (subst (λ (k : ℕ). k < a) e h)

pub fewer_not : (a n count : ℕ) → n ≡ count → a ≤ n → nat_lt count a ≡ false
fewer_not a n count e h = lt_not count a (subst (λ (k : ℕ). a ≤ k) e h)

-- two numbers are, or aren't, the same
pub same_so : (a b : ℕ) → a ≡ b → nat_eq a b ≡ true
same_so a b e = eq-eqb a b e

pub same_not : (a b : ℕ) → (a ≡ b → ⊥) → nat_eq a b ≡ false
same_not a b other = by_test (nat_eq a b) refl
  where
    by_test : (t : Bool) → nat_eq a b ≡ t → nat_eq a b ≡ false
    by_test false e = e
    by_test true e = absurd (other (eqb-true a b e))

pub count_so : (a n count : ℕ) → n ≡ count → n ≡ a → nat_eq count a ≡ true
count_so a n count e h = same_so count a (sym e ∙ h)

pub count_not : (a n count : ℕ) → n ≡ count → (n ≡ a → ⊥) → nat_eq count a ≡ false
count_not a n count e other = same_not count a (λ h. other (e ∙ h))
