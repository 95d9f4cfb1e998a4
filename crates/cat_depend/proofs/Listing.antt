-- Which numbers stand in a list.
use Rattle.std.proofs.Common.{◌≡◌, ◌<◌, ◌+◌, ◌||◌, ℕ, zero, suc, nat_eq, Bool, true, false, IsTrue, List, [], ◌∷◌}
use Rattle.std.proofs.Common.{◌++◌, length, take, get_or, All, refl, sym, subst, arith, true≢false}
use Rattle.std.proofs.lemmas.Bool.Decides.{nat_tests}
use Rattle.cat_order.specs.Order.{is_listed, times}

pub listed_at : (xs : List ℕ) (k d : ℕ) → k < length xs → IsTrue (is_listed xs (get_or xs k d))
listed_at [] k d h = absurd (omega (arith, h))
listed_at (x ∷ xs) zero d h = grind (arith, nat_tests)
listed_at (x ∷ xs) (suc k) d h = grind (arith, nat_tests, listed_at xs k d (omega (arith, h)))

pub all_listed : (P : ℕ → Type 0) (xs : List ℕ) → All P xs → (n : ℕ) → IsTrue (is_listed xs n) → P n
all_listed P [] all n h = absurd (true≢false (sym h))
all_listed P (x ∷ xs) all n h = by (nat_eq x n) refl (all_listed P xs (λ k d w. all (suc k) d (omega (arith, w))) n)
  where
    by : (b : Bool) → nat_eq x n ≡ b → (IsTrue (is_listed xs n) → P n) → P n
    by true e rest = let same : x ≡ n = grind (arith, nat_tests) in subst P same (all 0 0 (omega arith))
    by false e rest = rest (grind (arith, nat_tests))

pub listed_take : (xs : List ℕ) (i n : ℕ) → IsTrue (is_listed (take i xs) n) → IsTrue (is_listed xs n)
listed_take [] zero n h = h
listed_take [] (suc i) n h = h
listed_take (x ∷ xs) zero n h = absurd (true≢false (sym h))
listed_take (x ∷ xs) (suc i) n h = by (nat_eq x n) refl (listed_take xs i n)
  where
    by : (b : Bool) → nat_eq x n ≡ b → (IsTrue (is_listed (take i xs) n) → IsTrue (is_listed xs n))
        → IsTrue (is_listed (x ∷ xs) n)
    by true e rest = grind (arith, nat_tests)
    by false e rest = let there : IsTrue (is_listed xs n) = rest (grind (arith, nat_tests)) in grind (arith, nat_tests)

pub listed_push : (xs : List ℕ) (x n : ℕ) → (x ≡ n → ⊥) → IsTrue (is_listed (xs ++ x ∷ []) n) → IsTrue (is_listed xs n)
listed_push [] x n other h = absurd (other (grind (arith, nat_tests)))
listed_push (y ∷ xs) x n other h = by (nat_eq y n) refl (listed_push xs x n other)
  where
    by : (b : Bool) → nat_eq y n ≡ b → (IsTrue (is_listed (xs ++ x ∷ []) n) → IsTrue (is_listed xs n))
        → IsTrue (is_listed (y ∷ xs) n)
    by true e rest = grind (arith, nat_tests)
    by false e rest = let there : IsTrue (is_listed xs n) = rest (grind (arith, nat_tests)) in grind (arith, nat_tests)

pub times_both : (xs ys : List ℕ) (m : ℕ) → times (xs ++ ys) m ≡ times xs m + times ys m
times_both [] ys m = omega arith
times_both (x ∷ xs) ys m = omega (arith, times_both xs ys m)

pub listed_both : (xs ys : List ℕ) (m : ℕ) → is_listed (xs ++ ys) m ≡ (is_listed xs m || is_listed ys m)
listed_both xs ys m = grind (arith, nat_tests, times_both xs ys m)

pub listed_last : (xs : List ℕ) (x m : ℕ) → is_listed (xs ++ x ∷ []) m ≡ (is_listed xs m || nat_eq x m)
listed_last xs x m = grind (arith, nat_tests, times_both xs (x ∷ []) m)
