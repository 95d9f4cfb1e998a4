-- Reading a text of digits back.
use Rattle.std.proofs.Common.{◌≡◌, ◌≢◌, ℕ, zero, suc, ◌+◌, ◌-◌, ◌*◌, ◌/◌, ◌%◌, ◌^◌, ◌<◌, ◌≤◌, Some, None, List, [], ◌∷◌}
use Rattle.std.proofs.Common.{◌++◌, length, refl, sym, ap, ◌∙◌, arith, replicate, length-append}
use Rattle.std.specs.Fmt.{decimal}
use Rattle.std.proofs.lemmas.Bool.Decides.{nat_tests}
use Rattle.std.proofs.lemmas.Fmt.{decimal_by_steps, length-decimal-le}
use Rattle.std.proofs.lemmas.Nat.{pow-add}
use Rattle.std.proofs.Math.Nat.{pow-suc, mul_assoc}
use Rattle.std.proofs.lemmas.List.{length-replicate}
use Rattle.cat_num.specs.Text.{filled}
use Rattle.cat_num.specs.Reading.{split_at, number_after}

-- c is not in the list
abbrev pub Without : ℕ → List ℕ → Type 0
Without c [] = Unit {0}
Without c (x ∷ xs) = (x ≢ c) × Without c xs

pub Without-append : (c : ℕ) (xs ys : List ℕ) → Without c xs → Without c ys → Without c (xs ++ ys)
Without-append c [] ys p q = q
Without-append c (x ∷ xs) ys p q = (p.0, Without-append c xs ys p.1 q)

pub split_at-none : (c : ℕ) (xs : List ℕ) → Without c xs → split_at c xs ≡ None
split_at-none c [] p = refl
split_at-none c (x ∷ xs) p = let h = p.0 in let e = split_at-none c xs p.1 in grind (arith, nat_tests)

pub split_at-some : (c : ℕ) (xs ys : List ℕ) → Without c xs → split_at c (xs ++ c ∷ ys) ≡ Some (xs, ys)
split_at-some c [] ys p = grind (arith, nat_tests)
split_at-some c (x ∷ xs) ys p = let h = p.0 in let e = split_at-some c xs ys p.1 in grind (arith, nat_tests)

pub number_after-append : (n : ℕ) (xs ys : List ℕ) → number_after n (xs ++ ys) ≡ number_after (number_after n xs) ys
number_after-append n [] ys = refl
number_after-append n (x ∷ xs) ys = number_after-append (10 * n + (x - 48)) xs ys

pub number_after-decimal : (n : ℕ) → n < 2 ^ 64 → number_after 0 (decimal n) ≡ n
number_after-decimal n h = decimal_by_steps (λ n ds. number_after 0 ds ≡ n)
    (λ n p. omega arith)
    (λ n ds p e. number_after-append 0 ds ((48 + n % 10) ∷ []) ∙ ap (λ m. 10 * m + ((48 + n % 10) - 48)) e
    ∙ omega arith)
    n h

pub Without-decimal : (c n : ℕ) → c < 48 → n < 2 ^ 64 → Without c (decimal n)
Without-decimal c n low h = decimal_by_steps (λ n ds. Without c ds) (λ n p. (λ e. omega arith, tt))
    (λ n ds p w. Without-append c ds _ w (λ e. omega arith, tt)) n h

Without-replicate : (c k : ℕ) → c < 48 → Without c (replicate k 48)
Without-replicate c zero low = tt
Without-replicate c (suc k) low = (λ e. omega arith, Without-replicate c k low)

pub Without-filled : (c p v : ℕ) → c < 48 → v < 2 ^ 64 → Without c (filled p v)
Without-filled c p v low h = Without-append c (replicate (p - length (decimal v)) 48) (decimal v)
    (Without-replicate c (p - length (decimal v)) low) (Without-decimal c v low h)

pub length-filled : (p v : ℕ) → 0 < p → v < 10 ^ p → v < 2 ^ 64 → length (filled p v) ≡ p
length-filled p v q h k = omega (
  arith,
  length-append (replicate (p - length (decimal v)) 48) (decimal v),
  length-replicate {A = ℕ} (p - length (decimal v)) 48,
  length-decimal-le p v q h k,
)

number_after-replicate : (k n : ℕ) → number_after n (replicate k 48) ≡ n * 10 ^ k
number_after-replicate zero n = omega arith
number_after-replicate (suc k) n = number_after-replicate k (10 * n + (48 - 48)) ∙ turn n (10 ^ k)
    ∙ ap (λ w. n * w) (sym (pow-suc 10 k))
  where
    turn : (n w : ℕ) → (10 * n + (48 - 48)) * w ≡ n * (w * 10)
    turn n w = omega arith

number_after-digits : (m n : ℕ) → n < 2 ^ 64 → number_after m (decimal n) ≡ m * 10 ^ length (decimal n) + n
number_after-digits m n h = decimal_by_steps (λ n ds. number_after m ds ≡ m * 10 ^ length ds + n)
    (λ n p. omega arith)
    (λ n ds p e. number_after-append m ds ((48 + n % 10) ∷ []) ∙ ap (λ x. 10 * x + ((48 + n % 10) - 48)) e
    ∙ step m (10 ^ length ds) n
    ∙ ap (λ w. m * w + n) (sym (pow-suc 10 (length ds))) ∙ ap (λ k. m * 10 ^ k + n)
    (sym (length-append ds ((48 + n % 10) ∷ []) ∙ omega arith)))
    n h
  where
    step : (m w n : ℕ) → 10 * (m * w + n / 10) + ((48 + n % 10) - 48) ≡ m * (w * 10) + n
    step m w n = omega arith

pub number_after-filled : (p n v : ℕ) → 0 < p → v < 10 ^ p → v < 2 ^ 64 → number_after n (filled p v) ≡ n * 10 ^ p + v
number_after-filled p n v q h k =
    let len : ℕ = length (decimal v) in
    let room : len ≤ p = length-decimal-le p v q h k in
    number_after-append n (replicate (p - len) 48) (decimal v) ∙ ap (λ m. number_after m (decimal v))
    (number_after-replicate (p - len) n)
    ∙ number_after-digits (n * 10 ^ (p - len)) v k ∙ ap (λ x. x + v) (mul_assoc n (10 ^ (p - len)) (10 ^ len))
    ∙ ap (λ x. n * x + v) (sym (pow-add 10 (p - len) len)) ∙ ap (λ e. n * 10 ^ e + v) (omega arith)
