-- Numbers of digits, and texts that are split, a byte at a time.
use Rattle.std.proofs.Common.{◌≡◌, ℕ, ◌+◌, ◌-◌, ◌*◌, ◌^◌, ◌<◌, ◌≤◌, true, List, [], ◌++◌, drop, length, get_or}
use Rattle.std.proofs.Common.{drop-cons, add-one, Some, None, sym, ap, ◌∙◌, subst, arith}
use Rattle.std.proofs.lemmas.Bool.Decides.{nat_tests}
use Rattle.std.proofs.Math.Nat.{pow-suc, pow-le-pow_right, le_trans, mul-le-mul_left, mul-le-mul_right}
use Rattle.std.proofs.lemmas.List.{drop_all}
use Rattle.std.specs.Str.{all_ascii_digits}
use Rattle.cat_num.specs.Reading.{Parts, number_after}

-- one digit more
pub number_room : (n k d i : ℕ) → n < k * 10 ^ i → d < 10 → 10 * n + d < k * 10 ^ (i + 1)
number_room n k d i h l = subst (λ w. 10 * n + d < k * w) (sym (ap (λ j. 10 ^ j) (add-one i) ∙ pow-suc 10 i))
    (by (10 ^ i) h)
  where
    by : (w : ℕ) → n < k * w → 10 * n + d < k * (w * 10)
    by w h = omega arith

pub number_fits : (n k i : ℕ) → n < k * 10 ^ i → k ≤ 10 ^ 19 → i < 19 → 10 * n + 9 < 2 ^ 128
number_fits n k i h l m =
    let below : i ≤ 18 = omega arith in
    let w : 10 ^ i ≤ 10 ^ 18 = pow-le-pow_right {n = 10} (omega arith) below in
    let r : k * 10 ^ i ≤ 10 ^ 19 * 10 ^ 18 = le_trans (mul-le-mul_right (10 ^ i) l) (mul-le-mul_left (10 ^ 19) w) in
    omega arith

-- the digit at a place, and those behind it
pub digit_here : (xs : List ℕ) (i : ℕ) → i < length xs → all_ascii_digits (drop i xs) ≡ true → (48 ≤ get_or xs i 0)
    × (get_or xs i 0 ≤ 57) × (all_ascii_digits (drop (i + 1) xs) ≡ true)
digit_here xs i h e = let d = drop-cons xs i 0 h in grind (arith, nat_tests)

pub ruleset digits = (number_room, number_fits, digit_here)

-- the parts of a text behind some front without the mark
abbrev pub with_front : List ℕ → Parts → Parts
with_front front None = None
with_front front (Some parts) = Some (front ++ parts.0, parts.1)

pub number_after-step : (n : ℕ) (xs : List ℕ) (i : ℕ) → i < length xs → number_after (10 * n + (get_or xs i 0 - 48))
    (drop (i + 1) xs) ≡ number_after n (drop i xs)
number_after-step n xs i h = ap (λ j. number_after (10 * n + (get_or xs i 0 - 48)) (drop j xs)) (add-one i)
    ∙ sym (ap (number_after n) (drop-cons xs i 0 h))

pub number_after-end : (n : ℕ) (xs : List ℕ) (i : ℕ) → length xs ≤ i → n ≡ number_after n (drop i xs)
number_after-end n xs i h = sym (ap (number_after n) (drop_all i xs h))
