-- The number that the digits of a spelling write.
use Rattle.std.proofs.Common.{◌≡◌, ℕ, suc, ◌+◌, ◌-◌, ◌*◌, ◌<◌, ◌≤◌, min, Bool, true, false, not, cond, List, [], ◌∷◌}
use Rattle.std.proofs.Common.{length, take, drop, get_or, drop-cons, add-one, refl, sym, ap, ◌∙◌, arith}
use Rattle.std.specs.Prelude.{count_by}
use Rattle.std.specs.Char.{digit_value, is_ascii_digit}
use Rattle.std.specs.List.{filter, position_or_len}
use Rattle.std.specs.Str.{all_ascii_digits}
use Rattle.std.specs.Str.Parse.{digits_value_after}
use Rattle.std.proofs.lemmas.Bool.Decides.{nat_tests}
use Rattle.std.proofs.lemmas.List.Sums.{length-filter, sum_by-cons}
use Rattle.std.proofs.lemmas.Str.Parse.{digits_value_short, numerals_by_value, tells_all_ascii_digits}
use Rattle.cat_num.specs.Numerals.{IsNumeral}
use Rattle.cat_lex.specs.Values.{is_point, number_of, units_of, places_of}
use Rattle.cat_lex.proofs.Skips.{and_true}

digits_value_after-ge : (n : ℕ) (ds : List ℕ) → n ≤ digits_value_after 10 n ds
digits_value_after-ge n [] = omega arith
digits_value_after-ge n (d ∷ ds) = omega (arith, digits_value_after-ge (n * 10 + digit_value d) ds)

-- a cap on the number so far changes nothing below the cap
capped : (cap n : ℕ) (ds : List ℕ) → min (digits_value_after 10 (min n cap) ds) cap ≡ min (digits_value_after 10 n ds)
    cap
capped cap n ds = grind (arith, digits_value_after-ge n ds, digits_value_after-ge (min n cap) ds)

digit_is : (c : ℕ) → is_ascii_digit c ≡ true → digit_value c ≡ c - 48
digit_is c h = grind (arith, nat_tests)

keeps : (c : ℕ) (cs : List ℕ) → is_ascii_digit c ≡ true → filter is_ascii_digit (c ∷ cs) ≡ c ∷ filter is_ascii_digit cs
keeps c cs h = rw h refl

drops : (c : ℕ) (cs : List ℕ) → is_ascii_digit c ≡ false → filter is_ascii_digit (c ∷ cs) ≡ filter is_ascii_digit cs
drops c cs h = rw h refl

at : (word : List ℕ) (i : ℕ) → i < length word → drop i word ≡ get_or word i 0 ∷ drop (i + 1) word
at word i below = rw (add-one, drop-cons word i 0) refl

pub digit_more : (word : List ℕ) (cap n i : ℕ) → i < length word → is_ascii_digit (get_or word i 0) ≡ true
    → min (digits_value_after 10 (min (10 * n + (get_or word i 0 - 48)) cap)
    (filter is_ascii_digit (drop (i + 1) word))) cap ≡ min
    (digits_value_after 10 n (filter is_ascii_digit (drop i word))) cap
digit_more word cap n i below h =
    let next : 10 * n + (get_or word i 0 - 48) ≡ n * 10 + digit_value (get_or word i 0) =
    omega (arith, digit_is (get_or word i 0) h) in
    let step : filter is_ascii_digit (drop i word) ≡ get_or word i 0 ∷ filter is_ascii_digit (drop (i + 1) word) =
    ap (filter is_ascii_digit) (at word i below) ∙ keeps (get_or word i 0) (drop (i + 1) word) h in
    ap (λ (m : ℕ). min (digits_value_after 10 (min m cap) (filter is_ascii_digit (drop (i + 1) word))) cap) next
    ∙ (capped cap (n * 10 + digit_value (get_or word i 0)) (filter is_ascii_digit (drop (i + 1) word))
    ∙ ap (λ (ds : List ℕ). min (digits_value_after 10 n ds) cap) (sym step))

pub other_more : (word : List ℕ) (i : ℕ) → i < length word → is_ascii_digit (get_or word i 0) ≡ false
    → filter is_ascii_digit (drop (i + 1) word) ≡ filter is_ascii_digit (drop i word)
other_more word i below h =
    sym (ap (filter is_ascii_digit) (at word i below) ∙ drops (get_or word i 0) (drop (i + 1) word) h)

all_at : (c : ℕ) (cs : List ℕ) (b : Bool) → is_ascii_digit c ≡ b → all_ascii_digits (filter is_ascii_digit cs) ≡ true
    → all_ascii_digits (cond b (c ∷ filter is_ascii_digit cs) (filter is_ascii_digit cs)) ≡ true
all_at c cs true h e = and_true (is_ascii_digit c) _ h e
all_at c cs false h e = e

all_digits : (word : List ℕ) → all_ascii_digits (filter is_ascii_digit word) ≡ true
all_digits [] = refl
all_digits (c ∷ cs) = all_at c cs (is_ascii_digit c) refl (all_digits cs)

count_cons : (c : ℕ) (cs : List ℕ) → count_by is_ascii_digit (c ∷ cs) ≡ cond (is_ascii_digit c) 1 0 + count_by
    is_ascii_digit cs
count_cons c cs = sum_by-cons (λ (x : ℕ). cond (is_ascii_digit x) 1 0) c cs

-- the digits before the point and after it are all
split_at : (c : ℕ) (cs : List ℕ) (b : Bool) → is_point c ≡ b → count_by is_ascii_digit cs ≡ units_of cs + places_of cs
    → count_by is_ascii_digit (c ∷ cs) ≡ count_by is_ascii_digit
    (take (cond (not b) (1 + position_or_len is_point cs) 0) (c ∷ cs)) + count_by is_ascii_digit
    (drop (cond (not b) (1 + position_or_len is_point cs) 0 + 1) (c ∷ cs))
split_at c cs true h e =
    let point : c ≡ 46 = grind (arith, nat_tests) in
    rw point (omega (arith, count_cons 46 cs))
split_at c cs false h e =
    let front : count_by is_ascii_digit (take (1 + position_or_len is_point cs) (c ∷ cs)) ≡ count_by is_ascii_digit
    (c ∷ take (position_or_len is_point cs) cs) =
    ap (λ (n : ℕ). count_by is_ascii_digit (take n (c ∷ cs)))
    (let k : 1 + position_or_len is_point cs ≡ suc (position_or_len is_point cs) = omega arith in k) in
    let back : count_by is_ascii_digit (drop (1 + position_or_len is_point cs + 1) (c ∷ cs)) ≡ count_by is_ascii_digit
    (drop (position_or_len is_point cs + 1) cs) =
    ap (λ (n : ℕ). count_by is_ascii_digit (drop n (c ∷ cs)))
    (let k : 1 + position_or_len is_point cs + 1 ≡ suc (position_or_len is_point cs + 1) = omega arith in k) in
    omega (arith, front, back, count_cons c cs, count_cons c (take (position_or_len is_point cs) cs), e)

count_split : (word : List ℕ) → count_by is_ascii_digit word ≡ units_of word + places_of word
count_split [] = refl
count_split (c ∷ cs) = split_at c cs (is_point c) refl (count_split cs)

-- at most 18 digits write a number below 10 to the 18th
pub short : (word : List ℕ) → units_of word + places_of word ≤ 18 → number_of word < 1_000_000_000_000_000_000
short word few =
    let long : length (filter is_ascii_digit word) ≤ 18 =
    omega (arith, length-filter is_ascii_digit word, count_split word) in
    digits_value_short (numerals_by_value (λ ds. all_ascii_digits ds ≡ true) tells_all_ascii_digits)
    (filter is_ascii_digit word) 18 (all_digits word) long

-- at most 9 digits before the point write a number that so many behind it leave within its bound
written : (word : List ℕ) (places : ℕ) → units_of word ≤ 9 → places_of word ≤ places → places ≤ 9
    → IsNumeral (number_of word) places
written word places units few most =
    let long : length (filter is_ascii_digit word) ≤ 9 + places =
    omega (arith, length-filter is_ascii_digit word, count_split word) in
    record {
      few_places = most;
      few_digits = digits_value_short (numerals_by_value (λ ds. all_ascii_digits ds ≡ true) tells_all_ascii_digits)
          (filter is_ascii_digit word) (9 + places) (all_digits word) long;
    }

pub decimal_written : (word : List ℕ) → units_of word ≤ 9 → places_of word ≤ 9 → IsNumeral (number_of word)
    (places_of word)
decimal_written word units places = written word (places_of word) units (omega arith) places

pub percent_written : (word : List ℕ) → units_of word ≤ 9 → places_of word ≤ 7 → IsNumeral (number_of word)
    (places_of word + 2)
percent_written word units places = written word (places_of word + 2) units (omega arith) (omega (arith, places))
