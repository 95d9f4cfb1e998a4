-- What is read of a number is what it spells, and what it spells is read.
use Rattle.std.proofs.Common.{◌≡◌, ℕ, zero, suc, ◌+◌, ◌*◌, ◌-◌, ◌^◌, ◌<◌, ◌≤◌, ◌⊎◌, inl, inr, Bool, true, false, ◌&&◌}
use Rattle.std.proofs.Common.{List, [], ◌∷◌, ◌++◌, length, get_or, Option, Some, None, refl, sym, ap, ◌∙◌, arith}
use Rattle.std.specs.Prelude.{nat_lt, ◌==◌, decimal, if◌then◌else◌}
use Rattle.std.specs.Char.{is_ascii_digit, digit_value}
use Rattle.std.specs.Str.Parse.{AllDigits, digits_value_after, digits_value}
use Rattle.std.proofs.lemmas.Bool.{and_parts}
use Rattle.std.proofs.lemmas.Bool.Decides.{nat_tests}
use Rattle.std.proofs.lemmas.Fmt.{decimal_is_IsNumeral, decimal-digits_value, first_decimal, decimal_digit}
use Rattle.std.proofs.lemmas.Str.{digit_value_digit}
use Rattle.std.proofs.lemmas.Str.Parse.{digit_from_value, numerals_by_value, tells_digits}
use Rattle.cat_image.specs.Words.{Text}
use Rattle.cat_image.specs.inside.Reads.{cut, digits_after, is_plain, number_of}

-- ---- digits

-- the digits of a number that 32 bits hold, behind those of another
record Reads (bs : Text) (n m : ℕ) : Type 0 where
  digits : AllDigits 10 bs
  value : digits_value_after 10 n bs ≡ m
  low : m < 2 ^ 32

a_digit : (b : ℕ) → is_ascii_digit b ≡ true → (48 ≤ b) × (b ≤ 57)
a_digit b h = (grind (arith, nat_tests), grind (arith, nat_tests))

one_digit : (b : ℕ) (bs : Text) (n m : ℕ)
    → ((k : ℕ) → k < 2 ^ 32 → digits_after bs k ≡ Some m → Reads bs k m)
    → (test : Bool) → (is_ascii_digit b && nat_lt (n * 10 + (b - 48)) (2 ^ 32)) ≡ test
    → (if test then digits_after bs (n * 10 + (b - 48)) else None) ≡ Some m → Reads (b ∷ bs) n m
one_digit b bs n m more false is read = absurd (cc)
one_digit b bs n m more true is read =
    let both = and_parts (is_ascii_digit b) (nat_lt (n * 10 + (b - 48)) (2 ^ 32)) is in
    let within = a_digit b both.0 in
    let small : n * 10 + (b - 48) < 2 ^ 32 = let h = both.1 in grind (arith, nat_tests) in
    let same : digit_value b ≡ b - 48 = omega (arith, digit_value_digit b within, within) in
    let rest = more (n * 10 + (b - 48)) small read in
    record {
      digits = (omega (arith, same, within), rest.digits);
      value = ap (λ d. digits_value_after 10 (n * 10 + d) bs) same ∙ rest.value;
      low = rest.low;
    }

digits_read : (bs : Text) (n m : ℕ) → n < 2 ^ 32 → digits_after bs n ≡ Some m → Reads bs n m
unfolding digits_after
digits_read [] n m low is =
    let same : n ≡ m = cc in
    record { digits = tt; value = same; low = omega (arith, low, same) }
digits_read (b ∷ bs) n m low is =
    one_digit b bs n m (λ k small rest. digits_read bs k m small rest)
    (is_ascii_digit b && nat_lt (n * 10 + (b - 48)) (2 ^ 32)) refl is

le_after : (n : ℕ) (bs : Text) → n ≤ digits_value_after 10 n bs
le_after n [] = omega arith
le_after n (b ∷ bs) = omega (arith, le_after (n * 10 + digit_value b) bs)

digits_written : (bs : Text) (n : ℕ) → AllDigits 10 bs → digits_value_after 10 n bs < 2 ^ 32
    → digits_after bs n ≡ Some (digits_value_after 10 n bs)
unfolding digits_after
digits_written [] n all small = refl
digits_written (b ∷ bs) n all small =
    let within = digit_from_value b all.0 in
    let same : digit_value b ≡ b - 48 = omega (arith, digit_value_digit b within, within) in
    let low : n * 10 + (b - 48) < 2 ^ 32 = omega (arith, le_after (n * 10 + digit_value b) bs, same, small) in
    let test : (is_ascii_digit b && nat_lt (n * 10 + (b - 48)) (2 ^ 32)) ≡ true = grind (arith, nat_tests) in
    rw test (ap (λ d. digits_after bs (n * 10 + d)) (sym same) ∙ digits_written bs (n * 10 + digit_value b) all.1 small)

-- ---- numbers

plain_text : (ds : Text) → 0 < length ds → (48 < get_or ds 0 0) ⊎ (length ds ≡ 1) → is_plain ds ≡ true
plain_text [] some first = absurd (omega arith)
plain_text (b ∷ []) some first = refl
plain_text (b ∷ c ∷ bs) some (inl high) = grind (arith, nat_tests)
plain_text (b ∷ c ∷ bs) some (inr one) = absurd (omega (arith, one))

no_zero : (ds : Text) → is_plain ds ≡ true → (0 < length ds) × (get_or ds 0 0 ≡ 48 → length ds ≡ 1)
no_zero [] plain = absurd (cc)
no_zero (b ∷ []) plain = (omega arith, λ h. refl)
no_zero (b ∷ c ∷ bs) plain = (omega arith, λ h. absurd (grind (arith, nat_tests)))

first_digit : (n : ℕ) → n < 2 ^ 32 → (48 < get_or (decimal n) 0 0) ⊎ (length (decimal n) ≡ 1)
first_digit zero low = inr (ap length (decimal_digit 0 (omega arith)))
first_digit (suc n) low = inl (first_decimal (suc n) (omega arith) (omega (arith, low)))

-- a text that is a number is its decimal
pub record IsDecimal (text : Text) (n : ℕ) : Type 0 where
  pub text_is : text ≡ decimal n
  pub low : n < 2 ^ 32

plain_read : (text : Text) (n : ℕ) (plain : Bool) → is_plain text ≡ plain
    → (if plain then digits_after text 0 else None) ≡ Some n → IsDecimal text n
plain_read text n false plain read = absurd (cc)
plain_read text n true plain read =
    let reads = digits_read text 0 n (omega arith) read in
    let first = no_zero text plain in
    let back : decimal (digits_value 10 text) ≡ text =
    decimal-digits_value (numerals_by_value _ tells_digits) text reads.digits first.0 first.1
    (omega (arith, reads.value, reads.low)) in
    record { text_is = sym back ∙ ap decimal reads.value; low = reads.low }

pub number_read : (text : Text) (n : ℕ) → number_of text ≡ Some n → IsDecimal text n
unfolding number_of
number_read text n is = plain_read text n (is_plain text) refl is

pub number_written : (n : ℕ) → n < 2 ^ 32 → number_of (decimal n) ≡ Some n
unfolding number_of
number_written n low =
    let is = decimal_is_IsNumeral n (omega (arith, low)) in
    let plain = plain_text (decimal n) is.0.0 (first_digit n low) in
    rw plain (digits_written (decimal n) 0 is.0.1 (omega (arith, is.1, low)) ∙ ap (λ (m : ℕ). Some m) is.1)

-- ---- no other bytes stand in a number

digits_lack : (byte : ℕ) (bs : Text) → AllDigits 10 bs → (byte < 48) ⊎ (57 < byte) → cut byte bs ≡ None
unfolding cut
digits_lack byte [] all other = refl
digits_lack byte (b ∷ bs) all other =
    let within = digit_from_value b all.0 in
    let apart : (b == byte) ≡ false = differs b byte within other in
    rw (apart, digits_lack byte bs all.1 other) refl
  where
    differs : (b byte : ℕ) → (48 ≤ b) × (b ≤ 57) → (byte < 48) ⊎ (57 < byte) → (b == byte) ≡ false
    differs b byte within (inl low) = grind (arith, nat_tests)
    differs b byte within (inr high) = grind (arith, nat_tests)

-- no blank, and no colon
pub cut_decimal : (byte n : ℕ) → n < 2 ^ 32 → (byte < 48) ⊎ (57 < byte) → cut byte (decimal n) ≡ None
cut_decimal byte n low other =
    digits_lack byte (decimal n) (decimal_is_IsNumeral n (omega (arith, low))).0.1 other
