-- What is read of a line is what it spells, and what it spells is read.
use Rattle.std.proofs.Common.{◌≡◌, ℕ, zero, suc, ◌+◌, ◌*◌, ◌-◌, ◌^◌, ◌<◌, ◌≤◌, ◌⊎◌, inl, inr, Bool, true, false, ◌&&◌}
use Rattle.std.proofs.Common.{List, [], ◌∷◌, ◌++◌, length, drop, get_or, Option, Some, None, refl, sym, ap, ◌∙◌, arith}
use Rattle.std.specs.Prelude.{nat_eq, nat_lt, codes, decimal, if◌then◌else◌}
use Rattle.std.specs.List.{starts_with}
use Rattle.std.specs.Char.{is_ascii_digit, digit_value}
use Rattle.std.specs.Str.{bytes_eq}
use Rattle.std.specs.Str.Parse.{AllDigits, digits_value_after, digits_value}
use Rattle.std.proofs.Math.Seq.{drop-append_seam}
use Rattle.std.proofs.lemmas.Bool.{and_parts}
use Rattle.std.proofs.lemmas.Bool.Decides.{nat_tests, Decides-eqb}
use Rattle.std.proofs.lemmas.Fmt.{decimal_is_IsNumeral, decimal-digits_value, first_decimal, decimal_digit}
use Rattle.std.proofs.lemmas.Str.{digit_value_digit}
use Rattle.std.proofs.lemmas.Str.Parse.{digit_from_value, numerals_by_value, tells_digits}
use Rattle.std.proofs.lemmas.Slice.Eq.{starts_is, bytes_eq-Decides}
use Rattle.cat_guard.specs.declared.tree.CitedNode.{CitedNode}
use Rattle.cat_guard.specs.declared.tree.CitedNode.TheVariants as cited
use Rattle.cat_cert.specs.Lines.{node_line}
use Rattle.cat_cert.specs.inside.LineForms.{digits_after, is_plain, number_of, numbered, node_or, node_of}

-- ---- digits

-- the digits of a number below 2 ^ 64, behind those of another
record Reads (bs : List ℕ) (n m : ℕ) : Type 0 where
  digits : AllDigits 10 bs
  value : digits_value_after 10 n bs ≡ m
  low : m < 2 ^ 64

a_digit : (b : ℕ) → is_ascii_digit b ≡ true → (48 ≤ b) × (b ≤ 57)
a_digit b h = (grind (arith, nat_tests), grind (arith, nat_tests))

one_digit : (b : ℕ) (bs : List ℕ) (n m : ℕ)
    → ((k : ℕ) → k < 2 ^ 64 → digits_after bs k ≡ Some m → Reads bs k m)
    → (test : Bool) → (is_ascii_digit b && nat_lt (n * 10 + (b - 48)) (2 ^ 64)) ≡ test
    → (if test then digits_after bs (n * 10 + (b - 48)) else None) ≡ Some m → Reads (b ∷ bs) n m
one_digit b bs n m more false is read = absurd (cc)
one_digit b bs n m more true is read =
    let parts = and_parts (is_ascii_digit b) (nat_lt (n * 10 + (b - 48)) (2 ^ 64)) is in
    let within = a_digit b parts.0 in
    let small : n * 10 + (b - 48) < 2 ^ 64 = let h = parts.1 in grind (arith, nat_tests) in
    let same : digit_value b ≡ b - 48 = omega (arith, digit_value_digit b within, within) in
    let rest = more (n * 10 + (b - 48)) small read in
    record {
      digits = (omega (arith, same, within), rest.digits);
      value = ap (λ d. digits_value_after 10 (n * 10 + d) bs) same ∙ rest.value;
      low = rest.low;
    }

digits_read : (bs : List ℕ) (n m : ℕ) → n < 2 ^ 64 → digits_after bs n ≡ Some m → Reads bs n m
unfolding digits_after
digits_read [] n m low is =
    let same : n ≡ m = cc in
    record { digits = tt; value = same; low = omega (arith, low, same) }
digits_read (b ∷ bs) n m low is =
    one_digit b bs n m (λ k small rest. digits_read bs k m small rest)
    (is_ascii_digit b && nat_lt (n * 10 + (b - 48)) (2 ^ 64)) refl is

le_after : (n : ℕ) (bs : List ℕ) → n ≤ digits_value_after 10 n bs
le_after n [] = omega arith
le_after n (b ∷ bs) = omega (arith, le_after (n * 10 + digit_value b) bs)

digits_written : (bs : List ℕ) (n : ℕ) → AllDigits 10 bs → digits_value_after 10 n bs < 2 ^ 64
    → digits_after bs n ≡ Some (digits_value_after 10 n bs)
unfolding digits_after
digits_written [] n all small = refl
digits_written (b ∷ bs) n all small =
    let within = digit_from_value b all.0 in
    let same : digit_value b ≡ b - 48 = omega (arith, digit_value_digit b within, within) in
    let low : n * 10 + (b - 48) < 2 ^ 64 = omega (arith, le_after (n * 10 + digit_value b) bs, same, small) in
    let test : (is_ascii_digit b && nat_lt (n * 10 + (b - 48)) (2 ^ 64)) ≡ true = grind (arith, nat_tests) in
    rw test (ap (λ d. digits_after bs (n * 10 + d)) (sym same) ∙ digits_written bs (n * 10 + digit_value b) all.1 small)

-- ---- numbers

plain_text : (ds : List ℕ) → 0 < length ds → (48 < get_or ds 0 0) ⊎ (length ds ≡ 1) → is_plain ds ≡ true
plain_text [] some first = absurd (omega arith)
plain_text (b ∷ []) some first = refl
plain_text (b ∷ c ∷ bs) some (inl high) = grind (arith, nat_tests)
plain_text (b ∷ c ∷ bs) some (inr one) = absurd (omega (arith, one))

no_zero : (ds : List ℕ) → is_plain ds ≡ true → (0 < length ds) × (get_or ds 0 0 ≡ 48 → length ds ≡ 1)
no_zero [] plain = absurd (cc)
no_zero (b ∷ []) plain = (omega arith, λ h. refl)
no_zero (b ∷ c ∷ bs) plain = (omega arith, λ h. absurd (grind (arith, nat_tests)))

first_digit : (n : ℕ) → n < 2 ^ 64 → (48 < get_or (decimal n) 0 0) ⊎ (length (decimal n) ≡ 1)
first_digit zero low = inr (ap length (decimal_digit 0 (omega arith)))
first_digit (suc n) low = inl (first_decimal (suc n) (omega arith) low)

-- a text that is a number is its decimal
pub record IsDecimal (text : List ℕ) (n : ℕ) : Type 0 where
  pub text_is : text ≡ decimal n
  pub low : n < 2 ^ 64

number_read : (text : List ℕ) (n : ℕ) → number_of text ≡ Some n → IsDecimal text n
unfolding number_of
number_read text n is = by (is_plain text) refl is
  where
    by : (plain : Bool) → is_plain text ≡ plain → (if plain then digits_after text 0 else None) ≡ Some n
        → IsDecimal text n
    by false plain read = absurd (cc)
    by true plain read =
        let reads = digits_read text 0 n (omega arith) read in
        let first = no_zero text plain in
        let back : decimal (digits_value 10 text) ≡ text =
        decimal-digits_value (numerals_by_value _ tells_digits) text reads.digits first.0 first.1
        (omega (arith, reads.value, reads.low)) in
        record { text_is = sym back ∙ ap decimal reads.value; low = reads.low }

number_written : (n : ℕ) → n < 2 ^ 64 → number_of (decimal n) ≡ Some n
unfolding number_of
number_written n low =
    let is = decimal_is_IsNumeral n low in
    let plain = plain_text (decimal n) is.0.0 (first_digit n low) in
    rw plain (digits_written (decimal n) 0 is.0.1 (omega (arith, is.1, low)) ∙ ap (λ (m : ℕ). Some m) is.1)

pub numbered_read : (word line : List ℕ) (n : ℕ) → numbered word line ≡ Some n
    → (line ≡ word ++ decimal n) × (n < 2 ^ 64)
unfolding numbered
numbered_read word line n is = by (starts_with nat_eq line word) refl is
  where
    by : (starts : Bool) → starts_with nat_eq line word ≡ starts
        → (if starts then number_of (drop (length word) line) else None) ≡ Some n
        → (line ≡ word ++ decimal n) × (n < 2 ^ 64)
    by false starts read = absurd (cc)
    by true starts read =
        let number = number_read (drop (length word) line) n read in (
          (starts_is Decides-eqb line word (starts_with nat_eq line word) refl).0 starts
              ∙ ap (λ ds. word ++ ds) number.text_is,
          number.low,
        )

pub numbered_written : (word : List ℕ) (n : ℕ) → n < 2 ^ 64 → numbered word (word ++ decimal n) ≡ Some n
unfolding numbered
numbered_written word n low =
    let line = word ++ decimal n in
    let starts = (starts_is Decides-eqb line word (starts_with nat_eq line word) refl).1 (decimal n) refl in
    rw (starts, drop-append_seam word (decimal n)) (number_written n low)

-- ---- nodes

-- the number of a node is below 2 ^ 64
abbrev pub IsLowNode : CitedNode → Type 0
IsLowNode (cited.Split a) = a < 2 ^ 64
IsLowNode cited.Leaf = Unit {0}
IsLowNode (cited.Cite i) = i < 2 ^ 64

pub node_read : (line : List ℕ) (n : CitedNode) → node_of line ≡ Some n → line ≡ node_line n
unfolding node_of
node_read line n is = by (bytes_eq line (codes "leaf")) refl is
  where
    at_cite : (cite : Option ℕ) → numbered (codes "cite ") line ≡ cite → node_or None cite ≡ Some n → line ≡ node_line n
    at_cite None at read = absurd (cc)
    at_cite (Some i) at read =
        let same : cited.Cite i ≡ n = cc in
        (numbered_read (codes "cite ") line i at).0 ∙ ap node_line same

    at_split : (split : Option ℕ) → numbered (codes "split ") line ≡ split
        → node_or split (numbered (codes "cite ") line) ≡ Some n → line ≡ node_line n
    at_split None at read = at_cite (numbered (codes "cite ") line) refl read
    at_split (Some a) at read =
        let same : cited.Split a ≡ n = cc in
        (numbered_read (codes "split ") line a at).0 ∙ ap node_line same

    by : (leaf : Bool) → bytes_eq line (codes "leaf") ≡ leaf
        → (if leaf then Some cited.Leaf else node_or (numbered (codes "split ") line) (numbered (codes "cite ") line))
        ≡ Some n → line ≡ node_line n
    by true leaf read =
        let same : cited.Leaf ≡ n = cc in
        (bytes_eq-Decides line (codes "leaf")).0 leaf ∙ ap node_line same
    by false leaf read = at_split (numbered (codes "split ") line) refl read

no_split : (i : ℕ) → numbered (codes "split ") (codes "cite " ++ decimal i) ≡ None
unfolding numbered
no_split i = refl

pub node_written : (n : CitedNode) → IsLowNode n → node_of (node_line n) ≡ Some n
unfolding node_of
node_written (cited.Split a) low = rw (numbered_written (codes "split ") a low) refl
node_written cited.Leaf low = refl
node_written (cited.Cite i) low = rw (no_split i, numbered_written (codes "cite ") i low) refl
