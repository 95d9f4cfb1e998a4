-- What texts are read as fractions and amounts.
use Rattle.std.specs.Prelude.{if◌then◌else◌}
use Rattle.std.specs.Prelude.{ℕ, ◌-◌, ◌*◌, ◌^◌, ◌==◌, nat_le, nat_lt, ℤ, Bool, true, false, ◌&&◌, List, [], ◌∷◌, ◌++◌}
use Rattle.std.specs.Prelude.{length, Some, None, Result, Ok, Err}
use Rattle.std.specs.Str.{all_ascii_digits}
use Rattle.cat_num.specs.declared.fault.NumFault.{NumFault}
use Rattle.cat_num.specs.Frac.{Fraction, signed, ratio}
use Rattle.cat_num.specs.Reading.{Parts, split_at, number_after}
use Rattle.cat_json.specs.declared.refusal.Reason.TheVariants.{WrongForm, OutOfRange}
use Rattle.cat_json.specs.Paths.{Reading, refused}
use Rattle.cat_json.specs.WholeNumbers.{in_bounds}

-- one digit or more
abbrev pub are_digits : List ℕ → Bool
are_digits text = nat_lt 0 (length text) && all_ascii_digits text

-- at most 19 digits
abbrev pub are_few : List ℕ → Bool
are_few digits = nat_le (length digits) 19

-- whether a text begins with `-`
abbrev pub has_minus : List ℕ → Bool
has_minus [] = false
has_minus (c ∷ cs) = c == 45

-- a text without its `-`
abbrev pub without_minus : List ℕ → List ℕ
without_minus [] = []
without_minus (c ∷ cs) = if c == 45 then cs else c ∷ cs

-- the parts of a numeral without its sign
pub data Numeral : Type 0 where
  quotient : List ℕ → List ℕ → Numeral
  pointed : List ℕ → List ℕ → Numeral
  plain : List ℕ → Numeral

-- the parts on both sides of the first point, where there is one
abbrev pub pointed_or_plain : List ℕ → Parts → Numeral
pointed_or_plain text None = plain text
pointed_or_plain text (Some parts) = pointed parts.0 parts.1

-- the parts on both sides of the first `/`, where there is one
abbrev pub numeral_with : List ℕ → Parts → Numeral
numeral_with text None = pointed_or_plain text (split_at 46 text)
numeral_with text (Some parts) = quotient parts.0 parts.1

-- the parts of a text without its sign
abbrev pub numeral_of : List ℕ → Numeral
numeral_of text = numeral_with text (split_at 47 text)

-- `d+`, `d+.d+` with at most so many places, or `d+/d+`
abbrev pub has_decimal_form : Numeral → Bool
has_decimal_form (quotient num den) = are_digits num && are_digits den
has_decimal_form (pointed whole places) = are_digits whole && are_digits places && nat_le (length places) 9
has_decimal_form (plain whole) = are_digits whole

-- `d+`, `d+.d` or `d+.dd`
abbrev pub has_money_form : Numeral → Bool
has_money_form (quotient num den) = false
has_money_form (pointed whole places) = are_digits whole && are_digits places && nat_le (length places) 2
has_money_form (plain whole) = are_digits whole

-- no part has more than 19 digits: behind a point there are few by the form
abbrev pub has_few_digits : Numeral → Bool
has_few_digits (quotient num den) = are_few num && are_few den
has_few_digits (pointed whole places) = are_few whole
has_few_digits (plain whole) = are_few whole

-- the cents of a numeral
abbrev pub cents_of : Numeral → ℕ
cents_of (quotient num den) = 0
cents_of (pointed whole places) = number_after 0 (whole ++ places) * 10 ^ (2 - length places)
cents_of (plain whole) = number_after 0 whole * 100

-- the fraction of a numeral, by its parts
abbrev pub fraction_of : Bool → Numeral → Result Fraction NumFault
fraction_of negative (quotient num den) = ratio (signed negative (number_after 0 num)) (number_after 0 den)
fraction_of negative (pointed whole places) =
    ratio (signed negative (number_after 0 (whole ++ places))) (10 ^ length places)
fraction_of negative (plain whole) = ratio (signed negative (number_after 0 whole)) 1

-- a fraction, where it fits
abbrev pub fitting : Result Fraction NumFault → Reading Fraction
fitting (Ok f) = Ok f
fitting (Err fault) = refused OutOfRange

-- what a numeral of that form is read as, where its parts are short
abbrev pub if_numeral : {A : Type 0} → Bool → Bool → Reading A → Reading A
if_numeral false few reading = refused WrongForm
if_numeral true false reading = refused OutOfRange
if_numeral true true reading = reading

-- the fraction that a numeral stands for
abbrev pub numeral_fraction : Bool → Numeral → Reading Fraction
numeral_fraction negative n = if_numeral (has_decimal_form n) (has_few_digits n) (fitting (fraction_of negative n))

-- the cents that a numeral stands for
abbrev pub numeral_cents : Bool → Numeral → Reading ℤ
numeral_cents negative n = if_numeral (has_money_form n) (has_few_digits n) (in_bounds (signed negative (cents_of n)))

-- the fraction that a text stands for
unfoldable pub text_fraction : List ℕ → Reading Fraction
text_fraction text = numeral_fraction (has_minus text) (numeral_of (without_minus text))

-- the cents of the amount that a text stands for
unfoldable pub text_cents : List ℕ → Reading ℤ
text_cents text = numeral_cents (has_minus text) (numeral_of (without_minus text))
