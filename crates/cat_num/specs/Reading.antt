-- Reading the text of a fraction: a sign, digits, and then a point and digits, or `/` and digits, or nothing.
use Rattle.std.specs.Prelude.{◌≡◌, ℕ, ◌+◌, ◌-◌, ◌*◌, ◌%◌, ◌^◌, ◌≤◌, ◌==◌, unsigned_abs, Bool, true, false}
use Rattle.std.specs.Prelude.{if◌then◌else◌, Option, Some, None, MatchOption, List, [], ◌∷◌, ◌++◌, length, Result}
use Rattle.cat_num.specs.declared.fault.NumFault.{NumFault}
use Rattle.cat_num.specs.Frac.{Fraction, signed, ratio}
use Rattle.cat_num.specs.Text.{decimal_places}

-- what stands before a mark and behind it, where there is one
abbrev pub Parts : Type 0
Parts = Option (List ℕ × List ℕ)

-- x in front of the first part
abbrev pub in_front : ℕ → Parts → Parts
in_front x None = None
in_front x (Some s) = Some (x ∷ s.0, s.1)

-- the parts before and behind the first c
abbrev pub split_at : ℕ → List ℕ → Parts
split_at c [] = None
split_at c (x ∷ xs) = if x == c then Some ([], xs) else in_front x (split_at c xs)

-- the number whose decimal digits are those of n and then the ones given
abbrev pub number_after : ℕ → List ℕ → ℕ
number_after n [] = n
number_after n (c ∷ cs) = number_after (10 * n + (c - 48)) cs

-- digits, or digits with a point among them
abbrev pub read_decimal : Bool → List ℕ → Parts → Result Fraction NumFault
read_decimal negative digits None = ratio (signed negative (number_after 0 digits)) 1
read_decimal negative digits (Some s) = ratio (signed negative (number_after 0 (s.0 ++ s.1))) (10 ^ length s.1)

-- digits, `/` and digits; otherwise a decimal
abbrev pub read_quotient : Bool → List ℕ → Parts → Result Fraction NumFault
read_quotient negative digits None = read_decimal negative digits (split_at 46 digits)
read_quotient negative digits (Some s) = ratio (signed negative (number_after 0 s.0)) (number_after 0 s.1)

-- what stands behind the sign of a text, and whether that was `-`
abbrev pub read_unsigned : Bool → List ℕ → Result Fraction NumFault
read_unsigned negative digits = read_quotient negative digits (split_at 47 digits)

-- the fraction that a text stands for
unfoldable pub read_fraction : List ℕ → Result Fraction NumFault
read_fraction [] = read_unsigned false []
read_fraction (c ∷ cs) = if c == 45 then read_unsigned true cs else read_unsigned false (c ∷ cs)

-- with p decimal places f can be written, and with no fewer
pub record IsFewest (f : Fraction) (p : ℕ) : Type 0 where
  pub exact : 10 ^ p % f.den ≡ 0
  pub fewest : (q digits : ℕ) → unsigned_abs f.num * 10 ^ q ≡ digits * f.den → p ≤ q

-- f cannot be written with at most 9 decimal places
pub record HasNoDecimal (f : Fraction) : Type 0 where
  pub none : (q digits : ℕ) → q ≤ 9 → ¬ (unsigned_abs f.num * 10 ^ q ≡ digits * f.den)

-- the decimal places are the fewest that f needs, and there are none only where 9 do not suffice
abbrev pub HasFewestPlaces : Fraction → Type 0
HasFewestPlaces f = MatchOption (decimal_places f.den) (HasNoDecimal f) (IsFewest f)
