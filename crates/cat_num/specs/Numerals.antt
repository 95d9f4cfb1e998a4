-- Decimals as they are written, and their values.
use Rattle.std.specs.Prelude.{ℕ, ◌+◌, ◌^◌, ◌<◌, ◌≤◌, Bool, ◌&&◌, nat_le, nat_lt, pos}
use Rattle.cat_num.specs.Frac.{Fraction, lowest}

-- a decimal as it is written: the number that its digits spell without the point, and how many stand behind the point
pub record Numeral : Type 0 where
  pub digits : ℕ
  pub places : ℕ

-- at most 9 digits stand behind the point, and those before it spell a number of at most 9 digits
pub record IsNumeral (digits places : ℕ) : Type 0 where
  pub few_places : places ≤ 9
  pub few_digits : digits < 10 ^ (9 + places)

-- the same, as a test
abbrev pub is_numeral : Numeral → Bool
is_numeral n = nat_le n.places 9 && nat_lt n.digits (10 ^ (9 + n.places))

-- the fraction that is written
abbrev pub numeral_value : Numeral → Fraction
numeral_value n = lowest (pos n.digits) (10 ^ n.places)
