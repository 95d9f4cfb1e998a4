-- What JSON is read as whole numbers.
use Rattle.std.specs.Prelude.{if◌then◌else◌}
use Rattle.std.specs.Prelude.{ℤ, Option, Some, None, option_and_then, Ok}
use Rattle.serde_json.specs.Data.{Data}
use Rattle.serde_json.specs.Find.{as_number, as_integer}
use Rattle.cat_num.specs.Whole.{fits}
use Rattle.cat_num.specs.Frac.{Fraction}
use Rattle.cat_json.specs.declared.refusal.Reason.TheVariants.{WrongForm, OutOfRange}
use Rattle.cat_json.specs.Paths.{Reading, refused}

-- the whole number of a value that holds one: no float does, and `-0`, 2 ^ 64 and -2 ^ 63 - 1 are floats
abbrev pub integer_of : Data → Option ℤ
integer_of d = option_and_then as_integer (as_number d)

-- a number that is no larger than `largest`, with either sign
abbrev pub in_bounds : ℤ → Reading ℤ
in_bounds n = if fits n then Ok n else refused OutOfRange

-- a whole number
abbrev pub whole_in : Option ℤ → Reading ℤ
whole_in (Some n) = in_bounds n
whole_in None = refused WrongForm

-- n, as a fraction
abbrev pub whole_fraction : ℤ → Fraction
whole_fraction n = record { num = n; den = 1 }
