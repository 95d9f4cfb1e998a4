-- What JSON is read as truth values, fractions, amounts and dates.
use Rattle.std.specs.Prelude.{if◌then◌else◌}
use Rattle.std.specs.Prelude.{ℕ, ℤ, Bool, List, Option, Some, None, Result, Ok, Err, codes, bytes_eq, ◌*ℤ◌}
use Rattle.std.specs.Prelude.{pos}
use Rattle.cat_num.specs.Frac.{Fraction}
use Rattle.cat_date.specs.declared.fault.DateFault.{DateFault}
use Rattle.cat_date.specs.Text.{form_of, day_of_text}
use Rattle.cat_json.specs.declared.refusal.Reason.TheVariants.{WrongForm, OutOfRange}
use Rattle.cat_json.specs.Paths.{Reading, refused, made_of}
use Rattle.cat_json.specs.WholeNumbers.{in_bounds, whole_fraction}
use Rattle.cat_json.specs.Numerals.{text_fraction, text_cents}

-- a day, where there is one
abbrev pub existing : Result ℤ DateFault → Reading ℤ
existing (Ok day) = Ok day
existing (Err fault) = refused OutOfRange

-- the day that a text names
unfoldable pub text_day : List ℕ → Reading ℤ
text_day text = if bytes_eq (form_of text) (codes "0000-00-00") then existing (day_of_text text) else refused WrongForm

-- `true` or `false`
abbrev pub truth_in : Option Bool → Reading Bool
truth_in (Some truth) = Ok truth
truth_in None = refused WrongForm

-- what a text is read as, where there is one
abbrev pub text_in : {A : Type 0} → (List ℕ → Reading A) → Option (List ℕ) → Reading A
text_in read (Some text) = read text
text_in read None = refused WrongForm

-- a whole number or a text
abbrev pub fraction_in : Option ℤ → Option (List ℕ) → Reading Fraction
fraction_in (Some n) text = made_of whole_fraction (in_bounds n)
fraction_in None text = text_in text_fraction text

-- a whole number of units of 100 cents, or a text
abbrev pub cents_in : Option ℤ → Option (List ℕ) → Reading ℤ
cents_in (Some n) text = in_bounds (n *ℤ pos 100)
cents_in None text = text_in text_cents text
