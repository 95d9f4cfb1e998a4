-- Days as texts of the form `2024-02-29`.
use Rattle.std.specs.Prelude.{ℕ, ◌+◌, ◌/◌, ◌%◌, if◌then◌else◌, List, [], ◌∷◌, ◌++◌, take, drop, codes, bytes_eq, ℤ, pos}
use Rattle.std.specs.Prelude.{unsigned_abs, Result, Err}
use Rattle.std.specs.Char.{is_ascii_digit}
use Rattle.std.specs.Str.Parse.{digits_value}
use Rattle.cat_date.specs.declared.fault.DateFault.{DateFault}
use Rattle.cat_date.specs.declared.fault.DateFault.TheVariants.{NotADay}
use Rattle.cat_date.specs.Calendar.{civil_of, day_of_civil}

-- a number below 100, in two digits
abbrev pub two_digits : ℕ → List ℕ
two_digits n = (48 + n / 10) ∷ (48 + n % 10) ∷ []

-- a number below 10000, in four digits
abbrev pub four_digits : ℕ → List ℕ
four_digits n = two_digits (n / 100) ++ two_digits (n % 100)

-- the text of a date: year, month and day
abbrev pub date_text : ℕ → ℕ → ℕ → List ℕ
date_text y m d = four_digits y ++ codes "-" ++ two_digits m ++ codes "-" ++ two_digits d

-- the text of a day
unfoldable pub day_text : ℤ → List ℕ
day_text day = date_text (unsigned_abs (civil_of day).year) (civil_of day).month (civil_of day).day

-- the form of a text: each digit as 0, and the rest as it is
abbrev pub form_of : List ℕ → List ℕ
form_of [] = []
form_of (c ∷ cs) = (if is_ascii_digit c then 48 else c) ∷ form_of cs

-- the day that a text of that form names
unfoldable pub day_of_text : List ℕ → Result ℤ DateFault
day_of_text text =
    if bytes_eq (form_of text) (codes "0000-00-00")
    then day_of_civil (pos (digits_value 10 (take 4 text))) (digits_value 10 (take 2 (drop 5 text)))
    (digits_value 10 (take 2 (drop 8 text)))
    else Err NotADay
