-- Whole numbers and amounts in cents: exact results, where they fit.
use Rattle.std.specs.Prelude.{ℕ, ◌≤◌, nat_le, ℤ, ◌+ℤ◌, ◌-ℤ◌, ◌*ℤ◌, unsigned_abs, Bool, if◌then◌else◌, Result, Ok, Err}
use Rattle.cat_num.specs.declared.fault.NumFault.{NumFault}
use Rattle.cat_num.specs.declared.fault.NumFault.TheVariants.{Overflow}

-- the largest number that fits, 2^63 - 1
abbrev pub largest : ℕ
largest = 9223372036854775807

-- n lies between minus the largest number and the largest number
abbrev pub Fits : ℤ → Type 0
Fits n = unsigned_abs n ≤ largest

-- the same, as a test
abbrev pub fits : ℤ → Bool
fits n = nat_le (unsigned_abs n) largest

-- the exact result n where it fits, otherwise Overflow
abbrev pub whole_of : ℤ → Result ℤ NumFault
whole_of n = if fits n then Ok n else Err Overflow

-- a + b
abbrev pub whole_sum : ℤ → ℤ → Result ℤ NumFault
whole_sum a b = whole_of (a +ℤ b)

-- a - b
abbrev pub whole_difference : ℤ → ℤ → Result ℤ NumFault
whole_difference a b = whole_of (a -ℤ b)

-- a * b
abbrev pub whole_product : ℤ → ℤ → Result ℤ NumFault
whole_product a b = whole_of (a *ℤ b)
