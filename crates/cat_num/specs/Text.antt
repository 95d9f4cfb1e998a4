-- The texts of fractions and of amounts.
use Rattle.std.specs.Prelude.{ℕ, zero, suc, ◌+◌, ◌-◌, ◌*◌, ◌/◌, ◌%◌, ◌^◌, ◌==◌, ℤ, unsigned_abs, if◌then◌else◌, Option}
use Rattle.std.specs.Prelude.{Some, None, List, [], ◌∷◌, ◌++◌, length, replicate}
use Rattle.std.specs.Fmt.{decimal, signed_decimal}
use Rattle.cat_num.specs.Frac.{Fraction, is_negative}

-- the least p, from p on and with k tries, such that d divides 10 ^ p
abbrev pub places_from : ℕ → ℕ → ℕ → Option ℕ
places_from zero p d = None
places_from (suc k) p d = if 10 ^ p % d == 0 then Some p else places_from k (p + 1) d

-- the fewest decimal places that a fraction with denominator d needs, where d divides 10 ^ 9
unfoldable pub decimal_places : ℕ → Option ℕ
decimal_places d = places_from 10 0 d

-- v in decimal, filled with zeros to p digits
abbrev pub filled : ℕ → ℕ → List ℕ
filled p v = replicate (p - length (decimal v)) 48 ++ decimal v

-- `-` where the number is negative
abbrev pub sign : ℤ → List ℕ
sign n = if is_negative n then 45 ∷ [] else []

-- `.` and v in p digits, or nothing where p is 0
abbrev pub point_and_digits : ℕ → ℕ → List ℕ
point_and_digits zero v = []
point_and_digits (suc p) v = 46 ∷ filled (suc p) v

-- n / d with p decimal places, where d divides 10 ^ p
abbrev pub with_places : ℕ → ℤ → ℕ → List ℕ
with_places p n d = sign n ++ decimal (unsigned_abs n / d) ++ point_and_digits p (unsigned_abs n % d * 10 ^ p / d)

-- the decimal with the places given, or `num/den` where there are none
abbrev pub text_with : Option ℕ → Fraction → List ℕ
text_with (Some p) f = with_places p f.num f.den
text_with None f = signed_decimal f.num ++ 47 ∷ decimal f.den

-- the shortest decimal, or `num/den` where the denominator does not divide 10 ^ 9
unfoldable pub decimal_bytes : Fraction → List ℕ
decimal_bytes f = text_with (decimal_places f.den) f

-- the sign, the units, a point and two digits
unfoldable pub money_bytes : ℤ → List ℕ
money_bytes cents = with_places 2 cents 100
