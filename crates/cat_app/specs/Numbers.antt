-- The number of bands, as a word.
use Rattle.std.specs.Prelude.{◌≡◌, ℕ, zero, suc, List, Option, None, Some, bytes_eq, if◌then◌else◌, codes, refl}
use Rattle.std.specs.Fmt.{decimal, digits}
use Rattle.cat_app.specs.Limits.{most_bands}

-- the number from 1 up to this one whose decimals a text is
unfoldable pub number_up_to : ℕ → List ℕ → Option ℕ
number_up_to zero text = None
number_up_to (suc n) text = if bytes_eq text (decimal (suc n)) then Some (suc n) else number_up_to n text

-- the number of bands that a text names
unfoldable pub bands_in : List ℕ → Option ℕ
bands_in text = number_up_to most_bands text

-- ---- worked examples

seven : number_up_to 10 (codes "7") ≡ Some 7
unfolding number_up_to digits
seven = refl

a_leading_zero : number_up_to 10 (codes "07") ≡ None
unfolding number_up_to digits
a_leading_zero = refl

too_many : number_up_to 10 (codes "11") ≡ None
unfolding number_up_to digits
too_many = refl

no_bands : number_up_to 10 (codes "0") ≡ None
unfolding number_up_to digits
no_bands = refl
