-- A number is its sign and its size.
use Rattle.std.proofs.Common.{◌≡◌, ℕ, zero, suc, ◌*◌, ◌<◌, ℤ, pos, negsuc, ◌*ℤ◌, unsigned_abs, Bool, true, false, refl}
use Rattle.std.proofs.Common.{arith}
use Rattle.std.proofs.lemmas.Int.{ints}
use Rattle.cat_num.specs.Frac.{is_negative, signed}

pub unsigned_abs-signed : (s : Bool) (n : ℕ) → unsigned_abs (signed s n) ≡ n
unsigned_abs-signed true zero = refl
unsigned_abs-signed true (suc n) = refl
unsigned_abs-signed false n = refl

pub signed_parts : (n : ℤ) → signed (is_negative n) (unsigned_abs n) ≡ n
signed_parts (pos n) = refl
signed_parts (negsuc n) = refl

pub signed-product : (s : Bool) (a d : ℕ) → signed s a *ℤ pos d ≡ signed s (a * d)
signed-product true zero d = omega (arith, ints)
signed-product true (suc a) d = omega (arith, ints)
signed-product false a d = refl

-- equal products by positive numbers have equal signs
pub sign_from_cross : (x n : ℤ) (d b : ℕ) → 0 < d → 0 < b → x *ℤ pos d ≡ n *ℤ pos b → signed (is_negative n)
    (unsigned_abs x) ≡ x
sign_from_cross (pos a) (pos k) d b p q e = refl
sign_from_cross (negsuc a) (negsuc k) d b p q e = refl
sign_from_cross (pos a) (negsuc k) d b p q e = absurd (omega (arith, ints))
sign_from_cross (negsuc a) (pos k) d b p q e = absurd (omega (arith, ints))

pub times_one : (n : ℤ) → n *ℤ pos 1 ≡ n
times_one (pos n) = omega (arith, ints)
times_one (negsuc n) = omega (arith, ints)
