-- The texts read back, and a decimal has the fewest places.
use Rattle.std.proofs.Common.{◌≡◌, ◌≤◌, ℕ, zero, suc, ◌+◌, ◌*◌, ◌/◌, ◌%◌, ◌^◌, ◌<◌, ℤ, pos, negsuc, ◌*ℤ◌, unsigned_abs}
use Rattle.std.proofs.Common.{Bool, false, Option, Some, None, Ok, List, [], ◌∷◌, ◌++◌, length, refl, sym, ap, ◌∙◌}
use Rattle.std.proofs.Common.{subst, arith, append_assoc, append-nil}
use Rattle.std.specs.Fmt.{decimal, signed_decimal}
use Rattle.std.proofs.lemmas.Bool.Decides.{nat_tests}
use Rattle.std.proofs.Math.Nat.{div-add-mod', mod-lt, mul-lt-mul_of_pos_right, mul-div_cancel_left, lt_of_lt_of_le}
use Rattle.std.proofs.Math.Nat.{le_trans, pow-le-pow_right, div-lt_iff_lt-mul, mul_comm, lt_of_le_of_lt, div-le_self}
use Rattle.std.proofs.Math.Nat.{mul-one}
use Rattle.cat_num.specs.Whole.{Fits}
use Rattle.cat_num.specs.Frac.{Fraction, IsReduced, is_negative, signed, ratio}
use Rattle.cat_num.specs.Text.{decimal_places, filled, sign, point_and_digits, with_places, text_with, decimal_bytes}
use Rattle.cat_num.specs.Text.{money_bytes}
use Rattle.cat_num.specs.Reading.{number_after, read_unsigned, read_decimal, read_quotient, read_fraction}
use Rattle.cat_num.proofs.Signs.{signed_parts, signed-product}
use Rattle.cat_num.proofs.Fracs.{lowest_is}
use Rattle.cat_num.proofs.Places.{place_found}
use Rattle.cat_num.proofs.Texts.{ten_power, places_from-start}
use Rattle.cat_num.proofs.Digits.{Without, Without-append, Without-decimal, Without-filled, split_at-none}
use Rattle.cat_num.proofs.Digits.{split_at-some, number_after-append, number_after-decimal, number_after-filled}
use Rattle.cat_num.proofs.Digits.{length-filled}

-- a text without a sign is read as it stands
read_fraction-unsigned : (xs : List ℕ) → Without 45 xs → read_fraction xs ≡ read_unsigned false xs
unfolding read_fraction
read_fraction-unsigned [] w = refl
read_fraction-unsigned (x ∷ xs) w = let h = w.0 in grind (arith, nat_tests)

pub read_fraction-sign : (n : ℤ) (xs : List ℕ) → Without 45 xs → read_fraction (sign n ++ xs) ≡ read_unsigned
    (is_negative n) xs
unfolding read_fraction
read_fraction-sign (pos n) xs w = read_fraction-unsigned xs w
read_fraction-sign (negsuc n) xs w = refl

-- digits w, a point and p digits of v
read_unsigned-point : (s : Bool) (w p v : ℕ) → w < 2 ^ 64 → v < 10 ^ p → v < 2 ^ 64
    → read_unsigned s (decimal w ++ point_and_digits p v) ≡ ratio (signed s (w * 10 ^ p + v)) (10 ^ p)
read_unsigned-point s w zero v h k l =
    let whole : decimal w ++ [] ≡ decimal w = append-nil (decimal w) in
    ap (read_unsigned s) whole ∙ ap (read_quotient s (decimal w))
    (split_at-none 47 (decimal w) (Without-decimal 47 w (omega arith) h))
    ∙ ap (read_decimal s (decimal w)) (split_at-none 46 (decimal w) (Without-decimal 46 w (omega arith) h))
    ∙ ap (λ m. ratio (signed s m) 1) (number_after-decimal w h ∙ omega arith)
read_unsigned-point s w (suc p) v h k l =
    let text : List ℕ = decimal w ++ 46 ∷ filled (suc p) v in
    let digits : Without 47 text = Without-append 47 (decimal w) _ (Without-decimal 47 w (omega arith) h)
    (λ e. omega arith, Without-filled 47 (suc p) v (omega arith) l) in
    ap (read_quotient s text) (split_at-none 47 text digits)
    ∙ ap (read_decimal s text) (split_at-some 46 (decimal w) (filled (suc p) v) (Without-decimal 46 w (omega arith) h))
    ∙ ap (λ m. ratio (signed s m) (10 ^ length (filled (suc p) v))) value
    ∙ ap (λ n. ratio (signed s (w * 10 ^ suc p + v)) (10 ^ n)) (length-filled (suc p) v (omega arith) k l)
  where
    value : number_after 0 (decimal w ++ filled (suc p) v) ≡ w * 10 ^ suc p + v
    value = number_after-append 0 (decimal w) (filled (suc p) v) ∙ ap (λ m. number_after m (filled (suc p) v))
        (number_after-decimal w h)
        ∙ number_after-filled (suc p) w v (omega arith) k l

-- digits, `/` and digits
read_unsigned-quotient : (s : Bool) (n d : ℕ) → n < 2 ^ 64 → d < 2 ^ 64 → read_unsigned s (decimal n ++ 47 ∷ decimal d)
    ≡ ratio (signed s n) d
read_unsigned-quotient s n d h k =
    ap (read_quotient s (decimal n ++ 47 ∷ decimal d))
    (split_at-some 47 (decimal n) (decimal d) (Without-decimal 47 n (omega arith) h))
    ∙ ap (λ m. ratio (signed s m) (number_after 0 (decimal d))) (number_after-decimal n h)
    ∙ ap (ratio (signed s n)) (number_after-decimal d k)

pub signed_decimal_is : (z : ℤ) → signed_decimal z ≡ sign z ++ decimal (unsigned_abs z)
signed_decimal_is (pos n) = refl
signed_decimal_is (negsuc n) = refl

pub exact_quotient : (t d : ℕ) → t % d ≡ 0 → t ≡ d * (t / d)
exact_quotient t d e = let f = div-add-mod' t d in omega arith

-- in units of 10 ^ -p, n / d is n * (10 ^ p / d)
pub units_are : (n d p : ℕ) → 0 < d → 10 ^ p % d ≡ 0 → (n / d) * 10 ^ p + n % d * 10 ^ p / d ≡ n * (10 ^ p / d)
units_are n d p h e =
    let whole : 10 ^ p ≡ d * (10 ^ p / d) = exact_quotient (10 ^ p) d e in
    by (n / d) (n % d) (10 ^ p / d) (10 ^ p) n whole (div-add-mod' n d)
  where
    turn : (a d r k : ℕ) → a * (d * k) + r * k ≡ (a * d + r) * k
    turn a d r k = omega arith

    by : (a r k t n : ℕ) → t ≡ d * k → a * d + r ≡ n → a * t + r * t / d ≡ n * k
    by a r k t n e f =
        let product : r * t ≡ d * (r * k) = ap (λ x. r * x) e ∙ omega arith in
        ap (λ x. a * t + x / d) product ∙ ap (λ x. a * t + x) (mul-div_cancel_left (r * k) h) ∙ ap (λ x. a * x + r * k)
        e ∙ turn a d r k ∙ ap (λ x. x * k) f

part_below : (n d p : ℕ) → 0 < d → n % d * 10 ^ p / d < 10 ^ p
part_below n d p h = (div-lt_iff_lt-mul h).1 (subst (λ x. n % d * 10 ^ p < x) (mul_comm d (10 ^ p))
    (mul-lt-mul_of_pos_right (mod-lt n h) (ten_power p)))

pub read_fraction-with_places : (p : ℕ) (n : ℤ) (d : ℕ) → 0 < d → unsigned_abs n < 2 ^ 64 → p ≤ 9 → 10 ^ p % d ≡ 0
    → read_fraction (with_places p n d) ≡ ratio (signed (is_negative n) (unsigned_abs n * (10 ^ p / d))) (10 ^ p)
read_fraction-with_places p n d h k b e =
    let size = unsigned_abs n in
    let v : ℕ = size % d * 10 ^ p / d in
    let small : size / d < 2 ^ 64 = lt_of_le_of_lt (div-le_self size d) k in
    let below = part_below size d p h in
    let few : v < 2 ^ 64 = lt_of_lt_of_le below (le_trans (pow-le-pow_right {n = 10} (omega arith) b) (omega arith)) in
    ap read_fraction (append_assoc (sign n) (decimal (size / d)) (point_and_digits p v))
    ∙ read_fraction-sign n (decimal (size / d) ++ point_and_digits p v)
    (Without-append 45 (decimal (size / d)) _ (Without-decimal 45 (size / d) (omega arith) small) (no_sign p v few))
    ∙ read_unsigned-point (is_negative n) (size / d) p v small below few
    ∙ ap (λ m. ratio (signed (is_negative n) m) (10 ^ p)) (units_are size d p h e)
  where
    no_sign : (p v : ℕ) → v < 2 ^ 64 → Without 45 (point_and_digits p v)
    no_sign zero v l = tt
    no_sign (suc p) v l = (λ e. omega arith, Without-filled 45 (suc p) v (omega arith) l)

pub ratio_is : (f : Fraction) (n : ℤ) (d : ℕ) → 0 < d → IsReduced f.num f.den → f.num *ℤ pos d ≡ n *ℤ pos f.den
    → ratio n d ≡ Ok f
unfolding ratio
ratio_is f n d h r e =
    let same = lowest_is f n d h r e in
    let num = r.num_fits in
    let den = r.den_fits in
    grind (arith, nat_tests)

-- in lowest terms f, |f| * 10 ^ p units of 10 ^ -p are f again
pub units_equal : (n : ℤ) (d t : ℕ) → t ≡ d * (t / d) → n *ℤ pos t
    ≡ signed (is_negative n) (unsigned_abs n * (t / d)) *ℤ pos d
units_equal n d t e =
    ap (λ x. n *ℤ pos x) e ∙ ap (λ m. m *ℤ pos (d * (t / d))) (sym (signed_parts n))
    ∙ signed-product (is_negative n) (unsigned_abs n) (d * (t / d)) ∙ ap (signed (is_negative n))
    (regroup (unsigned_abs n) d (t / d))
    ∙ sym (signed-product (is_negative n) (unsigned_abs n * (t / d)) d)
  where
    regroup : (n d k : ℕ) → n * (d * k) ≡ n * k * d
    regroup n d k = omega arith

-- a text of a reduced fraction is read as that fraction
pub read_fraction-decimal_bytes : (f : Fraction) → IsReduced f.num f.den → read_fraction (decimal_bytes f) ≡ Ok f
unfolding decimal_bytes
read_fraction-decimal_bytes f r = by (decimal_places f.den) refl
  where
    by : (o : Option ℕ) → decimal_places f.den ≡ o → read_fraction (text_with o f) ≡ Ok f
    by None e =
        let num : unsigned_abs f.num < 2 ^ 64 = let h = r.num_fits in omega arith in
        let den : f.den < 2 ^ 64 = let h = r.den_fits in omega arith in
        ap (λ t. read_fraction (t ++ 47 ∷ decimal f.den)) (signed_decimal_is f.num)
        ∙ ap read_fraction (append_assoc (sign f.num) (decimal (unsigned_abs f.num)) (47 ∷ decimal f.den))
        ∙ read_fraction-sign f.num (decimal (unsigned_abs f.num) ++ 47 ∷ decimal f.den)
        (Without-append 45 (decimal (unsigned_abs f.num)) _ (Without-decimal 45 (unsigned_abs f.num) (omega arith) num)
        (λ e. omega arith, Without-decimal 45 f.den (omega arith) den))
        ∙ read_unsigned-quotient (is_negative f.num) (unsigned_abs f.num) f.den num den
        ∙ ap (λ n. ratio n f.den) (signed_parts f.num)
        ∙ ratio_is f f.num f.den r.positive r refl
    by (Some p) e =
        let num : unsigned_abs f.num < 2 ^ 64 = let h = r.num_fits in omega arith in
        let place = place_found 10 0 f.den p (places_from-start f.den ∙ e) in
        let exact = place.serves in
        let low = place.low in
        read_fraction-with_places p f.num f.den r.positive num (omega arith) exact
        ∙ ratio_is f (signed (is_negative f.num) (unsigned_abs f.num * (10 ^ p / f.den))) (10 ^ p) (ten_power p) r
        (units_equal f.num f.den (10 ^ p) (exact_quotient (10 ^ p) f.den exact))

-- a text of an amount is read as its cents over 100
pub read_fraction-money_bytes : (m : ℤ) → Fits m → read_fraction (money_bytes m) ≡ ratio m 100
unfolding money_bytes
read_fraction-money_bytes m h =
    read_fraction-with_places 2 m 100 (omega arith) (omega arith) (omega arith) refl
    ∙ ap (λ n. ratio (signed (is_negative m) n) 100) (mul-one (unsigned_abs m)) ∙ ap (λ n. ratio n 100) (signed_parts m)
