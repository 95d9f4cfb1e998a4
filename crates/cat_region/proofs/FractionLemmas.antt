-- Fractions of one value have the same lowest terms.
use Rattle.std.proofs.Common.{◌≡◌, ℕ, zero, suc, ◌*◌, ◌/◌, ◌<◌, ◌≤◌, ℤ, pos, negsuc, ◌*ℤ◌, true, refl, sym}
use Rattle.std.proofs.Common.{ap, ◌∙◌, subst, arith, unsigned_abs}
use Rattle.std.specs.Prelude.{◌+ℤ◌}
use Rattle.std.proofs.lemmas.Int.{ints}
use Rattle.std.proofs.Math.IntN.{*ℤ-zero}
use Rattle.std.proofs.Math.Nat.{mul-div_cancel', eq_of_mul-eq-mul_right, mul_comm, mul_assoc, div-le_self, le_trans}
use Rattle.cat_num.specs.Whole.{largest}
use Rattle.cat_num.specs.Frac.{Fraction, IsReduced, gcd, lowest, is_negative, signed}
use Rattle.cat_num.proofs.Exported.{IsReduced-lowest, gcd_is, lowest_is, lowest_parts, signed-product}

times-suc : (x : ℤ) (e : ℕ) → x *ℤ pos (suc e) ≡ x *ℤ pos e +ℤ x
times-suc (pos a) e = omega (arith, ints)
times-suc (negsuc a) e = omega (arith, ints)

pub times-sum : (x y : ℤ) (e : ℕ) → (x +ℤ y) *ℤ pos e ≡ x *ℤ pos e +ℤ y *ℤ pos e
times-sum x y zero = omega (arith, ints, *ℤ-zero (x +ℤ y), *ℤ-zero x, *ℤ-zero y)
times-sum x y (suc e) = omega (arith, ints, times-suc (x +ℤ y) e, times-suc x e, times-suc y e, times-sum x y e)

pub times-times : (x : ℤ) (d e : ℕ) → x *ℤ pos d *ℤ pos e ≡ x *ℤ pos (d * e)
times-times (pos a) d e = omega (arith, ints)
times-times (negsuc a) d e = signed-product true (suc a * d) e ∙ ap (signed true) (mul_assoc (suc a) d e)

times-cancel : (x y : ℤ) (e : ℕ) → 0 < e → x *ℤ pos e ≡ y *ℤ pos e → x ≡ y
times-cancel (pos a) (pos b) e p h = ap pos (eq_of_mul-eq-mul_right e p a b (omega (arith, ints)))
times-cancel (negsuc a) (negsuc b) e p h = same (eq_of_mul-eq-mul_right e p (suc a) (suc b) (omega (arith, ints)))
  where
    same : suc a ≡ suc b → negsuc a ≡ negsuc b
    same h = omega (arith, ints)
times-cancel (pos a) (negsuc b) e p h = absurd (omega (arith, ints))
times-cancel (negsuc a) (pos b) e p h = absurd (omega (arith, ints))

lowest-cross : (n : ℤ) (d : ℕ) → (lowest n d).num *ℤ pos d ≡ n *ℤ pos (lowest n d).den
lowest-cross n d =
    let g = gcd (unsigned_abs n) d in
    let a = unsigned_abs n / g in
    let b = d / g in
    let left : g * a ≡ unsigned_abs n = mul-div_cancel' g (gcd_is (unsigned_abs n) d).0 in
    let right : g * b ≡ d = mul-div_cancel' g (gcd_is (unsigned_abs n) d).1 in
    ap (λ (f : Fraction). f.num *ℤ pos d) (lowest_parts n d) ∙ signed-product (is_negative n) a d
    ∙ ap (signed (is_negative n)) (omega (arith, ap (λ (x : ℕ). a * x) right, ap (λ (x : ℕ). x * b) left))
    ∙ sym (signed-product (is_negative n) (unsigned_abs n) b)
    ∙ ap (λ m. m *ℤ pos b) (signed_parts n) ∙ ap (λ (f : Fraction). n *ℤ pos f.den) (sym (lowest_parts n d))
  where
    signed_parts : (n : ℤ) → signed (is_negative n) (unsigned_abs n) ≡ n
    signed_parts (pos n) = refl
    signed_parts (negsuc n) = refl

-- equal cross products give the same lowest terms, where those of one of them fit
pub lowest-same : (n : ℤ) (d : ℕ) (m : ℤ) (e : ℕ) → 0 < d → 0 < e → unsigned_abs m ≤ largest → e ≤ largest
    → n *ℤ pos e ≡ m *ℤ pos d → lowest n d ≡ lowest m e
lowest-same n d m e p q h k same =
    lowest_is (lowest m e) n d p reduced
    (times-cancel ((lowest m e).num *ℤ pos d) (n *ℤ pos (lowest m e).den) e q
    (times-times (lowest m e).num d e ∙ ap (λ (j : ℕ). (lowest m e).num *ℤ pos j) (mul_comm d e)
    ∙ sym (times-times (lowest m e).num e d)
    ∙ ap (λ x. x *ℤ pos d) (lowest-cross m e) ∙ swap m (lowest m e).den d
    ∙ ap (λ x. x *ℤ pos (lowest m e).den) (sym same) ∙ swap n e (lowest m e).den))
  where
    reduced : IsReduced (lowest m e).num (lowest m e).den
    reduced = subst (λ (f : Fraction). IsReduced f.num f.den) (sym (lowest_parts m e))
        (IsReduced-lowest m e q (le_trans (div-le_self (unsigned_abs m) _) h) (le_trans (div-le_self e _) k))

    swap : (x : ℤ) (a b : ℕ) → x *ℤ pos a *ℤ pos b ≡ x *ℤ pos b *ℤ pos a
    swap x a b = times-times x a b ∙ ap (λ (j : ℕ). x *ℤ pos j) (mul_comm a b) ∙ sym (times-times x b a)
