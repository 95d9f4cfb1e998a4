-- Two cuts have the same numbers exactly where they are one.
use Rattle.std.proofs.Common.{◌≡◌, ◌↔◌, ℕ, zero, suc, nat_eq, ℤ, pos, negsuc, true, IsTrue, List, []}
use Rattle.std.proofs.Common.{◌∷◌, refl, sym, ap, ◌∙◌, arith, true≢false}
use Rattle.std.specs.Prelude.{unsigned_abs}
use Rattle.std.specs.Ordering.{int_eq}
use Rattle.std.proofs.lemmas.Bool.Decides.{nat_tests, Decides-int_eq}
use Rattle.cat_region.specs.declared.cut.Threshold.{Threshold}
use Rattle.cat_region.specs.declared.cut.Threshold.TheVariants as threshold
use Rattle.cat_region.specs.declared.cut.Cut.{Cut}
use Rattle.cat_region.specs.declared.cut.Cut.TheVariants as cut
use Rattle.cat_region.proofs.Exported.{and-parts}
use Rattle.cat_guard.specs.Terms.{same_threshold, same_cut}
use Rattle.cat_audit_keys.specs.Keys.{sign_number}
use Rattle.cat_audit_keys.specs.Atoms.{threshold_numbers, cut_numbers}

-- the number at an index, or 0
abbrev number_at : ℕ → List ℕ → ℕ
number_at n [] = 0
number_at zero (x ∷ xs) = x
number_at (suc n) (x ∷ xs) = number_at n xs

abbrev behind : List ℕ → List ℕ
behind [] = []
behind (x ∷ xs) = xs

one_number : (n m : ℕ) → n ≡ m → nat_eq n m ≡ true
one_number n m e = grind (arith, nat_tests)

same_number : (n m : ℕ) → nat_eq n m ≡ true → n ≡ m
same_number n m h = grind (arith, nat_tests)

one_integer : (a b : ℤ) → sign_number a ≡ sign_number b → unsigned_abs a ≡ unsigned_abs b → int_eq a b ≡ true
one_integer a b s n = (Decides-int_eq a b).1 (by a b s n)
  where
    by : (a b : ℤ) → sign_number a ≡ sign_number b → unsigned_abs a ≡ unsigned_abs b → a ≡ b
    by (pos n) (pos m) s e = ap pos e
    by (negsuc n) (negsuc m) s e = ap negsuc (omega (arith, e))
    by (pos n) (negsuc m) s e = absurd (omega (arith, s))
    by (negsuc n) (pos m) s e = absurd (omega (arith, s))

-- ---- constants

constant_told : (a b : Threshold) → threshold_numbers a ≡ threshold_numbers b → same_threshold a b ≡ true
constant_told a b e =
    by a b e (one_number (number_at 0 (threshold_numbers a)) (number_at 0 (threshold_numbers b)) (ap (number_at 0) e))
  where
    by : (a b : Threshold) → threshold_numbers a ≡ threshold_numbers b
        → nat_eq (number_at 0 (threshold_numbers a)) (number_at 0 (threshold_numbers b)) ≡ true
        → same_threshold a b ≡ true
    by (threshold.Whole n) (threshold.Whole m) e k = one_integer n m (ap (number_at 1) e) (ap (number_at 2) e)
    by (threshold.Money n) (threshold.Money m) e k = one_integer n m (ap (number_at 1) e) (ap (number_at 2) e)
    by (threshold.Day n) (threshold.Day m) e k = one_integer n m (ap (number_at 1) e) (ap (number_at 2) e)
    by (threshold.Decimal f) (threshold.Decimal g) e k =
        rw (one_integer f.num g.num (ap (number_at 1) e) (ap (number_at 2) e)) (one_number f.den g.den
        (ap (number_at 3) e))
    by _ _ e k = absurd (true≢false (sym k))

constant_numbers : (a b : Threshold) → same_threshold a b ≡ true → threshold_numbers a ≡ threshold_numbers b
constant_numbers (threshold.Whole n) (threshold.Whole m) h =
    ap (λ (k : ℤ). threshold_numbers (threshold.Whole k)) ((Decides-int_eq n m).0 h)
constant_numbers (threshold.Money n) (threshold.Money m) h =
    ap (λ (k : ℤ). threshold_numbers (threshold.Money k)) ((Decides-int_eq n m).0 h)
constant_numbers (threshold.Day n) (threshold.Day m) h =
    ap (λ (k : ℤ). threshold_numbers (threshold.Day k)) ((Decides-int_eq n m).0 h)
constant_numbers (threshold.Decimal f) (threshold.Decimal g) h =
    let two = and-parts (int_eq f.num g.num) (nat_eq f.den g.den) h in
    ap (λ (k : ℤ). 3 ∷ sign_number k ∷ unsigned_abs k ∷ f.den ∷ []) ((Decides-int_eq f.num g.num).0 two.0)
    ∙ ap (λ (d : ℕ). 3 ∷ sign_number g.num ∷ unsigned_abs g.num ∷ d ∷ []) (same_number f.den g.den two.1)
constant_numbers _ _ h = absurd (true≢false (sym h))

-- ---- cuts

told : (c d : Cut) → cut_numbers c ≡ cut_numbers d → same_cut c d ≡ true
told c d e = by c d e (one_number (number_at 0 (cut_numbers c)) (number_at 0 (cut_numbers d)) (ap (number_at 0) e))
  where
    by : (c d : Cut) → cut_numbers c ≡ cut_numbers d
        → nat_eq (number_at 0 (cut_numbers c)) (number_at 0 (cut_numbers d)) ≡ true → same_cut c d ≡ true
    by (cut.Below a) (cut.Below b) e k = constant_told a b (ap behind e)
    by (cut.AtMost a) (cut.AtMost b) e k = constant_told a b (ap behind e)
    by cut.IsTrue cut.IsTrue e k = refl
    by (cut.IsCase n) (cut.IsCase m) e k = one_number n m (ap (number_at 1) e)
    by _ _ e k = absurd (true≢false (sym k))

numbered : (c d : Cut) → same_cut c d ≡ true → cut_numbers c ≡ cut_numbers d
numbered (cut.Below a) (cut.Below b) h = ap (λ (ns : List ℕ). 0 ∷ ns) (constant_numbers a b h)
numbered (cut.AtMost a) (cut.AtMost b) h = ap (λ (ns : List ℕ). 1 ∷ ns) (constant_numbers a b h)
numbered cut.IsTrue cut.IsTrue h = refl
numbered (cut.IsCase n) (cut.IsCase m) h = ap (λ (k : ℕ). 3 ∷ k ∷ []) (same_number n m h)
numbered _ _ h = absurd (true≢false (sym h))

pub one_cut : (c d : Cut) → IsTrue (same_cut c d) ↔ (cut_numbers c ≡ cut_numbers d)
one_cut c d = (numbered c d, told c d)

pub ruleset numbers_tell = (one_cut)
