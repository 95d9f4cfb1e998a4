-- The decimals that ends of ranges stand for.
use Rattle.std.proofs.Common.{◌≡◌, ℕ, zero, suc, ◌*◌, ◌/◌, ◌<◌, ◌≤◌, ℤ, pos, negsuc, ◌*ℤ◌}
use Rattle.std.proofs.Common.{sym, ap, ◌∙◌, subst, arith, unsigned_abs, IsTrue}
use Rattle.std.specs.Prelude.{◌+ℤ◌, ◌-ℤ◌, ◌==◌, ◌&&◌, nat_lt, nat_le}
use Rattle.std.proofs.lemmas.Int.{ints}
use Rattle.cat_num.specs.Whole.{largest, fits}
use Rattle.cat_num.specs.Frac.{Fraction, IsReduced, is_reduced, gcd, lowest}
use Rattle.cat_num.proofs.Exported.{lowest_is}
use Rattle.cat_region.specs.declared.cut.Threshold.TheVariants as threshold
use Rattle.cat_region.specs.Points.{is_bound}
use Rattle.cat_region.specs.Extents.{place}
use Rattle.cat_region.specs.Choices.{plus, middle}
use Rattle.cat_region.proofs.Tests.{le_of, eq_of, and-parts}
use Rattle.cat_region.proofs.RankLemmas.{bound_parts, positive_den, double}
use Rattle.cat_region.proofs.PartLemmas.{place-bound}
use Rattle.cat_region.proofs.PointLemmas.{sum-sized}
use Rattle.cat_region.proofs.FractionLemmas.{times-sum, times-times, lowest-same}

-- a place is so many half units
place-times : (c : Fraction) → IsTrue (is_bound c)
    → place (threshold.Decimal c) *ℤ pos c.den ≡ c.num *ℤ pos 2_000_000_000
place-times c h =
    let parts = bound_parts c h in
    let k = 1_000_000_000 / c.den in
    let half = double c.den k (positive_den c parts.0) parts.1 in
    times-times c.num (2_000_000_000 / c.den) c.den
    ∙ ap (λ (n : ℕ). c.num *ℤ pos n) (ap (λ (n : ℕ). n * c.den) half ∙ whole c.den k parts.1)
  where
    whole : (d k : ℕ) → 1_000_000_000 ≡ d * k → 2 * k * d ≡ 2_000_000_000
    whole d k e = omega (arith, e)

reduced_of : (f : Fraction) → IsTrue (is_reduced f) → IsReduced f.num f.den
reduced_of f h =
    let tests = and-parts (nat_lt 0 f.den && nat_le f.den largest && fits f.num) (gcd (unsigned_abs f.num) f.den == 1) h
    in
    let sizes = and-parts (nat_lt 0 f.den && nat_le f.den largest) (fits f.num) tests.0 in
    let dens = and-parts (nat_lt 0 f.den) (nat_le f.den largest) sizes.0 in
    record {
      positive = positive_den f h;
      den_fits = le_of f.den largest dens.1;
      num_fits = le_of (unsigned_abs f.num) largest sizes.1;
      lowest_terms = eq_of (gcd (unsigned_abs f.num) f.den) 1 tests.1;
    }

-- the bound of a place
pub value-place : (c : Fraction) (n : ℤ) → IsTrue (is_bound c) → n ≡ place (threshold.Decimal c)
    → lowest n 2_000_000_000 ≡ c
value-place c n h e =
    lowest_is c n 2_000_000_000 (omega arith) (reduced_of c (bound_parts c h).0)
    (sym (place-times c h) ∙ ap (λ m. m *ℤ pos c.den) (sym e))

-- one step of 1 from a bound
plus-place : (c : Fraction) (n s : ℤ) → IsTrue (is_bound c) → unsigned_abs n ≤ largest
    → n ≡ place (threshold.Decimal c) +ℤ s *ℤ pos 2_000_000_000
    → plus c s ≡ lowest n 2_000_000_000
plus-place c n s h fit e =
    lowest-same (c.num +ℤ s *ℤ pos c.den) c.den n 2_000_000_000 (positive_den c (bound_parts c h).0) (omega arith) fit
    (omega arith)
    (times-sum c.num (s *ℤ pos c.den) 2_000_000_000
    ∙ ap (λ m. m +ℤ s *ℤ pos c.den *ℤ pos 2_000_000_000) (sym (place-times c h))
    ∙ ap (λ m. place (threshold.Decimal c) *ℤ pos c.den +ℤ m) (swap s c.den 2_000_000_000)
    ∙ sym (times-sum (place (threshold.Decimal c)) (s *ℤ pos 2_000_000_000) c.den) ∙ ap (λ m. m *ℤ pos c.den) (sym e))
  where
    swap : (x : ℤ) (a b : ℕ) → x *ℤ pos a *ℤ pos b ≡ x *ℤ pos b *ℤ pos a
    swap x a b = times-times x a b ∙ ap (λ (j : ℕ). x *ℤ pos j) (comm a b) ∙ sym (times-times x b a)
      where
        comm : (a b : ℕ) → a * b ≡ b * a
        comm a b = omega arith

near-fits : (c : Fraction) (n s : ℤ) → IsTrue (is_bound c) → unsigned_abs s ≤ 2_000_000_000
    → n ≡ place (threshold.Decimal c) +ℤ s → unsigned_abs n ≤ largest
near-fits c n s h small e =
    let sum
    = sum-sized (place (threshold.Decimal c)) s 2_000_000_000_000_000_000 2_000_000_000 (place-bound c h) small in
    subst (λ m. unsigned_abs m ≤ largest) (sym e) (omega arith)

pub value-over : (c : Fraction) (n : ℤ) → IsTrue (is_bound c) → n ≡ place (threshold.Decimal c) +ℤ pos 1
    → lowest (n +ℤ pos 1_999_999_999) 2_000_000_000 ≡ plus c (pos 1)
value-over c n h e =
    let next = ap (λ m. m +ℤ pos 1_999_999_999) e ∙ sum (place (threshold.Decimal c)) in
    sym (plus-place c (n +ℤ pos 1_999_999_999) (pos 1) h
    (near-fits c (n +ℤ pos 1_999_999_999) (pos 2_000_000_000) h (omega arith) next) next)
  where
    sum : (p : ℤ) → p +ℤ pos 1 +ℤ pos 1_999_999_999 ≡ p +ℤ pos 2_000_000_000
    sum p = omega (arith, ints)

pub value-under : (c : Fraction) (n : ℤ) → IsTrue (is_bound c) → n ≡ place (threshold.Decimal c) -ℤ pos 1
    → lowest (n -ℤ pos 1_999_999_999) 2_000_000_000 ≡ plus c (negsuc 0)
value-under c n h e =
    let next = ap (λ m. m -ℤ pos 1_999_999_999) e ∙ sum (place (threshold.Decimal c)) in
    sym (plus-place c (n -ℤ pos 1_999_999_999) (negsuc 0) h
    (near-fits c (n -ℤ pos 1_999_999_999) (negsuc 1_999_999_999) h (omega arith) next) next)
  where
    sum : (p : ℤ) → p -ℤ pos 1 -ℤ pos 1_999_999_999 ≡ p +ℤ negsuc 1_999_999_999
    sum p = omega (arith, ints)

positive-product : (a b : ℕ) → 0 < a → 0 < b → 0 < 2 * a * b
positive-product zero b h k = absurd (omega arith)
positive-product (suc a) zero h k = absurd (omega arith)
positive-product (suc a) (suc b) h k = omega arith

half-times : (p n : ℤ) (d e f : ℕ) → f ≡ d * (2 * e) → p *ℤ pos d ≡ n *ℤ pos 2_000_000_000
    → n *ℤ pos e *ℤ pos 4_000_000_000 ≡ p *ℤ pos f
half-times p n d e f is h =
    times-times n e 4_000_000_000 ∙ ap (λ (j : ℕ). n *ℤ pos j) (omega arith) ∙ sym (times-times n 2_000_000_000 (2 * e))
    ∙ ap (λ m. m *ℤ pos (2 * e)) (sym h) ∙ times-times p d (2 * e) ∙ ap (λ (j : ℕ). p *ℤ pos j) (sym is)

-- the middle of two bounds
pub value-middle : (a b : Fraction) (l h : ℤ) → IsTrue (is_bound a) → IsTrue (is_bound b)
    → l ≡ place (threshold.Decimal a) +ℤ pos 1 → h ≡ place (threshold.Decimal b) -ℤ pos 1
    → lowest (l +ℤ h) 4_000_000_000 ≡ middle a b
value-middle a b l h ha hb e f =
    let p = place (threshold.Decimal a) in
    let q = place (threshold.Decimal b) in
    let both = sum p q l h e f in
    let size = sum-sized p q 2_000_000_000_000_000_000 2_000_000_000_000_000_000 (place-bound a ha) (place-bound b hb)
    in
    sym (lowest-same (a.num *ℤ pos b.den +ℤ b.num *ℤ pos a.den) (2 * a.den * b.den) (l +ℤ h) 4_000_000_000
    (positive-product a.den b.den (positive_den a (bound_parts a ha).0) (positive_den b (bound_parts b hb).0))
    (omega arith)
    (subst (λ m. unsigned_abs m ≤ largest) (sym both) (omega arith)) (omega arith)
    (times-sum (a.num *ℤ pos b.den) (b.num *ℤ pos a.den) 4_000_000_000
    ∙ ap (λ m. m +ℤ b.num *ℤ pos a.den *ℤ pos 4_000_000_000)
    (half-times p a.num a.den b.den (2 * a.den * b.den) (omega arith) (place-times a ha))
    ∙ ap (λ m. p *ℤ pos (2 * a.den * b.den) +ℤ m)
    (half-times q b.num b.den a.den (2 * a.den * b.den) (omega arith) (place-times b hb))
    ∙ sym (times-sum p q (2 * a.den * b.den)) ∙ ap (λ m. m *ℤ pos (2 * a.den * b.den)) (sym both)))
  where
    sum : (p q l h : ℤ) → l ≡ p +ℤ pos 1 → h ≡ q -ℤ pos 1 → l +ℤ h ≡ p +ℤ q
    sum p q l h e f = omega (arith, ints)
