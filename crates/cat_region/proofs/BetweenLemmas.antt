-- The decimal between the bounds of a range is that of its parts.
use Rattle.std.proofs.Common.{◌≡◌, inl, inr, ℕ, ◌<◌, ◌≤◌, ℤ, pos, negsuc, neg_ℤ, Option, Some, None}
use Rattle.std.proofs.Common.{Bool, true, false, not, IsTrue, refl, sym, ap, ◌∙◌, arith, if◌then◌else◌}
use Rattle.std.proofs.Common.{unsigned_abs, true≢false}
use Rattle.std.specs.Prelude.{int_lt, int_le, ◌+ℤ◌, ◌-ℤ◌, ◌&&◌}
use Rattle.std.proofs.lemmas.Int.{ints}
use Rattle.cat_num.specs.Frac.{Fraction, lowest}
use Rattle.cat_region.specs.declared.cut.Threshold.TheVariants as threshold
use Rattle.cat_region.specs.declared.extent.Range.{Range}
use Rattle.cat_region.specs.Points.{is_bound}
use Rattle.cat_region.specs.Extents.{place, farthest}
use Rattle.cat_region.specs.Chosen.{is_even, inner_parts, outer_parts}
use Rattle.cat_region.specs.Choices.{plus, middle, between}
use Rattle.cat_region.proofs.ExtentLemmas.{lies}
use Rattle.cat_region.proofs.PartLemmas.{place-bound, one-more, one-less, not-below, lies_in}
use Rattle.cat_region.proofs.BoundLemmas.{IsUpper, IsLower}
use Rattle.cat_region.proofs.BoundLemmas.{even-place, odd-over, odd-under}
use Rattle.cat_region.proofs.ValueLemmas.{value-place, value-over, value-under, value-middle}

outer-low : (r : Range) → is_even r.low ≡ true → outer_parts r ≡ (r.low, 2_000_000_000)
outer-low r h = rw h refl

outer-high : (r : Range) → is_even r.low ≡ false → is_even r.high ≡ true → outer_parts r ≡ (r.high, 2_000_000_000)
outer-high r h k = rw (h, k) refl

outer-inner : (r : Range) → is_even r.low ≡ false → is_even r.high ≡ false → outer_parts r ≡ inner_parts r
outer-inner r h k = rw (h, k) refl

inner-middle : (r : Range) → int_lt r.high (pos farthest) ≡ true → int_lt (neg_ℤ (pos farthest)) r.low ≡ true
    → inner_parts r ≡ (r.low +ℤ r.high, 4_000_000_000)
inner-middle r h k = rw (h, k) refl

inner-under : (r : Range) → int_lt r.high (pos farthest) ≡ true → int_lt (neg_ℤ (pos farthest)) r.low ≡ false
    → inner_parts r ≡ (r.high -ℤ pos 1_999_999_999, 2_000_000_000)
inner-under r h k = rw (h, k) refl

inner-over : (r : Range) → int_lt r.high (pos farthest) ≡ false
    → inner_parts r ≡ (r.low +ℤ pos 1_999_999_999, 2_000_000_000)
inner-over r h = rw h refl

-- the fraction of two parts
abbrev pub lowest_of : (ℤ × ℕ) → Fraction
lowest_of x = lowest x.0 x.1

same_is_not_less : (n : ℤ) → int_lt n n ≡ false
same_is_not_less n = grind (arith, ints)

below-lies : (n : ℤ) (r : Range) → int_lt n r.low ≡ true → lies n r ≡ false
below-lies n r h = rw h refl

above-lies : (n : ℤ) (r : Range) → int_lt r.high n ≡ true → lies n r ≡ false
above-lies n r h = ap (λ b. not (int_lt n r.low) && not b) h ∙ nothing (not (int_lt n r.low))
  where
    nothing : (b : Bool) → (b && false) ≡ false
    nothing true = refl
    nothing false = refl

next-above : (n p : ℤ) → n ≡ p +ℤ pos 1 → int_lt p n ≡ true
next-above n p e = grind (arith, ints)

next-below : (n p : ℤ) → n ≡ p -ℤ pos 1 → int_lt n p ≡ true
next-below n p e = grind (arith, ints)

less-than : (n : ℤ) (m f : ℕ) → unsigned_abs n ≤ m → m < f → int_lt n (pos f) ≡ true
less-than (pos k) m f h l = grind (arith, ints)
less-than (negsuc k) m f h l = refl

more-than : (n : ℤ) (m f : ℕ) → unsigned_abs n ≤ m → m < f → int_lt (neg_ℤ (pos f)) n ≡ true
more-than n m f h l = more n m f (not-below n m h) l
  where
    more : (n : ℤ) (m f : ℕ) → int_lt n (neg_ℤ (pos m)) ≡ false → m < f → int_lt (neg_ℤ (pos f)) n ≡ true
    more n m f e l = grind (arith, ints)

-- an end next to a bound is within the outermost ranks
upper-inner : (b : Fraction) (n : ℤ) → IsTrue (is_bound b) → n ≡ place (threshold.Decimal b) -ℤ pos 1
    → int_lt n (pos farthest) ≡ true
upper-inner b n h e =
    less-than n 2_000_000_000_000_000_001 farthest
    (omega (arith, ap unsigned_abs e, one-less (place (threshold.Decimal b)), place-bound b h)) (omega arith)

lower-inner : (a : Fraction) (n : ℤ) → IsTrue (is_bound a) → n ≡ place (threshold.Decimal a) +ℤ pos 1
    → int_lt (neg_ℤ (pos farthest)) n ≡ true
lower-inner a n h e =
    more-than n 2_000_000_000_000_000_001 farthest
    (omega (arith, ap unsigned_abs e, one-more (place (threshold.Decimal a)), place-bound a h)) (omega arith)

-- which bounds a test admits
abbrev pub TellsPlaces : (Fraction → Bool) → Range → Type 0
TellsPlaces admitted r = (c : Fraction) → IsTrue (is_bound c) → admitted c ≡ lies (place (threshold.Decimal c)) r

-- of a range without 0 the fraction between its bounds is that of its parts
pub chosen-between : (r : Range) (admitted : Fraction → Bool) → TellsPlaces admitted r → int_lt r.high r.low ≡ false
    → (int_le r.low (pos 0) && int_le (pos 0) r.high) ≡ false → (l u : Option Fraction) → IsLower l r.low
    → IsUpper u r.high
    → lowest_of (outer_parts r) ≡ between admitted l u
chosen-between r admitted tells some apart l u lower upper = by l u lower upper
  where
    low-in : (a : Fraction) → IsTrue (is_bound a) → r.low ≡ place (threshold.Decimal a) → admitted a ≡ true
    low-in a h e = tells a h ∙ ap (λ n. lies n r) (sym e) ∙ lies_in r.low r (same_is_not_less r.low) some

    low-out : (a : Fraction) → IsTrue (is_bound a) → r.low ≡ place (threshold.Decimal a) +ℤ pos 1 → admitted a ≡ false
    low-out a h e =
        tells a h ∙ below-lies (place (threshold.Decimal a)) r (next-above r.low (place (threshold.Decimal a)) e)

    high-in : (b : Fraction) → IsTrue (is_bound b) → r.high ≡ place (threshold.Decimal b) → admitted b ≡ true
    high-in b h e = tells b h ∙ ap (λ n. lies n r) (sym e) ∙ lies_in r.high r some (same_is_not_less r.high)

    high-out : (b : Fraction) → IsTrue (is_bound b) → r.high ≡ place (threshold.Decimal b) -ℤ pos 1 → admitted b ≡ false
    high-out b h e = tells b h ∙ above-lies (place (threshold.Decimal b)) r
        (next-below r.high (place (threshold.Decimal b)) e)

    even : (c : Fraction) (n : ℤ) → IsTrue (is_bound c) → n ≡ place (threshold.Decimal c) → is_even n ≡ true
    even c n h e = ap is_even e ∙ even-place c h

    odd-low : (a : Fraction) → IsTrue (is_bound a) → r.low ≡ place (threshold.Decimal a) +ℤ pos 1
        → is_even r.low ≡ false
    odd-low a h e = ap is_even e ∙ odd-over (place (threshold.Decimal a)) (even-place a h)

    odd-high : (b : Fraction) → IsTrue (is_bound b) → r.high ≡ place (threshold.Decimal b) -ℤ pos 1
        → is_even r.high ≡ false
    odd-high b h e = ap is_even e ∙ odd-under (place (threshold.Decimal b)) (even-place b h)

    by_upper : (b : Fraction) → IsUpper (Some b) r.high → r.low ≡ neg_ℤ (pos farthest)
        → lowest_of (outer_parts r) ≡ (if admitted b then b else plus b (negsuc 0))
    by_upper b (h, inl f) e = ap lowest_of (outer-high r (ap is_even e) (even b r.high h f)) ∙ value-place b r.high h f
        ∙ sym (rw (high-in b h f) refl)
    by_upper b (h, inr f) e =
        ap lowest_of (outer-inner r (ap is_even e) (odd-high b h f)
        ∙ inner-under r (upper-inner b r.high h f) (ap (int_lt (neg_ℤ (pos farthest))) e))
        ∙ value-under b r.high h f ∙ sym (rw (high-out b h f) refl)

    by_both : (a b : Fraction) → IsTrue (is_bound a) → r.low ≡ place (threshold.Decimal a) +ℤ pos 1
        → IsUpper (Some b) r.high
        → lowest_of (outer_parts r) ≡ (if admitted b then b else middle a b)
    by_both a b g e (h, inl f) = ap lowest_of (outer-high r (odd-low a g e) (even b r.high h f))
        ∙ value-place b r.high h f ∙ sym (rw (high-in b h f) refl)
    by_both a b g e (h, inr f) =
        ap lowest_of (outer-inner r (odd-low a g e) (odd-high b h f)
        ∙ inner-middle r (upper-inner b r.high h f) (lower-inner a r.low g e))
        ∙ value-middle a b r.low r.high g h e f ∙ sym (rw (high-out b h f) refl)

    by : (l u : Option Fraction) → IsLower l r.low → IsUpper u r.high → lowest_of (outer_parts r) ≡ between admitted l u
    by None None e f =
        absurd (true≢false (sym (ap (λ n. int_le n (pos 0) && int_le (pos 0) r.high) e
        ∙ ap (λ n. int_le (neg_ℤ (pos farthest)) (pos 0) && int_le (pos 0) n) f) ∙ apart))
    by None (Some b) e upper = by_upper b upper e
    by (Some a) None (g, inl e) f = ap lowest_of (outer-low r (even a r.low g e)) ∙ value-place a r.low g e
        ∙ sym (rw (low-in a g e) refl)
    by (Some a) None (g, inr e) f =
        ap lowest_of (outer-inner r (odd-low a g e) (ap is_even f) ∙ inner-over r (ap (λ n. int_lt n (pos farthest)) f))
        ∙ value-over a r.low g e ∙ sym (rw (low-out a g e) refl)
    by (Some a) (Some b) (g, inl e) upper = ap lowest_of (outer-low r (even a r.low g e)) ∙ value-place a r.low g e
        ∙ sym (rw (low-in a g e) refl)
    by (Some a) (Some b) (g, inr e) upper = by_both a b g e upper ∙ sym (rw (low-out a g e) refl)
