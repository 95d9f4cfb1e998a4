-- What is left of a dimension, where it isn't empty, has its point.
use Rattle.std.proofs.Common.{◌≡◌, inl, inr, ℕ, zero, suc, ◌+◌, ◌*◌, ◌/◌, ◌%◌, ◌^◌, ◌<◌, ◌≤◌, ◌==◌, ℤ, pos, negsuc}
use Rattle.std.proofs.Common.{neg_ℤ, Bool, true, false, not, IsTrue, refl, sym, ap, ◌∙◌, arith, if◌then◌else◌}
use Rattle.std.proofs.Common.{unsigned_abs, true≢false, Ok}
use Rattle.std.specs.Prelude.{int_lt, int_le, ◌+ℤ◌, ◌-ℤ◌, ◌&&◌, nat_le, nat_lt}
use Rattle.std.specs.Int.{bit_at, int_min, int_max, trailing_zeros}
use mir.Syntax.{w128}
use Rattle.std.proofs.lemmas.Int.{ints}
use Rattle.std.proofs.lemmas.Nat.Bits.{bit_at-trailing_zeros, bit_at_above}
use Rattle.std.proofs.Math.Nat.{div-add-mod, mod-lt, div-le_self, le_trans}
use Rattle.std.proofs.Math.Pow.{pow_mono}
use Rattle.cat_num.specs.Whole.{largest, fits}
use Rattle.cat_num.specs.Frac.{lowest, is_negative, signed, frac_of}
use Rattle.cat_num.proofs.Exported.{ratio-fits}
use Rattle.cat_date.specs.Calendar.{first_day, last_day, is_day}
use Rattle.cat_region.specs.declared.dim.Dim.{Dim}
use Rattle.cat_region.specs.declared.dim.Dim.TheVariants as dim
use Rattle.cat_region.specs.declared.point.Point.TheVariants as point
use Rattle.cat_region.specs.declared.extent.Range.{Range}
use Rattle.cat_region.specs.declared.extent.Extent.{Extent}
use Rattle.cat_region.specs.declared.extent.Extent.TheVariants.{Ranks, Cases}
use Rattle.cat_region.specs.Points.{is_point}
use Rattle.cat_region.specs.Regions.{is_dim}
use Rattle.cat_region.specs.Extents.{rank, is_none, farthest}
use Rattle.cat_region.specs.Chosen.{point_in, nearest, is_even, inner_parts, outer_parts, decimal_parts}
use Rattle.cat_region.proofs.Tests.{le_is, le_of, not_lt_of, positive_of}
use Rattle.cat_region.proofs.ExtentLemmas.{has, lies, is_in}
use Rattle.cat_region.proofs.LowestLemmas.{rank-halves, rank-lowest, is_reduced-lowest}
use Rattle.cat_region.specs.inside.Parts.{IsWithin, IsEnd, IsPart}
use Rattle.cat_region.proofs.PartLemmas.{lies_in, not-below, not-above}

-- the number of a range nearest to 0 lies in it
nearest-low : (l h : ℤ) → int_lt (int_max l (int_min h (pos 0))) l ≡ false
nearest-low l h = grind (arith, ints)

nearest-high : (l h : ℤ) → int_lt h l ≡ false → int_lt h (int_max l (int_min h (pos 0))) ≡ false
nearest-high l h e = grind (arith, ints)

above : (a b c : ℤ) → int_lt b a ≡ false → int_lt c b ≡ false → int_lt c a ≡ false
above a b c h k = grind (arith, ints)

-- a number between two opposite ones is no larger
pub sized : (n : ℤ) (m : ℕ) → int_lt n (neg_ℤ (pos m)) ≡ false → int_lt (pos m) n ≡ false → unsigned_abs n ≤ m
sized (pos k) m h e = grind (arith, ints)
sized (negsuc k) m h e = grind (arith, ints)

fits-sized : (n : ℤ) → unsigned_abs n ≤ largest → fits n ≡ true
fits-sized n h = le_is (unsigned_abs n) largest h

nearest-point : (r : Range) → IsWithin (neg_ℤ (pos largest)) (pos largest) r → int_lt r.high r.low ≡ false
    → (fits (nearest r) ≡ true) × (lies (nearest r) r ≡ true)
nearest-point r p some =
    let low = nearest-low r.low r.high in
    let high = nearest-high r.low r.high some in (
      fits-sized (nearest r) (sized (nearest r) largest (above (neg_ℤ (pos largest)) r.low (nearest r) p.0 low)
          (above (nearest r) r.high (pos largest) high p.1)),
      lies_in (nearest r) r low high,
    )

day-point : (r : Range) → IsWithin first_day last_day r → int_lt r.high r.low ≡ false → (is_day r.low ≡ true)
    × (lies r.low r ≡ true)
day-point r p some = (days r.low r.high p.0 p.1 some, lies_in r.low r (same r.low) some)
  where
    same : (n : ℤ) → int_lt n n ≡ false
    same n = grind (arith, ints)

    days : (l h : ℤ) → int_lt l first_day ≡ false → int_lt last_day h ≡ false → int_lt h l ≡ false
        → (int_le first_day l && int_le l last_day) ≡ true
    days l h a b c = grind (arith, ints)

truth-point : (r : Range) → IsWithin (pos 0) (pos 1) r → int_lt r.high r.low ≡ false
    → lies (rank (point.Truth (int_lt (pos 0) r.low))) r ≡ true
unfolding rank
truth-point r p some = by (int_lt (pos 0) r.low) refl
  where
    by : (b : Bool) → int_lt (pos 0) r.low ≡ b → lies (rank (point.Truth b)) r ≡ true
    by true e = lies_in (pos 1) r (one r.low r.high p.1 some) (first r.low r.high e some)
      where
        one : (l h : ℤ) → int_lt (pos 1) h ≡ false → int_lt h l ≡ false → int_lt (pos 1) l ≡ false
        one l h a b = grind (arith, ints)

        first : (l h : ℤ) → int_lt (pos 0) l ≡ true → int_lt h l ≡ false → int_lt h (pos 1) ≡ false
        first l h a b = grind (arith, ints)
    by false e = lies_in (pos 0) r e (above (pos 0) r.low r.high p.0 some)

case-point : (n set : ℕ) → nat_le n 128 ≡ true → set < 2 ^ n → (set == 0) ≡ false
    → (nat_lt (trailing_zeros w128 set) n ≡ true) × (has set (trailing_zeros w128 set) ≡ true)
case-point n set few p some = (by (nat_lt t n) refl, ap (λ (k : ℕ). k == 1) facts.1)
  where
    t : ℕ
    t = trailing_zeros w128 set

    facts : (t < 128) × (bit_at set t ≡ 1) × ((i : ℕ) → i < t → bit_at set i ≡ 0)
    facts = bit_at-trailing_zeros w128 set (positive_of set some)
        (omega (arith, p, pow_mono {i = n} {j = 128} (le_of n 128 few)))

    by : (b : Bool) → nat_lt t n ≡ b → nat_lt t n ≡ true
    by true e = e
    by false e = absurd (omega (arith, facts.1, bit_at_above set n t p (not_lt_of t n e)))

signed_parts : (n : ℤ) → signed (is_negative n) (unsigned_abs n) ≡ n
signed_parts (pos n) = refl
signed_parts (negsuc n) = refl

-- so many half units have this rank
pub rank-half : (n : ℤ) → rank (point.Decimal (lowest n 2_000_000_000)) ≡ n
rank-half n =
    ap (λ (m : ℤ). rank (point.Decimal (lowest m 2_000_000_000)))
    (sym (signed_parts n) ∙ ap (signed (is_negative n)) (omega arith))
    ∙ rank-halves (is_negative n) 1 (unsigned_abs n) (omega arith) ∙ signed_parts n

doubled : (m : ℤ) → m +ℤ m ≡ signed (is_negative m) (2 * unsigned_abs m)
doubled (pos k) = omega (arith, ints)
doubled (negsuc k) = omega (arith, ints)

pub rank-middle : (n m : ℤ) → n ≡ m +ℤ m → rank (point.Decimal (lowest n 4_000_000_000)) ≡ m
rank-middle n m e =
    ap (λ (k : ℤ). rank (point.Decimal (lowest k 4_000_000_000))) (e ∙ doubled m)
    ∙ rank-halves (is_negative m) 2 (unsigned_abs m) (omega arith) ∙ signed_parts m

rest : (k : ℕ) → (k % 2 == 0) ≡ false → k % 2 ≡ 1
rest k e = by (k % 2) (mod-lt k (omega arith)) e
  where
    by : (r : ℕ) → r < 2 → (r == 0) ≡ false → r ≡ 1
    by zero h e = absurd (true≢false e)
    by (suc zero) h e = refl
    by (suc (suc r)) h e = absurd (omega arith)

-- an odd number is one more than twice another
odd-half : (n : ℤ) → is_even n ≡ false → (q : ℤ) × (n ≡ q +ℤ q +ℤ pos 1)
odd-half (pos k) e = (pos (k / 2), half (k / 2) (omega (arith, div-add-mod k 2, rest k e)))
  where
    half : (j : ℕ) → k ≡ 2 * j + 1 → pos k ≡ pos j +ℤ pos j +ℤ pos 1
    half j h = omega (arith, ints)
odd-half (negsuc k) e = (negsuc (suc k / 2), half (suc k / 2) (omega (arith, div-add-mod (suc k) 2, rest (suc k) e)))
  where
    half : (j : ℕ) → suc k ≡ 2 * j + 1 → negsuc k ≡ negsuc j +ℤ negsuc j +ℤ pos 1
    half j h = omega (arith, ints)

-- a decimal of a range: its parts fit, and it lies in the range
abbrev pub IsGood : Range → (ℤ × ℕ) → Type 0
IsGood r x = (unsigned_abs x.0 ≤ largest) × (0 < x.1) × (x.1 ≤ largest)
    × (lies (rank (point.Decimal (lowest x.0 x.1))) r ≡ true)

good-half : (r : Range) (n : ℤ) → unsigned_abs n ≤ largest → lies n r ≡ true → IsGood r (n, 2_000_000_000)
good-half r n h k = (h, omega arith, omega arith, ap (λ (m : ℤ). lies m r) (rank-half n) ∙ k)

good-zero : (r : Range) → (int_le r.low (pos 0) && int_le (pos 0) r.high) ≡ true → IsGood r (pos 0, 1)
good-zero r h = (
  omega arith,
  omega arith,
  omega arith,
  ap (λ n. lies n r) (rank-lowest (pos 0) 1 (omega arith))
      ∙ zero_lies r.low r.high h,
)
  where
    zero_lies : (l h : ℤ) → (int_le l (pos 0) && int_le (pos 0) h) ≡ true
        → (not (int_lt (pos 0) l) && not (int_lt h (pos 0))) ≡ true
    zero_lies l h e = grind (arith, ints)

same_is_not_less : (n : ℤ) → int_lt n n ≡ false
same_is_not_less n = grind (arith, ints)

-- an end that is admitted is no outermost rank
even-end : (outer n : ℤ) → IsEnd outer n → is_even outer ≡ false → is_even n ≡ true → unsigned_abs n ≤ largest
even-end outer n (inl e) h k = absurd (true≢false (sym k ∙ ap is_even e ∙ h))
even-end outer n (inr e) h k = omega arith

-- an end within the outermost ranks is next to a bound
inner-low : (n : ℤ) → IsEnd (neg_ℤ (pos farthest)) n → int_lt (neg_ℤ (pos farthest)) n ≡ true
    → unsigned_abs n ≤ 2_000_000_000_000_000_001
inner-low n (inl e) h = absurd (true≢false (sym h ∙ ap (int_lt (neg_ℤ (pos farthest))) e))
inner-low n (inr e) h = e

inner-high : (n : ℤ) → IsEnd (pos farthest) n → int_lt n (pos farthest) ≡ true
    → unsigned_abs n ≤ 2_000_000_000_000_000_001
inner-high n (inl e) h = absurd (true≢false (sym h ∙ ap (λ m. int_lt m (pos farthest)) e))
inner-high n (inr e) h = e

pub sum-sized : (a b : ℤ) (m k : ℕ) → unsigned_abs a ≤ m → unsigned_abs b ≤ k → unsigned_abs (a +ℤ b) ≤ m + k
sum-sized a b m k h l =
    sized (a +ℤ b) (m + k) (below a b m k (not-below a m h) (not-below b k l))
    (over a b m k (not-above a m h) (not-above b k l))
  where
    below : (a b : ℤ) (m k : ℕ) → int_lt a (neg_ℤ (pos m)) ≡ false → int_lt b (neg_ℤ (pos k)) ≡ false
        → int_lt (a +ℤ b) (neg_ℤ (pos (m + k))) ≡ false
    below a b m k h l = grind (arith, ints)

    over : (a b : ℤ) (m k : ℕ) → int_lt (pos m) a ≡ false → int_lt (pos k) b ≡ false
        → int_lt (pos (m + k)) (a +ℤ b) ≡ false
    over a b m k h l = grind (arith, ints)

-- the middle of two odd ranks lies between them
middle-of : (l h : ℤ) → is_even l ≡ false → is_even h ≡ false → int_lt h l ≡ false → (m : ℤ) × (l +ℤ h ≡ m +ℤ m)
    × (int_lt m l ≡ false) × (int_lt h m ≡ false)
middle-of l h odd_low odd_high some = from (odd-half l odd_low) (odd-half h odd_high)
  where
    from : ((p : ℤ) × (l ≡ p +ℤ p +ℤ pos 1)) → ((q : ℤ) × (h ≡ q +ℤ q +ℤ pos 1)) → (m : ℤ) × (l +ℤ h ≡ m +ℤ m)
        × (int_lt m l ≡ false) × (int_lt h m ≡ false)
    from (p, e) (q, f) = (p +ℤ q +ℤ pos 1, sum p q e f, low p q e f some, high p q e f some)
      where
        sum : (p q : ℤ) → l ≡ p +ℤ p +ℤ pos 1 → h ≡ q +ℤ q +ℤ pos 1 → l +ℤ h ≡ p +ℤ q +ℤ pos 1 +ℤ (p +ℤ q +ℤ pos 1)
        sum p q e f = omega (arith, ints)

        low : (p q : ℤ) → l ≡ p +ℤ p +ℤ pos 1 → h ≡ q +ℤ q +ℤ pos 1 → int_lt h l ≡ false
            → int_lt (p +ℤ q +ℤ pos 1) l ≡ false
        low p q e f k = grind (arith, ints)

        high : (p q : ℤ) → l ≡ p +ℤ p +ℤ pos 1 → h ≡ q +ℤ q +ℤ pos 1 → int_lt h l ≡ false
            → int_lt h (p +ℤ q +ℤ pos 1) ≡ false
        high p q e f k = grind (arith, ints)

good-middle : (r : Range) → is_even r.low ≡ false → is_even r.high ≡ false → int_lt r.high r.low ≡ false
    → unsigned_abs r.low ≤ 2_000_000_000_000_000_001 → unsigned_abs r.high ≤ 2_000_000_000_000_000_001
    → IsGood r (r.low +ℤ r.high, 4_000_000_000)
good-middle r odd_low odd_high some low high =
    let m = middle-of r.low r.high odd_low odd_high some in
    let sum = sum-sized r.low r.high 2_000_000_000_000_000_001 2_000_000_000_000_000_001 low high in (
      omega arith,
      omega arith,
      omega arith,
      ap (λ n. lies n r) (rank-middle (r.low +ℤ r.high) m.0 m.1)
          ∙ lies_in m.0 r m.2 m.3,
    )

good-under : (r : Range) → int_lt (neg_ℤ (pos farthest)) r.low ≡ false → unsigned_abs r.high ≤ 2_000_000_000_000_000_001
    → IsGood r (r.high -ℤ pos 1_999_999_999, 2_000_000_000)
good-under r e h =
    let sum = sum-sized r.high (neg_ℤ (pos 1_999_999_999)) 2_000_000_000_000_000_001 1_999_999_999 h (omega arith) in
    good-half r (r.high -ℤ pos 1_999_999_999) (omega arith)
    (lies_in (r.high -ℤ pos 1_999_999_999) r
    (inside r.high r.low 2_000_000_000_000_000_001 1_999_999_999 farthest (not-below r.high 2_000_000_000_000_000_001 h)
    e (omega arith)) (less r.high 1_999_999_999))
  where
    inside : (h l : ℤ) (s c f : ℕ) → int_lt h (neg_ℤ (pos s)) ≡ false → int_lt (neg_ℤ (pos f)) l ≡ false → s + c ≤ f
        → int_lt (h -ℤ pos c) l ≡ false
    inside h l s c f a b k = grind (arith, ints)

    less : (h : ℤ) (c : ℕ) → int_lt h (h -ℤ pos c) ≡ false
    less h c = grind (arith, ints)

good-over : (r : Range) → int_lt r.high (pos farthest) ≡ false → unsigned_abs r.low ≤ 2_000_000_000_000_000_001
    → IsGood r (r.low +ℤ pos 1_999_999_999, 2_000_000_000)
good-over r e h =
    let sum = sum-sized r.low (pos 1_999_999_999) 2_000_000_000_000_000_001 1_999_999_999 h (omega arith) in
    good-half r (r.low +ℤ pos 1_999_999_999) (omega arith)
    (lies_in (r.low +ℤ pos 1_999_999_999) r (more r.low 1_999_999_999)
    (inside r.high r.low 2_000_000_000_000_000_001 1_999_999_999 farthest (not-above r.low 2_000_000_000_000_000_001 h)
    e (omega arith)))
  where
    inside : (h l : ℤ) (s c f : ℕ) → int_lt (pos s) l ≡ false → int_lt h (pos f) ≡ false → s + c ≤ f
        → int_lt h (l +ℤ pos c) ≡ false
    inside h l s c f a b k = grind (arith, ints)

    more : (l : ℤ) (c : ℕ) → int_lt (l +ℤ pos c) l ≡ false
    more l c = grind (arith, ints)

good-inner : (r : Range) → IsEnd (neg_ℤ (pos farthest)) r.low → IsEnd (pos farthest) r.high
    → int_lt r.high r.low ≡ false
    → is_even r.low ≡ false → is_even r.high ≡ false → (int_le r.low (pos 0) && int_le (pos 0) r.high) ≡ false
    → IsGood r (inner_parts r)
good-inner r p q some odd_low odd_high apart = by_high (int_lt r.high (pos farthest)) refl
  where
    by_low : (b : Bool) → int_lt (neg_ℤ (pos farthest)) r.low ≡ b → int_lt r.high (pos farthest) ≡ true
        → IsGood r (if b then (r.low +ℤ r.high, 4_000_000_000) else (r.high -ℤ pos 1_999_999_999, 2_000_000_000))
    by_low true e f = good-middle r odd_low odd_high some (inner-low r.low p e) (inner-high r.high q f)
    by_low false e f = good-under r e (inner-high r.high q f)

    unbounded : (b : Bool) → int_lt (neg_ℤ (pos farthest)) r.low ≡ b → int_lt r.high (pos farthest) ≡ false
        → unsigned_abs r.low ≤ 2_000_000_000_000_000_001
    unbounded true e f = inner-low r.low p e
    unbounded false e f = absurd (true≢false (sym (zero_in r.low r.high farthest e f) ∙ apart))
      where
        zero_in : (l h : ℤ) (m : ℕ) → int_lt (neg_ℤ (pos m)) l ≡ false → int_lt h (pos m) ≡ false
            → (int_le l (pos 0) && int_le (pos 0) h) ≡ true
        zero_in l h m a b = grind (arith, ints)

    by_high : (b : Bool) → int_lt r.high (pos farthest) ≡ b
        → IsGood r (if b then (if int_lt (neg_ℤ (pos farthest)) r.low then (r.low +ℤ r.high, 4_000_000_000)
        else (r.high -ℤ pos 1_999_999_999, 2_000_000_000)) else (r.low +ℤ pos 1_999_999_999, 2_000_000_000))
    by_high true e = by_low (int_lt (neg_ℤ (pos farthest)) r.low) refl e
    by_high false e = good-over r e (unbounded (int_lt (neg_ℤ (pos farthest)) r.low) refl e)

pub good-decimal : (r : Range) → IsEnd (neg_ℤ (pos farthest)) r.low → IsEnd (pos farthest) r.high
    → int_lt r.high r.low ≡ false → IsGood r (decimal_parts r)
good-decimal r p q some = by_zero (int_le r.low (pos 0) && int_le (pos 0) r.high) refl
  where
    by_high : (b : Bool) → is_even r.high ≡ b → is_even r.low ≡ false
        → (int_le r.low (pos 0) && int_le (pos 0) r.high) ≡ false
        → IsGood r (if b then (r.high, 2_000_000_000) else inner_parts r)
    by_high true e odd_low apart = good-half r r.high (even-end (pos farthest) r.high q refl e)
        (lies_in r.high r some (same_is_not_less r.high))
    by_high false e odd_low apart = good-inner r p q some odd_low e apart

    by_low : (b : Bool) → is_even r.low ≡ b → (int_le r.low (pos 0) && int_le (pos 0) r.high) ≡ false
        → IsGood r (if b then (r.low, 2_000_000_000)
        else (if is_even r.high then (r.high, 2_000_000_000) else inner_parts r))
    by_low true e apart = good-half r r.low (even-end (neg_ℤ (pos farthest)) r.low p refl e)
        (lies_in r.low r (same_is_not_less r.low) some)
    by_low false e apart = by_high (is_even r.high) refl e apart

    by_zero : (b : Bool) → (int_le r.low (pos 0) && int_le (pos 0) r.high) ≡ b
        → IsGood r (if b then (pos 0, 1) else outer_parts r)
    by_zero true e = good-zero r e
    by_zero false e = by_low (is_even r.low) refl e

-- where something is left, the point is one of the dimension and is left
pub point_in-part : (d : Dim) (e : Extent) → IsTrue (is_dim d) → IsPart d e → is_none e ≡ false
    → (is_point d (point_in d e) ≡ true) × (is_in e (point_in d e) ≡ true)
unfolding rank
point_in-part dim.Whole (Ranks r) few p some = nearest-point r p some
point_in-part dim.Money (Ranks r) few p some = nearest-point r p some
point_in-part dim.Day (Ranks r) few p some = day-point r p some
point_in-part dim.Decimal (Ranks r) few p some =
    let good = good-decimal r p.0 p.1 some in
    (is_reduced-lowest (decimal_parts r).0 (decimal_parts r).1 good.1 good.0 good.2, good.3)
point_in-part dim.Truth (Ranks r) few p some = (refl, truth-point r p some)
point_in-part (dim.Cases n) (Cases set) few p some = case-point n set few p some
point_in-part (dim.Cases n) (Ranks r) few p some = absurd p
point_in-part d (Cases set) few p some = absurd p

-- a fraction whose parts fit is made
pub frac_of-fits : (n : ℤ) (d : ℕ) → unsigned_abs n ≤ largest → 0 < d → d ≤ largest
    → frac_of n (pos d) ≡ Ok (lowest n d)
frac_of-fits n d h p k = ratio-fits n d p (le_trans (div-le_self (unsigned_abs n) _) h) (le_trans (div-le_self d _) k)
