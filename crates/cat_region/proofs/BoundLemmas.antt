-- The ends of what is left of a decimal dimension are its closest bounds.
use Rattle.std.proofs.Common.{◌≡◌, ◌⊎◌, inl, inr, ℕ, zero, suc, ◌+◌, ◌*◌, ◌/◌, ◌%◌, ◌<◌, ◌≤◌, ◌==◌, ℤ, pos, negsuc}
use Rattle.std.proofs.Common.{◌*ℤ◌, neg_ℤ, List, [], ◌∷◌, Option, Some, None}
use Rattle.std.proofs.Common.{Bool, true, false, IsTrue, refl, sym, ap, ◌∙◌, subst, arith, if◌then◌else◌}
use Rattle.std.proofs.Common.{unsigned_abs, true≢false}
use Rattle.std.specs.Prelude.{int_lt, ◌+ℤ◌, ◌-ℤ◌}
use Rattle.std.specs.Int.{int_min, int_max}
use Rattle.std.specs.List.{list_all}
use Rattle.std.specs.Ordering.{is_lt}
use Rattle.std.specs.declared.cmp.Ordering.TheVariants.{Equal}
use Rattle.std.specs.Cmp.{int_cmp_is}
use Rattle.std.proofs.lemmas.Cmp.{int_ranked}
use Rattle.std.proofs.Math.Bool.{beq}
use Rattle.std.proofs.lemmas.Int.{ints, unsigned_abs-mul}
use Rattle.std.proofs.Math.Nat.{mul-mod_left, div-add-mod, mod-lt}
use Rattle.cat_num.specs.Frac.{Fraction, frac_order}
use Rattle.cat_region.specs.declared.dim.Dim.{Dim}
use Rattle.cat_region.specs.declared.dim.Dim.TheVariants as dim
use Rattle.cat_region.specs.declared.cut.Threshold.TheVariants as threshold
use Rattle.cat_region.specs.declared.cut.Cut.{Cut}
use Rattle.cat_region.specs.declared.cut.Cut.TheVariants as cut
use Rattle.cat_region.specs.declared.point.Point.TheVariants as point
use Rattle.cat_region.specs.declared.extent.Extent.{Extent}
use Rattle.cat_region.specs.declared.extent.Extent.TheVariants.{Ranks, Cases}
use Rattle.cat_region.specs.declared.narrowing.Narrowing.{Narrowing}
use Rattle.cat_region.specs.Points.{is_cut, is_bound}
use Rattle.cat_region.specs.Regions.{is_cut_at}
use Rattle.cat_region.specs.Extents.{rank, place, narrowed, after_one, after, start, farthest}
use Rattle.cat_region.specs.Chosen.{is_even}
use Rattle.cat_region.specs.Choices.{decimal_of, bound_of, closer, closest}
use Rattle.cat_region.proofs.Tests.{eq_of, positive_is, and-parts}
use Rattle.cat_region.proofs.RankLemmas.{double, bound_parts, positive_den, point_order-ranks, is_lt-int_cmp}
use Rattle.cat_region.proofs.PartLemmas.{place-bound, one-more, one-less, not-above, not-below}
use Rattle.cat_region.proofs.AdmitLemmas.{IsAt, AreCuts, cut_of}

-- a bound is its own place
pub rank-place : (c : Fraction) → IsTrue (is_bound c) → rank (point.Decimal c) ≡ place (threshold.Decimal c)
rank-place c h =
    int_ranked (rank (point.Decimal c)) (place (threshold.Decimal c)) Equal
    (int_cmp_is (c.num *ℤ pos c.den) (c.num *ℤ pos c.den) Equal refl
    ∙ point_order-ranks dim.Decimal (threshold.Decimal c) (point.Decimal c) h (bound_parts c h).0)

-- bounds stand to each other as their places
order-places : (c a : Fraction) → IsTrue (is_bound c) → IsTrue (is_bound a)
    → is_lt (frac_order c a) ≡ int_lt (place (threshold.Decimal c)) (place (threshold.Decimal a))
order-places c a h k =
    ap is_lt (point_order-ranks dim.Decimal (threshold.Decimal a) (point.Decimal c) k (bound_parts c h).0)
    ∙ is_lt-int_cmp (rank (point.Decimal c)) (place (threshold.Decimal a))
    ∙ ap (λ n. int_lt n (place (threshold.Decimal a))) (rank-place c h)

-- the upper end is the least upper bound, or just below it
abbrev pub IsUpper : Option Fraction → ℤ → Type 0
IsUpper None n = n ≡ pos farthest
IsUpper (Some c) n =
    IsTrue (is_bound c) × ((n ≡ place (threshold.Decimal c)) ⊎ (n ≡ place (threshold.Decimal c) -ℤ pos 1))

-- the lower end is the greatest lower bound, or just above it
abbrev pub IsLower : Option Fraction → ℤ → Type 0
IsLower None n = n ≡ neg_ℤ (pos farthest)
IsLower (Some c) n =
    IsTrue (is_bound c) × ((n ≡ place (threshold.Decimal c)) ⊎ (n ≡ place (threshold.Decimal c) +ℤ pos 1))

abbrev pub IsBounded : Option Fraction → Option Fraction → Extent → Type 0
IsBounded lower upper (Ranks r) = IsLower lower r.low × IsUpper upper r.high
IsBounded lower upper (Cases set) = ⊥

min-right : (a b : ℤ) → int_lt a b ≡ false → int_min a b ≡ b
min-right a b h = grind (arith, ints)

min-left : (a b : ℤ) → int_lt b a ≡ false → int_min a b ≡ a
min-left a b h = grind (arith, ints)

max-right : (a b : ℤ) → int_lt b a ≡ false → int_max a b ≡ b
max-right a b h = grind (arith, ints)

max-left : (a b : ℤ) → int_lt a b ≡ false → int_max a b ≡ a
max-left a b h = grind (arith, ints)

-- at a place, or just below it
abbrev pub IsUnder : ℤ → ℤ → Type 0
IsUnder p n = (n ≡ p) ⊎ (n ≡ p -ℤ pos 1)

-- at a place, or just above it
abbrev pub IsOver : ℤ → ℤ → Type 0
IsOver p n = (n ≡ p) ⊎ (n ≡ p +ℤ pos 1)

under-new : (p q h k : ℤ) → IsUnder q h → IsUnder p k → int_lt p q ≡ true → int_lt h k ≡ false
under-new p q h k (inl e) (inl f) l = grind (arith, ints)
under-new p q h k (inl e) (inr f) l = grind (arith, ints)
under-new p q h k (inr e) (inl f) l = grind (arith, ints)
under-new p q h k (inr e) (inr f) l = grind (arith, ints)

under-old : (p q h k : ℤ) → IsUnder q h → IsUnder p k → int_lt p q ≡ false → IsUnder q (int_min h k)
under-old p q h k (inl e) next l = by (int_lt k h) refl next
  where
    by : (b : Bool) → int_lt k h ≡ b → IsUnder p k → IsUnder q (int_min h k)
    by true g (inl f) = absurd (grind (arith, ints))
    by true g (inr f) = inr (min-right h k (grind (arith, ints)) ∙ grind (arith, ints))
    by false g f = inl (min-left h k g ∙ e)
under-old p q h k (inr e) (inl f) l = inr (min-left h k (grind (arith, ints)) ∙ e)
under-old p q h k (inr e) (inr f) l = inr (min-left h k (grind (arith, ints)) ∙ e)

upper-next : (o : Option Fraction) (c : Fraction) (h k : ℤ) → IsTrue (is_bound c) → IsUpper o h
    → IsUnder (place (threshold.Decimal c)) k
    → IsUpper (closer true o (Some c)) (int_min h k)
upper-next None c h k bound is next = (
  bound,
  subst (λ n. IsUnder (place (threshold.Decimal c)) n)
      (sym (min-right h k (far next))) next,
)
  where
    p : ℤ
    p = place (threshold.Decimal c)

    small : IsUnder p k → unsigned_abs k ≤ farthest
    small (inl e) = omega (arith, place-bound c bound, ap unsigned_abs e)
    small (inr e) = omega (arith, place-bound c bound, one-less p, ap unsigned_abs e)

    far : IsUnder p k → int_lt h k ≡ false
    far n = ap (λ m. int_lt m k) is ∙ not-above k farthest (small n)
upper-next (Some a) c h k bound is next =
    subst (λ b. IsUpper (if b then Some c else Some a) (int_min h k)) (sym (order-places c a bound is.0))
    (by (int_lt (place (threshold.Decimal c)) (place (threshold.Decimal a))) refl)
  where
    by : (b : Bool) → int_lt (place (threshold.Decimal c)) (place (threshold.Decimal a)) ≡ b
        → IsUpper (if b then Some c else Some a) (int_min h k)
    by true e = (
      bound,
      subst (λ n. IsUnder (place (threshold.Decimal c)) n)
          (sym (min-right h k
          (under-new (place (threshold.Decimal c)) (place (threshold.Decimal a)) h k is.1 next e))) next,
    )
    by false e = (is.0, under-old (place (threshold.Decimal c)) (place (threshold.Decimal a)) h k is.1 next e)

over-new : (p q l k : ℤ) → IsOver q l → IsOver p k → int_lt q p ≡ true → int_lt k l ≡ false
over-new p q l k (inl e) (inl f) h = grind (arith, ints)
over-new p q l k (inl e) (inr f) h = grind (arith, ints)
over-new p q l k (inr e) (inl f) h = grind (arith, ints)
over-new p q l k (inr e) (inr f) h = grind (arith, ints)

over-old : (p q l k : ℤ) → IsOver q l → IsOver p k → int_lt q p ≡ false → IsOver q (int_max l k)
over-old p q l k (inl e) next h = by (int_lt l k) refl next
  where
    by : (b : Bool) → int_lt l k ≡ b → IsOver p k → IsOver q (int_max l k)
    by true g (inl f) = absurd (grind (arith, ints))
    by true g (inr f) = inr (max-right l k (grind (arith, ints)) ∙ grind (arith, ints))
    by false g f = inl (max-left l k g ∙ e)
over-old p q l k (inr e) (inl f) h = inr (max-left l k (grind (arith, ints)) ∙ e)
over-old p q l k (inr e) (inr f) h = inr (max-left l k (grind (arith, ints)) ∙ e)

lower-next : (o : Option Fraction) (c : Fraction) (l k : ℤ) → IsTrue (is_bound c) → IsLower o l
    → IsOver (place (threshold.Decimal c)) k
    → IsLower (closer false o (Some c)) (int_max l k)
lower-next None c l k bound is next = (
  bound,
  subst (λ n. IsOver (place (threshold.Decimal c)) n)
      (sym (max-right l k (far next))) next,
)
  where
    p : ℤ
    p = place (threshold.Decimal c)

    small : IsOver p k → unsigned_abs k ≤ farthest
    small (inl e) = omega (arith, place-bound c bound, ap unsigned_abs e)
    small (inr e) = omega (arith, place-bound c bound, one-more p, ap unsigned_abs e)

    far : IsOver p k → int_lt k l ≡ false
    far n = ap (λ m. int_lt k m) is ∙ not-below k farthest (small n)
lower-next (Some a) c l k bound is next =
    subst (λ b. IsLower (if b then Some c else Some a) (int_max l k)) (sym (order-places a c is.0 bound))
    (by (int_lt (place (threshold.Decimal a)) (place (threshold.Decimal c))) refl)
  where
    by : (b : Bool) → int_lt (place (threshold.Decimal a)) (place (threshold.Decimal c)) ≡ b
        → IsLower (if b then Some c else Some a) (int_max l k)
    by true e = (
      bound,
      subst (λ n. IsOver (place (threshold.Decimal c)) n)
          (sym (max-right l k
          (over-new (place (threshold.Decimal c)) (place (threshold.Decimal a)) l k is.1 next e))) next,
    )
    by false e = (is.0, over-old (place (threshold.Decimal c)) (place (threshold.Decimal a)) l k is.1 next e)

-- another bound of neither side leaves the closest one
closer-none : (under : Bool) (o : Option Fraction) → closer under o None ≡ o
closer-none under None = refl
closer-none under (Some a) = refl

more-less : (n : ℤ) → n +ℤ pos 1 -ℤ pos 1 ≡ n
more-less n = omega (arith, ints)

-- a narrowing of a decimal dimension by a cut
by_cut : (lower upper : Option Fraction) (e : Extent) (c : Cut) (so : Bool) → IsTrue (is_cut dim.Decimal c)
    → IsBounded lower upper e
    → IsBounded (closer false lower (if beq so false then decimal_of c else None))
    (closer true upper (if beq so true then decimal_of c else None)) (narrowed e c so)
by_cut lower upper (Cases set) c so kind is = absurd is
by_cut lower upper (Ranks r) (cut.Below (threshold.Decimal c)) true kind is = (
  subst (λ o. IsLower o r.low) (sym (closer-none false lower)) is.0,
  upper-next upper c r.high
      (place (threshold.Decimal c) -ℤ pos 1) kind is.1 (inr refl),
)
by_cut lower upper (Ranks r) (cut.AtMost (threshold.Decimal c)) true kind is = (
  subst (λ o. IsLower o r.low) (sym (closer-none false lower)) is.0,
  upper-next upper c r.high (place (threshold.Decimal c) +ℤ pos 1 -ℤ pos 1) kind is.1
      (inl (more-less (place (threshold.Decimal c)))),
)
by_cut lower upper (Ranks r) (cut.Below (threshold.Decimal c)) false kind is = (
  lower-next lower c r.low (place (threshold.Decimal c)) kind is.0 (inl refl),
  subst (λ o. IsUpper o r.high)
      (sym (closer-none true upper)) is.1,
)
by_cut lower upper (Ranks r) (cut.AtMost (threshold.Decimal c)) false kind is = (
  lower-next lower c r.low (place (threshold.Decimal c) +ℤ pos 1) kind is.0 (inr refl),
  subst (λ o. IsUpper o r.high)
      (sym (closer-none true upper)) is.1,
)
by_cut lower upper (Ranks r) c so kind is = absurd (cc)

by_narrowing : (i : ℕ) (lower upper : Option Fraction) (e : Extent) (n : Narrowing)
    → ((n.dim == i) ≡ true → IsTrue (is_cut dim.Decimal n.cut)) → IsBounded lower upper e
    → IsBounded (closer false lower (bound_of false i n)) (closer true upper (bound_of true i n)) (after_one i e n)
by_narrowing i lower upper e n kind is = by (n.dim == i) refl
  where
    by : (b : Bool) → (n.dim == i) ≡ b
        → IsBounded (closer false lower (if b then (if beq n.yes false then decimal_of n.cut else None) else None))
        (closer true upper (if b then (if beq n.yes true then decimal_of n.cut else None) else None))
        (if b then narrowed e n.cut n.yes else e)
    by true h = by_cut lower upper e n.cut n.yes (kind h) is
    by false h = subst (λ o. IsBounded o (closer true upper None) e) (sym (closer-none false lower))
        (subst (λ o. IsBounded lower o e) (sym (closer-none true upper)) is)

-- what narrowings leave has their closest bounds as its ends
pub IsBounded-after : (dims : List Dim) (i : ℕ) (lower upper : Option Fraction) (e : Extent) (ns : List Narrowing)
    → IsAt dims i dim.Decimal → AreCuts dims ns → IsBounded lower upper e
    → IsBounded (closest false i lower ns) (closest true i upper ns) (after i e ns)
unfolding after
IsBounded-after dims i lower upper e [] at cuts is = is
IsBounded-after dims i lower upper e (n ∷ ns) at cuts is =
    let both = and-parts (is_cut_at dims n.dim n.cut) (list_all (λ m. is_cut_at dims m.dim m.cut) ns) cuts in
    IsBounded-after dims i (closer false lower (bound_of false i n)) (closer true upper (bound_of true i n))
    (after_one i e n) ns at both.1
    (by_narrowing i lower upper e n (λ h. cut_of dims i dim.Decimal n at h both.0) is)

pub IsBounded-start : IsBounded None None (start dim.Decimal)
unfolding start
IsBounded-start = (refl, refl)

-- places are even, and their neighbours are odd
pub even-place : (c : Fraction) → IsTrue (is_bound c) → is_even (place (threshold.Decimal c)) ≡ true
even-place c h =
    let parts = bound_parts c h in
    let k = 1_000_000_000 / c.den in
    let half = double c.den k (positive_den c parts.0) parts.1 in
    ap (λ (n : ℕ). n % 2 == 0) (unsigned_abs-mul c.num (pos (2_000_000_000 / c.den))
    ∙ ap (λ (n : ℕ). unsigned_abs c.num * n) half ∙ twice (unsigned_abs c.num) k)
    ∙ ap (λ (n : ℕ). n == 0) (mul-mod_left (unsigned_abs c.num * k) 2)
  where
    twice : (n k : ℕ) → n * (2 * k) ≡ n * k * 2
    twice n k = omega arith

-- of two neighbours one is odd
neighbours : (a b : ℕ) → (a ≡ b + 1) ⊎ (b ≡ a + 1) → (a % 2 == 0) ≡ true → (b % 2 == 0) ≡ false
neighbours a b next h = positive_is (b % 2) (rests (eq_of (a % 2) 0 h) next)
  where
    rests : a % 2 ≡ 0 → (a ≡ b + 1) ⊎ (b ≡ a + 1) → 0 < b % 2
    rests e (inl n) = omega (arith, div-add-mod a 2, div-add-mod b 2, mod-lt b {m = 2} (omega arith))
    rests e (inr n) = omega (arith, div-add-mod a 2, div-add-mod b 2, mod-lt b {m = 2} (omega arith))

pub odd-over : (n : ℤ) → is_even n ≡ true → is_even (n +ℤ pos 1) ≡ false
odd-over (pos a) h = neighbours a (a + 1) (inr refl) h
odd-over (negsuc zero) h = absurd (true≢false (sym h))
odd-over (negsuc (suc a)) h = ap is_even (same a) ∙ neighbours (suc (suc a)) (suc a) (inl (omega arith)) h
  where
    same : (a : ℕ) → negsuc (suc a) +ℤ pos 1 ≡ negsuc a
    same a = omega (arith, ints)

pub odd-under : (n : ℤ) → is_even n ≡ true → is_even (n -ℤ pos 1) ≡ false
odd-under (pos zero) h = refl
odd-under (pos (suc a)) h = ap is_even (same a) ∙ neighbours (suc a) a (inl (omega arith)) h
  where
    same : (a : ℕ) → pos (suc a) -ℤ pos 1 ≡ pos a
    same a = omega (arith, ints)
odd-under (negsuc a) h = ap is_even (same a) ∙ neighbours (suc a) (suc (suc a)) (inr (omega arith)) h
  where
    same : (a : ℕ) → negsuc a -ℤ pos 1 ≡ negsuc (suc a)
    same a = omega (arith, ints)
