-- The point of a dimension is the one that is to be chosen.
use Rattle.std.proofs.Common.{◌≡◌, ℕ, ◌<◌, ◌≤◌, ℤ, pos, negsuc, length, None}
use Rattle.std.proofs.Common.{Bool, true, false, not, IsTrue, refl, sym, ap, ◌∙◌, subst, arith, if◌then◌else◌}
use Rattle.std.proofs.Common.{unsigned_abs, true≢false}
use Rattle.std.specs.Prelude.{int_lt, int_le, ◌-ℤ◌, ◌&&◌}
use Rattle.std.proofs.lemmas.Int.{ints}
use Rattle.cat_num.specs.Frac.{Fraction, lowest, is_reduced, gcd}
use Rattle.cat_date.specs.Calendar.{first_day}
use Rattle.cat_region.specs.declared.dim.Dim.{Dim}
use Rattle.cat_region.specs.declared.dim.Dim.TheVariants as dim
use Rattle.cat_region.specs.declared.point.Point.{Point}
use Rattle.cat_region.specs.declared.point.Point.TheVariants as point
use Rattle.cat_region.specs.declared.extent.Range.{Range}
use Rattle.cat_region.specs.declared.extent.Extent.{Extent}
use Rattle.cat_region.specs.declared.extent.Extent.TheVariants.{Ranks, Cases}
use Rattle.cat_region.specs.Points.{is_point, default_point}
use Rattle.cat_region.specs.Regions.{Constraints, IsRegion, IsInhabited, is_admitted}
use Rattle.cat_region.specs.Extents.{rank, start, after, is_none}
use Rattle.cat_region.specs.Chosen.{outer_parts, decimal_in, point_in, point_at}
use Rattle.cat_region.specs.Choices.{distance, zero_decimal, between, lower_bound, upper_bound}
use Rattle.cat_region.specs.Choices.{decimal_at, IsChoice, IsPointOf}
use Rattle.cat_region.proofs.RankLemmas.{bound_parts}
use Rattle.cat_region.proofs.ExtentLemmas.{lies, is_in}
use Rattle.cat_region.specs.inside.Parts.{IsPart}
use Rattle.cat_region.proofs.PartLemmas.{IsPart-start}
use Rattle.cat_region.proofs.PointLemmas.{point_in-part}
use Rattle.cat_region.proofs.AdmitLemmas.{IsAt, IsPart-after, few_of, at_index, some_left, is_admitted-left}
use Rattle.cat_region.proofs.AdmitLemmas.{is_point-admitted, is_admitted-point_at, point_at-left}
use Rattle.cat_region.proofs.DecisionLaws.{admits-of_IsInhabited}
use Rattle.cat_region.proofs.BoundLemmas.{IsUpper, IsLower, IsBounded, IsBounded-after, IsBounded-start, rank-place}
use Rattle.cat_region.proofs.NearestLemmas.{least}
use Rattle.cat_region.proofs.BetweenLemmas.{lowest_of, TellsPlaces, chosen-between}

zero-reduced : is_reduced zero_decimal ≡ true
unfolding gcd
zero-reduced = refl

zero-lies : (r : Range) → lies (rank (point.Decimal zero_decimal)) r ≡ (int_le r.low (pos 0) && int_le (pos 0) r.high)
unfolding rank
zero-lies r = ends r.low r.high
  where
    ends : (l h : ℤ) → (not (int_lt (pos 0) l) && not (int_lt h (pos 0))) ≡ (int_le l (pos 0) && int_le (pos 0) h)
    ends l h = grind (arith, ints)

zero-lowest : lowest (pos 0) 1 ≡ zero_decimal
unfolding lowest gcd
zero-lowest = refl

-- the decimal that is chosen of what is left
choice-decimal : (region : Constraints) (i : ℕ) (r : Range) → IsRegion region → IsAt region.dims i dim.Decimal
    → after i (start dim.Decimal) region.narrowings ≡ Ranks r
    → int_lt r.high r.low ≡ false → IsLower (lower_bound region i) r.low → IsUpper (upper_bound region i) r.high
    → decimal_in r ≡ decimal_at region i
choice-decimal region i r sound at is some lower upper = by (int_le r.low (pos 0) && int_le (pos 0) r.high) refl
  where
    admitted : (f : Fraction) → IsTrue (is_reduced f)
        → is_admitted region i (point.Decimal f) ≡ lies (rank (point.Decimal f)) r
    admitted f h = is_admitted-left region i dim.Decimal (point.Decimal f) sound at h
        ∙ ap (λ e. is_in e (point.Decimal f)) is

    tells : TellsPlaces (λ f. is_admitted region i (point.Decimal f)) r
    tells c h = admitted c (bound_parts c h).0 ∙ ap (λ n. lies n r) (rank-place c h)

    zero : is_admitted region i (point.Decimal zero_decimal) ≡ (int_le r.low (pos 0) && int_le (pos 0) r.high)
    zero = admitted zero_decimal zero-reduced ∙ zero-lies r

    by : (b : Bool) → (int_le r.low (pos 0) && int_le (pos 0) r.high) ≡ b → decimal_in r ≡ decimal_at region i
    by true e =
        ap (λ b. lowest_of (if b then (pos 0, 1) else outer_parts r)) e ∙ zero-lowest
        ∙ ap (λ b. if b then zero_decimal else between (λ f. is_admitted region i (point.Decimal f))
        (lower_bound region i) (upper_bound region i)) (sym (zero ∙ e))
    by false e =
        ap (λ b. lowest_of (if b then (pos 0, 1) else outer_parts r)) e
        ∙ chosen-between r (λ f. is_admitted region i (point.Decimal f)) tells some e (lower_bound region i)
        (upper_bound region i) lower upper
        ∙ ap (λ b. if b then zero_decimal else between (λ f. is_admitted region i (point.Decimal f))
        (lower_bound region i) (upper_bound region i)) (sym (zero ∙ e))

-- no admitted value lies nearer to the default than the point
nearer : (region : Constraints) (i : ℕ) (d : Dim) (e : Extent) → IsRegion region → IsAt region.dims i d
    → after i (start d) region.narrowings ≡ e → IsPart d e → is_none e ≡ false
    → (d ≡ dim.Decimal → ⊥) → (y : Point) → IsTrue (is_admitted region i y) → distance (point_in d e) ≤ distance y
nearer region i d e sound at is part some other y admits =
    let of = is_point-admitted region i d y at admits in
    least d e y (few_of region.dims i d sound.dims at) part some other of
    (ap (λ x. is_in x y) (sym is) ∙ sym (is_admitted-left region i d y sound at of) ∙ admits)

abbrev is_decimal : Dim → Bool
is_decimal dim.Decimal = true
is_decimal d = false

apart : (d : Dim) → is_decimal d ≡ false → d ≡ dim.Decimal → ⊥
apart d h e = true≢false (sym (ap is_decimal e) ∙ h)

choice : (region : Constraints) (i : ℕ) (d : Dim) (e : Extent) → IsRegion region → IsAt region.dims i d
    → after i (start d) region.narrowings ≡ e → IsPart d e → is_none e ≡ false
    → IsChoice region i (point_in d e)
choice region i dim.Whole (Ranks r) sound at is part some =
    nearer region i dim.Whole (Ranks r) sound at is part some (apart dim.Whole refl)
choice region i dim.Money (Ranks r) sound at is part some =
    nearer region i dim.Money (Ranks r) sound at is part some (apart dim.Money refl)
choice region i dim.Day (Ranks r) sound at is part some =
    nearer region i dim.Day (Ranks r) sound at is part some (apart dim.Day refl)
choice region i dim.Truth (Ranks r) sound at is part some =
    nearer region i dim.Truth (Ranks r) sound at is part some (apart dim.Truth refl)
choice region i (dim.Cases n) (Cases set) sound at is part some =
    nearer region i (dim.Cases n) (Cases set) sound at is part some (apart (dim.Cases n) refl)
choice region i dim.Decimal (Ranks r) sound at is part some =
    let ends = subst (λ e. IsBounded (lower_bound region i) (upper_bound region i) e) is
    (IsBounded-after region.dims i None None (start dim.Decimal) region.narrowings at sound.narrowings IsBounded-start)
    in
    choice-decimal region i r sound at is some ends.0 ends.1
choice region i (dim.Cases n) (Ranks r) sound at is part some = absurd part
choice region i d (Cases set) sound at is part some = absurd part

none : (n : ℤ) → unsigned_abs n ≤ 0 → n ≡ pos 0
none (pos k) h = ap pos (omega arith)
none (negsuc k) h = absurd (omega arith)

-- what lies at no distance from the default is the default
no-distance : (d : Dim) (x : Point) → IsTrue (is_point d x) → (d ≡ dim.Decimal → ⊥) → distance x ≤ 0
    → x ≡ default_point d
no-distance dim.Whole (point.Whole n) of other h = ap point.Whole (none n h)
no-distance dim.Money (point.Money n) of other h = ap point.Money (none n h)
no-distance dim.Day (point.Day n) of other h = ap point.Day (first n (none (n -ℤ first_day) h))
  where
    first : (n : ℤ) → n -ℤ first_day ≡ pos 0 → n ≡ first_day
    first n e = omega (arith, ints)
no-distance dim.Truth (point.Truth false) of other h = refl
no-distance dim.Truth (point.Truth true) of other h = absurd (omega arith)
no-distance (dim.Cases n) (point.Case k) of other h = ap point.Case (omega arith)
no-distance dim.Decimal x of other h = absurd (other refl)
no-distance d x of other h = absurd (cc)

by_distance : (region : Constraints) (i : ℕ) (d : Dim) (e : Extent) → IsRegion region → IsAt region.dims i d
    → after i (start d) region.narrowings ≡ e → IsPart d e → is_none e ≡ false
    → (d ≡ dim.Decimal → ⊥) → IsTrue (is_admitted region i (default_point d)) → point_in d e ≡ default_point d
by_distance region i d e sound at is part some other admits =
    no-distance d (point_in d e) (point_in-part d e (few_of region.dims i d sound.dims at) part some).0 other
    (subst (λ (n : ℕ). distance (point_in d e) ≤ n) (at-default d)
    (nearer region i d e sound at is part some other (default_point d) admits))
  where
    at-default : (d : Dim) → distance (default_point d) ≡ 0
    at-default dim.Whole = refl
    at-default dim.Money = refl
    at-default dim.Day = refl
    at-default dim.Decimal = refl
    at-default dim.Truth = refl
    at-default (dim.Cases n) = refl

-- the default is chosen where it is admitted
default-chosen : (region : Constraints) (i : ℕ) (d : Dim) (e : Extent) → IsRegion region → IsAt region.dims i d
    → after i (start d) region.narrowings ≡ e → IsPart d e → is_none e ≡ false
    → IsTrue (is_admitted region i (default_point d)) → point_in d e ≡ default_point d
default-chosen region i dim.Whole (Ranks r) sound at is part some admits =
    by_distance region i dim.Whole (Ranks r) sound at is part some (apart dim.Whole refl) admits
default-chosen region i dim.Money (Ranks r) sound at is part some admits =
    by_distance region i dim.Money (Ranks r) sound at is part some (apart dim.Money refl) admits
default-chosen region i dim.Day (Ranks r) sound at is part some admits =
    by_distance region i dim.Day (Ranks r) sound at is part some (apart dim.Day refl) admits
default-chosen region i dim.Truth (Ranks r) sound at is part some admits =
    by_distance region i dim.Truth (Ranks r) sound at is part some (apart dim.Truth refl) admits
default-chosen region i (dim.Cases n) (Cases set) sound at is part some admits =
    by_distance region i (dim.Cases n) (Cases set) sound at is part some (apart (dim.Cases n) refl) admits
default-chosen region i dim.Decimal (Ranks r) sound at is part some admits =
    ap point.Decimal (choice region i dim.Decimal (Ranks r) sound at is part some
    ∙ ap (λ b. if b then zero_decimal else between (λ f. is_admitted region i (point.Decimal f)) (lower_bound region i)
    (upper_bound region i)) admits)
default-chosen region i (dim.Cases n) (Ranks r) sound at is part some admits = absurd part
default-chosen region i d (Cases set) sound at is part some admits = absurd part

-- the point is what is to be chosen
pub IsPointOf-point_at : (region : Constraints) (i : ℕ) → IsRegion region → IsInhabited region → i < length region.dims
    → IsPointOf region i (point_at region i)
IsPointOf-point_at region i sound inhabited within =
    let h = admits-of_IsInhabited region sound inhabited in
    record {
      admitted = is_admitted-point_at region sound h i within;
      default = λ d at admits. point_at-left region i d at
          ∙ default-chosen region i d (after i (start d) region.narrowings) sound at refl (part d at)
          (some_left region h i d at) admits;
      chosen = chosen (at_index region.dims i within);
    }
  where
    part : (d : Dim) → IsAt region.dims i d → IsPart d (after i (start d) region.narrowings)
    part d at = IsPart-after region.dims i d (start d) region.narrowings at (IsPart-start d) sound.narrowings

    chosen : ((d : Dim) × IsAt region.dims i d) → IsChoice region i (point_at region i)
    chosen (d, at) = subst (λ x. IsChoice region i x) (sym (point_at-left region i d at))
        (choice region i d (after i (start d) region.narrowings) sound at refl (part d at)
        (some_left region (admits-of_IsInhabited region sound inhabited) i d at))
