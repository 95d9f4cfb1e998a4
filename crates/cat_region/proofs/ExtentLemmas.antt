-- A narrowing leaves exactly the values that agree with it, and what is left of a dimension has a value.
use Rattle.std.proofs.Common.{◌≡◌, ℕ, ◌^◌, ◌<◌, ◌==◌, ◌-◌, ℤ, pos}
use Rattle.std.proofs.Common.{Bool, true, false, not, IsTrue, refl, sym, ap, ◌∙◌, subst, arith, if◌then◌else◌, min, ◌≢◌}
use Rattle.std.specs.Prelude.{int_lt, ◌-ℤ◌, ◌&&◌, nat_lt}
use Rattle.std.specs.Int.{bit_at, bit_not, int_min, int_max}
use mir.Syntax.{w128}
use Rattle.std.proofs.Math.Bool.{beq, and_assoc}
use Rattle.std.proofs.lemmas.Int.{ints}
use Rattle.std.proofs.lemmas.Bool.Decides.{nat_tests}
use Rattle.std.proofs.lemmas.Nat.Bits.{bit_at_and, bit_at_not, bit_at-pow_same, bit_at-pow_other, bit_at-zero}
use Rattle.std.proofs.lemmas.Nat.Bits.{bit_at-lt}
use Rattle.std.proofs.Math.Pow.{pow-lt}
use Rattle.std.specs.Ordering.{is_lt, is_le}
use Rattle.cat_region.specs.declared.dim.Dim.{Dim}
use Rattle.cat_region.specs.declared.dim.Dim.TheVariants as dim
use Rattle.cat_region.specs.declared.cut.Cut.{Cut}
use Rattle.cat_region.specs.declared.cut.Cut.TheVariants as cut
use Rattle.cat_region.specs.declared.point.Point.{Point}
use Rattle.cat_region.specs.declared.point.Point.TheVariants as point
use Rattle.cat_region.specs.declared.extent.Range.{Range}
use Rattle.cat_region.specs.declared.extent.Extent.{Extent}
use Rattle.cat_region.specs.declared.extent.Extent.TheVariants.{Ranks, Cases}
use Rattle.cat_region.specs.Points.{is_point, is_cut, answer}
use Rattle.cat_region.specs.Regions.{is_dim}
use Rattle.cat_region.specs.Extents.{rank, place, limit, is_under, one_case, narrowed, narrowed_range, narrowed_set}
use Rattle.cat_region.proofs.Tests.{le_of, lt_of, eq_of}
use Rattle.cat_region.proofs.RankLemmas.{point_order-ranks, is_lt-int_cmp, is_le-int_cmp}

-- whether a case is in a set
abbrev pub has : ℕ → ℕ → Bool
has set k = bit_at set k == 1

-- whether a rank is in a range
abbrev pub lies : ℤ → Range → Bool
lies n r = not (int_lt n r.low) && not (int_lt r.high n)

-- whether a value is left
abbrev pub is_in : Extent → Point → Bool
is_in (Ranks r) x = lies (rank x) r
is_in (Cases set) (point.Case k) = has set k
is_in (Cases set) x = false

-- whether an extent is one of a dimension: a set for cases, and else a range
abbrev pub is_kind : Dim → Extent → Bool
is_kind (dim.Cases n) (Ranks r) = false
is_kind (dim.Cases n) (Cases set) = true
is_kind d (Ranks r) = true
is_kind d (Cases set) = false

pub beq-true : (b : Bool) → beq b true ≡ b
beq-true true = refl
beq-true false = refl

pub beq-false : (b : Bool) → beq b false ≡ not b
beq-false true = refl
beq-false false = refl

pub lies-narrowed : (n m : ℤ) (r : Range) (under : Bool)
    → lies n (narrowed_range r m under) ≡ (lies n r && beq (int_lt n m) under)
lies-narrowed n m r true = upper n m r.low r.high ∙ ap (λ b. lies n r && b) (sym (beq-true (int_lt n m)))
  where
    least : (n m h : ℤ) → not (int_lt (int_min h (m -ℤ pos 1)) n) ≡ (not (int_lt h n) && int_lt n m)
    least n m h = grind (arith, ints)

    upper : (n m l h : ℤ) → (not (int_lt n l) && not (int_lt (int_min h (m -ℤ pos 1)) n)) ≡ (not (int_lt n l) && not
        (int_lt h n) && int_lt n m)
    upper n m l h = ap (λ b. not (int_lt n l) && b) (least n m h)
        ∙ sym (and_assoc (not (int_lt n l)) (not (int_lt h n)) (int_lt n m))
lies-narrowed n m r false = lower n m r.low r.high ∙ ap (λ b. lies n r && b) (sym (beq-false (int_lt n m)))
  where
    greatest : (n m l : ℤ) → not (int_lt n (int_max l m)) ≡ (not (int_lt n l) && not (int_lt n m))
    greatest n m l = grind (arith, ints)

    swap : (x y z : Bool) → (x && y && z) ≡ (x && z && y)
    swap true true z = by z
      where
        by : (z : Bool) → z ≡ (z && true)
        by true = refl
        by false = refl
    swap true false true = refl
    swap true false false = refl
    swap false y z = refl

    lower : (n m l h : ℤ) → (not (int_lt n (int_max l m)) && not (int_lt h n)) ≡ (not (int_lt n l) && not (int_lt h n)
        && not (int_lt n m))
    lower n m l h = ap (λ b. b && not (int_lt h n)) (greatest n m l)
        ∙ swap (not (int_lt n l)) (not (int_lt n m)) (not (int_lt h n))

-- a cut has an answer for the values below its limit
answer-limit : (d : Dim) (r : Range) (c : Cut) (x : Point) (so : Bool) → IsTrue (is_kind d (Ranks r))
    → IsTrue (is_cut d c) → IsTrue (is_point d x)
    → beq (answer c x) so ≡ beq (int_lt (rank x) (limit c)) (is_under c so)
unfolding rank
answer-limit d r (cut.Below s) x so kind h k =
    ap (λ b. beq b so) (ap is_lt (point_order-ranks d s x h k) ∙ is_lt-int_cmp (rank x) (place s))
answer-limit d r (cut.AtMost s) x so kind h k =
    ap (λ b. beq b so) (ap is_le (point_order-ranks d s x h k) ∙ is_le-int_cmp (rank x) (place s))
answer-limit dim.Truth r cut.IsTrue (point.Truth true) true kind h k = refl
answer-limit dim.Truth r cut.IsTrue (point.Truth true) false kind h k = refl
answer-limit dim.Truth r cut.IsTrue (point.Truth false) true kind h k = refl
answer-limit dim.Truth r cut.IsTrue (point.Truth false) false kind h k = refl
answer-limit (dim.Cases n) r (cut.IsCase j) x so kind h k = absurd (cc)
answer-limit d r c x so kind h k = absurd (cc)

-- the set of one case
one-bit : (k m : ℕ) → m < 128 → bit_at (one_case k) m ≡ (if m == k then 1 else 0)
one-bit k m h = by (nat_lt k 128) refl (m == k) refl
  where
    other : (a b : ℕ) → (a == b) ≡ false → a ≢ b
    other a b e = grind (arith, nat_tests)

    past : (a b : ℕ) → nat_lt a 128 ≡ false → b < 128 → (b == a) ≡ true → ⊥
    past a b e l g = grind (arith, nat_tests)

    by : (b : Bool) → nat_lt k 128 ≡ b → (c : Bool) → (m == k) ≡ c
        → bit_at (if b then 2 ^ k else 0) m ≡ (if c then 1 else 0)
    by true e true g = subst (λ (j : ℕ). bit_at (2 ^ j) m ≡ 1) (eq_of m k g) (bit_at-pow_same m)
    by true e false g = bit_at-pow_other k m (other m k g)
    by false e true g = absurd (past k m e h g)
    by false e false g = bit_at-zero m

one-small : (k : ℕ) → one_case k < 2 ^ 128
one-small k = by (nat_lt k 128) refl
  where
    by : (b : Bool) → nat_lt k 128 ≡ b → (if b then 2 ^ k else 0) < 2 ^ 128
    by true e = pow-lt (lt_of k 128 e)
    by false e = omega arith

-- a bit stays where the other is set
kept-bit : (a : ℕ) (b : Bool) → a < 2 → (min a (if b then 1 else 0) == 1) ≡ ((a == 1) && b)
kept-bit a true h = ap (λ (n : ℕ). n == 1) (least a h) ∙ sym (and-true (a == 1))
  where
    least : (a : ℕ) → a < 2 → min a 1 ≡ a
    least a h = omega arith

    and-true : (b : Bool) → (b && true) ≡ b
    and-true true = refl
    and-true false = refl
kept-bit a false h = ap (λ (n : ℕ). n == 1) (least a) ∙ sym (and-false (a == 1))
  where
    least : (a : ℕ) → min a 0 ≡ 0
    least a = omega arith

    and-false : (b : Bool) → (b && false) ≡ false
    and-false true = refl
    and-false false = refl

less-bit : (b : Bool) → 1 - (if b then 1 else 0) ≡ (if not b then 1 else 0)
less-bit true = refl
less-bit false = refl

has-narrowed : (set k m : ℕ) (so : Bool) → m < 128
    → has (narrowed_set set (cut.IsCase k) so) m ≡ (has set m && beq (m == k) so)
has-narrowed set k m true h =
    ap (λ (n : ℕ). n == 1) (bit_at_and set (one_case k) m ∙ ap (λ (n : ℕ). min (bit_at set m) n) (one-bit k m h))
    ∙ kept-bit (bit_at set m) (m == k) (bit_at-lt set m) ∙ ap (λ b. has set m && b) (sym (beq-true (m == k)))
has-narrowed set k m false h =
    ap (λ (n : ℕ). n == 1) (bit_at_and set (bit_not w128 (one_case k)) m
    ∙ ap (λ (n : ℕ). min (bit_at set m) n) (bit_at_not w128 (one_case k) m (one-small k) h
    ∙ ap (λ (n : ℕ). 1 - n) (one-bit k m h) ∙ less-bit (m == k)))
    ∙ kept-bit (bit_at set m) (not (m == k)) (bit_at-lt set m) ∙ ap (λ b. has set m && b) (sym (beq-false (m == k)))

-- what a narrowing leaves
pub is_in-narrowed : (d : Dim) (e : Extent) (c : Cut) (so : Bool) (x : Point) → IsTrue (is_dim d) → IsTrue (is_kind d e)
    → IsTrue (is_cut d c) → IsTrue (is_point d x)
    → is_in (narrowed e c so) x ≡ (is_in e x && beq (answer c x) so)
is_in-narrowed d (Ranks r) c so x few kind h k =
    lies-narrowed (rank x) (limit c) r (is_under c so)
    ∙ ap (λ b. lies (rank x) r && b) (sym (answer-limit d r c x so kind h k))
is_in-narrowed (dim.Cases n) (Cases set) (cut.IsCase j) so (point.Case m) few kind h k =
    has-narrowed set j m so (omega (arith, lt_of m n k, le_of n 128 few))
is_in-narrowed d (Cases set) c so x few kind h k = absurd (cc)
