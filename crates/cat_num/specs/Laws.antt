-- Laws of the words, each the contract of a public call.
use Rattle.std.specs.Prelude.{◌≡◌, ◌↔◌, ℕ, ◌+◌, ◌*◌, ◌<◌, ◌≤◌, ℤ, pos, ◌*ℤ◌, unsigned_abs}
use Rattle.std.specs.declared.cmp.Ordering.{Ordering}
use Rattle.std.specs.declared.cmp.Ordering.TheVariants.{Less, Equal}
use Rattle.std.specs.Ordering.{int_cmp, ordering_reverse}
use Rattle.cat_num.specs.Frac.{Fraction, IsReduced, gcd, is_negative, signed, lowest}

-- n / d and m / e are one rational number: the cross products agree
abbrev pub AreEqual : ℤ → ℕ → ℤ → ℕ → Type 0
AreEqual n d m e = n *ℤ pos e ≡ m *ℤ pos d

-- lowest terms are unique: of all fractions in lowest terms, `lowest n d` is the one with the value n / d
pub record IsLowest (n : ℤ) (d : ℕ) : Type 0 where
  pub positive : 0 < (lowest n d).den
  pub lowest_terms : gcd (unsigned_abs (lowest n d).num) (lowest n d).den ≡ 1
  pub value : AreEqual (lowest n d).num (lowest n d).den n d
  pub unique : (f : Fraction) → IsReduced f.num f.den → AreEqual f.num f.den n d → lowest n d ≡ f

-- the order of the rational numbers, over fractions with positive denominators
pub record IsOrder (order : Fraction → Fraction → Ordering) : Type 0 where
  pub equal : (f g : Fraction) → (order f g ≡ Equal) ↔ AreEqual f.num f.den g.num g.den
  pub reverse : (f g : Fraction) → order g f ≡ ordering_reverse (order f g)
  pub transitive : (f g h : Fraction) → 0 < f.den → 0 < g.den → 0 < h.den → order f g ≡ Less → order g h ≡ Less
      → order f h ≡ Less
  pub whole : (n m : ℤ) → order (record { num = n; den = 1 }) (record { num = m; den = 1 }) ≡ int_cmp n m

-- r has the sign of n, and its size is the greatest whole number that is at most |n / d| + 1/2
pub record IsNearest (n : ℤ) (d : ℕ) (r : ℤ) : Type 0 where
  pub sign : r ≡ signed (is_negative n) (unsigned_abs r)
  pub low : 2 * d * unsigned_abs r ≤ 2 * unsigned_abs n + d
  pub high : 2 * unsigned_abs n + d < 2 * d * (unsigned_abs r + 1)
