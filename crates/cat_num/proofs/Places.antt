-- A decimal has the fewest places.
use Rattle.std.proofs.Common.{List, IfSome, [], ◌∷◌, ◌≡◌, ◌≢◌, ℕ, zero, suc, ◌+◌, ◌-◌, ◌*◌, ◌%◌, ◌^◌, ◌<◌, ◌≤◌, ◌⊎◌}
use Rattle.std.proofs.Common.{inl, inr, unsigned_abs, Option, Some, None, MatchOption, refl, sym, ◌∙◌, subst, arith}
use Prim.Native.Nat.{◌∣◌}
use Rattle.std.specs.List.{position}
use Rattle.std.specs.Bool.{◌==◌}
use Rattle.std.proofs.lemmas.Iterator.Adapters.{position_from-zero}
use Rattle.std.proofs.Math.Nat.{dvd-mul_left, mod-eq-zero_of_dvd}
use Rattle.cat_num.specs.Frac.{Fraction, IsReduced}
use Rattle.cat_num.specs.Text.{places_from, decimal_places}
use Rattle.cat_num.specs.Reading.{IsFewest, HasNoDecimal, HasFewestPlaces}
use Rattle.cat_num.proofs.Gcd.{divides_other}
use Rattle.cat_num.proofs.Texts.{le_from_divides, places_from-start, places_from-found, places_from-more}

-- q of the k places from p on serve, and none before q
pub record IsLeastPlace (k p d q : ℕ) : Type 0 where
  pub low : q < p + k
  pub serves : 10 ^ q % d ≡ 0
  pub least : (r : ℕ) → p ≤ r → r < q → 10 ^ r % d ≢ 0

-- none of k places from p on serves
record AreNoPlaces (k p d : ℕ) : Type 0 where
  pub none : (r : ℕ) → p ≤ r → r < p + k → 10 ^ r % d ≢ 0

next_or_later : (p r : ℕ) → p ≤ r → (p ≡ r) ⊎ (p + 1 ≤ r)
next_or_later p r h = by (r - p) refl
  where
    by : (m : ℕ) → r - p ≡ m → (p ≡ r) ⊎ (p + 1 ≤ r)
    by zero e = inl (omega arith)
    by (suc m) e = inr (omega arith)

not_here : (p d m : ℕ) → 10 ^ p % d ≡ suc m → (r : ℕ) → p ≡ r → 10 ^ r % d ≢ 0
not_here p d m e r s z = let w : 10 ^ p % d ≡ 0 = subst (λ x. 10 ^ x % d ≡ 0) (sym s) z in omega arith

found_step : (k p d q m : ℕ) → 10 ^ p % d ≡ m → places_from (suc k) p d ≡ Some q
    → (places_from k (p + 1) d ≡ Some q → IsLeastPlace k (p + 1) d q) → IsLeastPlace (suc k) p d q
found_step k p d q zero z e rest =
    let here = places_from-found (suc k) p d (omega arith) z in
    let same : p ≡ q = cc in
    record {
      low = omega arith;
      serves = subst (λ x. 10 ^ x % d ≡ 0) same z;
      least = λ r low high. absurd (omega arith);
    }
found_step k p d q (suc m) z e rest =
    let later = rest (places_from-more (suc k) k p (p + 1) d refl refl (omega arith) ∙ e) in
    record {
      low = let l = later.low in omega arith;
      serves = later.serves;
      least =
          λ r low high. by r high (next_or_later p r low) later;
    }
  where
    by : (r : ℕ) → r < q → (p ≡ r) ⊎ (p + 1 ≤ r) → IsLeastPlace k (p + 1) d q → 10 ^ r % d ≢ 0
    by r high (inl s) later = not_here p d m z r s
    by r high (inr s) later = later.least r s high

pub place_found : (k p d q : ℕ) → places_from k p d ≡ Some q → IsLeastPlace k p d q
place_found zero p d q e = absurd (cc)
place_found (suc k) p d q e = found_step k p d q (10 ^ p % d) refl e (place_found k (p + 1) d q)

none_step : (k p d m : ℕ) → 10 ^ p % d ≡ m → places_from (suc k) p d ≡ None
    → (places_from k (p + 1) d ≡ None → AreNoPlaces k (p + 1) d) → AreNoPlaces (suc k) p d
none_step k p d zero z e rest = let here = places_from-found (suc k) p d (omega arith) z in absurd (cc)
none_step k p d (suc m) z e rest =
    let later = rest (places_from-more (suc k) k p (p + 1) d refl refl (omega arith) ∙ e) in
    record { none = λ r low high. by r high (next_or_later p r low) later }
  where
    by : (r : ℕ) → r < p + suc k → (p ≡ r) ⊎ (p + 1 ≤ r) → AreNoPlaces k (p + 1) d → 10 ^ r % d ≢ 0
    by r high (inl s) later = not_here p d m z r s
    by r high (inr s) later = later.none r s (omega arith)

no_place : (k p d : ℕ) → places_from k p d ≡ None → AreNoPlaces k p d
no_place zero p d e = record { none = λ r low high. absurd (omega arith) }
no_place (suc k) p d e = none_step k p d (10 ^ p % d) refl e (no_place k (p + 1) d)

-- a reduced fraction with q places has a denominator that divides 10 ^ q
divides_power : (f : Fraction) → IsReduced f.num f.den → (q digits : ℕ) → unsigned_abs f.num * 10 ^ q ≡ digits * f.den
    → 10 ^ q % f.den ≡ 0
divides_power f r q digits e =
    mod-eq-zero_of_dvd f.den (divides_other (unsigned_abs f.num) f.den (10 ^ q) r.lowest_terms
    (subst (λ m. f.den ∣ m) (sym e) (dvd-mul_left f.den digits)))

pub HasFewestPlaces-of_IsReduced : (f : Fraction) → IsReduced f.num f.den → HasFewestPlaces f
HasFewestPlaces-of_IsReduced f r = by (decimal_places f.den) refl
  where
    at_most : (p q : ℕ) → (q < p → ⊥) → p ≤ q
    at_most p q h = order (p - q) refl
      where
        order : (m : ℕ) → p - q ≡ m → p ≤ q
        order zero e = omega arith
        order (suc m) e = absurd (h (omega arith))

    by : (o : Option ℕ) → decimal_places f.den ≡ o → MatchOption o (HasNoDecimal f) (IsFewest f)
    by None e =
        let places = no_place 10 0 f.den (places_from-start f.den ∙ e) in
        record {
          none = λ q digits low same. places.none q (omega arith) (omega arith) (divides_power f r q digits same);
        }
    by (Some p) e =
        let place = place_found 10 0 f.den p (places_from-start f.den ∙ e) in
        record {
          exact = place.serves;
          fewest = λ q digits same. at_most p q
              (λ low. place.least q (omega arith) low (divides_power f r q digits same));
        }

abbrev pub powers : List ℕ
powers = 1 ∷ 10 ∷ 100 ∷ 1000 ∷ 10000 ∷ 100000 ∷ 1000000 ∷ 10000000 ∷ 100000000 ∷ 1000000000 ∷ []

-- the first power of ten that d divides
pub position-powers : (d : ℕ) → position (λ power. power % d == 0) powers ≡ decimal_places d
position-powers d = position_from-zero (λ power. power % d == 0) powers ∙ places_from-start d

pub places_divide : (d : ℕ) (o : Option ℕ) → o ≡ decimal_places d → IfSome o (λ q. d ≤ 10 ^ q)
places_divide d None e = tt
places_divide d (Some q) e = le_from_divides q d (place_found 10 0 d q (places_from-start d ∙ sym e)).serves

pub places_low : (d : ℕ) (o : Option ℕ) → o ≡ decimal_places d → IfSome o (λ q. q ≤ 9)
places_low d None e = tt
places_low d (Some q) e = let l = (place_found 10 0 d q (places_from-start d ∙ sym e)).low in omega arith
