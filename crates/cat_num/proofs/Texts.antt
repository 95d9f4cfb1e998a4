-- Decimal places and digits, step by step.
use Rattle.std.proofs.Common.{◌≡◌, ℕ, zero, suc, ◌+◌, ◌%◌, ◌^◌, ◌<◌, ◌≤◌, Some, false, List, [], ◌++◌, replicate}
use Rattle.std.proofs.Common.{length, ◌-◌, refl, arith}
use Rattle.std.proofs.lemmas.Bool.Decides.{nat_tests}
use Rattle.std.proofs.lemmas.Nat.Gcd.{dvd_of_mod-eq-zero, le_of_dvd}
use Rattle.std.proofs.Math.Nat.{one-le-pow, sub-zero}
use Rattle.std.proofs.lemmas.List.{append-nil}
use Rattle.std.specs.Fmt.{padded_integral, format_spec, char_count}
use Rattle.cat_num.specs.Text.{places_from, decimal_places}

pub places_from-start : (d : ℕ) → places_from 10 0 d ≡ decimal_places d
unfolding decimal_places
places_from-start d = refl

pub places_from-found : (k p d : ℕ) → 0 < k → 10 ^ p % d ≡ 0 → places_from k p d ≡ Some p
places_from-found zero p d h e = absurd (omega arith)
places_from-found (suc k) p d h e = grind (arith, nat_tests)

pub places_from-more : (k j p q d : ℕ) → k ≡ suc j → q ≡ p + 1 → 0 < 10 ^ p % d → places_from j q d ≡ places_from k p d
places_from-more zero j p q d h e r = absurd (omega arith)
places_from-more (suc k) j p q d h e r = grind (arith, nat_tests)

pub ten_power : (p : ℕ) → 0 < 10 ^ p
ten_power p = one-le-pow p 10 (omega arith)

pub le_from_divides : (p d : ℕ) → 10 ^ p % d ≡ 0 → d ≤ 10 ^ p
le_from_divides p d e = le_of_dvd (ten_power p) (dvd_of_mod-eq-zero d e)

-- what `{:0width$}` writes
pub padded_integral-zeros : (w : ℕ) (ds : List ℕ) → padded_integral (format_spec 32 0 4 w (2 ^ 64 - 1)) false [] ds
    ≡ replicate (w - length ds) 48 ++ ds
unfolding padded_integral char_count
padded_integral-zeros w ds = simp (append-nil, sub-zero)

pub ruleset zeros = (padded_integral-zeros)
