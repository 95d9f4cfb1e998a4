-- Which number a text names.
use Rattle.std.proofs.Common.{◌≡◌, ◌∙◌, ◌≤◌, ◌<◌, ◌^◌, ◌⊎◌, inl, inr, ℕ, zero, suc, Bool, true, false, List, refl, sym}
use Rattle.std.proofs.Common.{ap, arith}
use Rattle.std.proofs.lemmas.Bool.{cases_lt}
use Rattle.std.proofs.lemmas.Fmt.{decimal_injective, parse-decimal}
use Rattle.std.proofs.lemmas.Slice.Eq.{bytes_eq-Decides}
use Rattle.std.specs.Prelude.{None, Some, Result, Ok, bytes_eq, if◌then◌else◌}
use Rattle.std.specs.Fmt.{decimal}
use Rattle.std.specs.Str.Parse.{ParsesUnsigned}
use Rattle.cat_app.specs.Numbers.{bands_in, number_up_to}

-- a text that is the decimals of a number names it
pub finds : (k n : ℕ) (text : List ℕ) → k < 2 ^ 64 → 0 < n → n ≤ k → text ≡ decimal n → number_up_to k text ≡ Some n
unfolding number_up_to
finds zero n text low some within is = absurd (omega (arith, some, within))
finds (suc k) n text low some within is =
    by (bytes_eq text (decimal (suc k))) refl (finds k n text (omega (arith, low)) some)
  where
    by : (b : Bool) → bytes_eq text (decimal (suc k)) ≡ b
        → (n ≤ k → text ≡ decimal n → number_up_to k text ≡ Some n)
        → (if b then Some (suc k) else number_up_to k text) ≡ Some n
    by true same earlier =
        let equal : decimal (suc k) ≡ decimal n = sym ((bytes_eq-Decides text (decimal (suc k))).0 same) ∙ is in
        ap Some (decimal_injective (suc k) n low (omega (arith, low, within)) equal)
    by false other earlier = less (cases_lt k n)
      where
        less : (k < n) ⊎ (n ≤ k) → number_up_to k text ≡ Some n
        less (inl above) =
            let last : n ≡ suc k = omega (arith, above, within) in
            let same : bytes_eq text (decimal (suc k)) ≡ true =
            (bytes_eq-Decides text (decimal (suc k))).1 (is ∙ ap decimal last) in
            cc (same, other)
        less (inr below) = earlier below is

-- one that is those of none of the numbers names none
pub finds_none : (k : ℕ) (text : List ℕ) → ((n : ℕ) → 0 < n → n ≤ k → text ≡ decimal n → ⊥)
    → number_up_to k text ≡ None
unfolding number_up_to
finds_none zero text none = refl
finds_none (suc k) text none =
    by (bytes_eq text (decimal (suc k))) refl
    (finds_none k text (λ n some within is. none n some (omega (arith, within)) is))
  where
    by : (b : Bool) → bytes_eq text (decimal (suc k)) ≡ b → number_up_to k text ≡ None
        → (if b then Some (suc k) else number_up_to k text) ≡ None
    by true same earlier =
        absurd (none (suc k) (omega arith) (omega arith) ((bytes_eq-Decides text (decimal (suc k))).0 same))
    by false other earlier = earlier

pub named : (text : List ℕ) (n : ℕ) → 0 < n → n ≤ 1000 → text ≡ decimal n → bands_in text ≡ Some n
unfolding bands_in
named text n some within is = finds 1000 n text (omega arith) some within is

-- where none of the numbers that a text is read as is one of these, it names none
pub unnamed : {E : Type 0} (text : List ℕ) (r : Result ℕ E) → ParsesUnsigned 32 10 text r
    → ((n : ℕ) → r ≡ Ok n → 0 < n → n ≤ 1000 → text ≡ decimal n → ⊥) → bands_in text ≡ None
unfolding bands_in
unnamed text r parses none = finds_none 1000 text (λ n some within is.
    none n (parse-decimal 32 n text r (omega (arith, within)) (omega (arith, within)) is parses) some within is)

-- ---- worked examples

as_many_bands_as_may_be : bands_in (decimal 1000) ≡ Some 1000
as_many_bands_as_may_be = named (decimal 1000) 1000 (omega arith) (omega arith) refl

one_band_too_many : bands_in (decimal 1001) ≡ None
unfolding bands_in
one_band_too_many = finds_none 1000 (decimal 1001) none
  where
    none : (n : ℕ) → 0 < n → n ≤ 1000 → decimal 1001 ≡ decimal n → ⊥
    none n some within is =
        let same : 1001 ≡ n = decimal_injective 1001 n (omega arith) (omega (arith, within)) is in
        omega (arith, same, within)
