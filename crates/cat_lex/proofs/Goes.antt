-- A reading that goes as far as a token, or further.
use Rattle.std.proofs.Common.{◌≡◌, ℕ, ◌<◌, ◌⊎◌, List, length, ap, inl, inr, arith}
use Rattle.std.specs.Prelude.{Option, Some, None}
use Rattle.cat_lex.specs.declared.form.Form.{Form}

-- it reads this form and leaves this rest, or leaves less
abbrev pub Goes : Form → List ℕ → Form × List ℕ → Type 0
Goes form rest found = (found ≡ (form, rest)) ⊎ (length found.1 < length rest)

abbrev pub Reaches : Form → List ℕ → Option (Form × List ℕ) → Type 0
Reaches form rest None = ⊥
Reaches form rest (Some found) = Goes form rest found

length_found : (form : Form) (rest : List ℕ) (found : Form × List ℕ) → found ≡ (form, rest) → length found.1 ≡ length
    rest
length_found form rest found e = ap (λ (x : Form × List ℕ). length x.1) e

further : (form : Form) (near rest : List ℕ) (found : Form × List ℕ) → length near < length rest → Goes form near found
    → length found.1 < length rest
further form near rest found less (inl e) = omega (arith, length_found form near found e)
further form near rest found less (inr l) = omega arith

-- what goes as far as near goes as far as the rest that near is, or is shorter than
pub goes_on : (form : Form) (near rest : List ℕ) (found : Form × List ℕ) → (near ≡ rest) ⊎ (length near < length rest)
    → Goes form near found → Goes form rest found
goes_on form near rest found (inl e) g = rw (← e) g
goes_on form near rest found (inr l) g = inr (further form near rest found l g)
