-- The key of an atom: the number of its term, and the numbers of its cut.
use Rattle.std.specs.Prelude.{ℕ, unsigned_abs, List, [], ◌∷◌}
use Rattle.cat_region.specs.declared.cut.Threshold.{Threshold}
use Rattle.cat_region.specs.declared.cut.Threshold.TheVariants as threshold
use Rattle.cat_region.specs.declared.cut.Cut.{Cut}
use Rattle.cat_region.specs.declared.cut.Cut.TheVariants as cut
use Rattle.cat_audit_keys.specs.Keys.{sign_number}

-- a constant: its kind, the sign and the size of its numerator, and its denominator
abbrev pub threshold_numbers : Threshold → List ℕ
threshold_numbers (threshold.Whole n) = 0 ∷ sign_number n ∷ unsigned_abs n ∷ 1 ∷ []
threshold_numbers (threshold.Money cents) = 1 ∷ sign_number cents ∷ unsigned_abs cents ∷ 1 ∷ []
threshold_numbers (threshold.Day day) = 2 ∷ sign_number day ∷ unsigned_abs day ∷ 1 ∷ []
threshold_numbers (threshold.Decimal f) = 3 ∷ sign_number f.num ∷ unsigned_abs f.num ∷ f.den ∷ []

-- a cut: its kind, and what it compares with or which case it asks for
abbrev pub cut_numbers : Cut → List ℕ
cut_numbers (cut.Below c) = 0 ∷ threshold_numbers c
cut_numbers (cut.AtMost c) = 1 ∷ threshold_numbers c
cut_numbers cut.IsTrue = 2 ∷ []
cut_numbers (cut.IsCase k) = 3 ∷ k ∷ []

-- the key of a cut of the term of that number
abbrev pub atom_key : ℕ → Cut → List ℕ
atom_key term c = term ∷ cut_numbers c
