-- Things of a list, one after another.
use Rattle.std.proofs.Common.{◌≡◌, ◌∙◌, ℕ, ◌+◌, ◌<◌, List, ◌∷◌, ◌++◌, length, drop, get_or, ap, sym}
use Rattle.std.specs.Prelude.{flat_map}
use Rattle.std.proofs.lemmas.List.{append_assoc, drop_more}

-- what is left, one thing on
pub dropped : {A : Type 0} (xs : List A) (i : ℕ) (x : A) → i < length xs → get_or xs i x ≡ x
    → drop i xs ≡ x ∷ drop (i + 1) xs
dropped xs i x within is = drop_more xs i x within ∙ ap (λ y. y ∷ drop (i + 1) xs) is

-- what a thing gives, and those behind it
pub one_more : {A B : Type 0} (f : A → List B) (xs : List A) (i : ℕ) (x : A) (made whole : List B) → i < length xs
    → get_or xs i x ≡ x → made ++ flat_map f (drop i xs) ≡ whole
    → (made ++ f x) ++ flat_map f (drop (i + 1) xs) ≡ whole
one_more f xs i x made whole within is before = append_assoc made (f x) (flat_map f (drop (i + 1) xs))
    ∙ ap (λ from. made ++ flat_map f from) (sym (dropped xs i x within is)) ∙ before
