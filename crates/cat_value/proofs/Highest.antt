-- The highest of some parts, one part after another.
use Rattle.std.proofs.Common.{◌≡◌, ◌∙◌, ℕ, suc, ◌+◌, ◌<◌, ◌≤◌, max, List, ◌∷◌, length, drop, get_or}
use Rattle.std.proofs.Common.{ap, subst, arith}
use Rattle.std.proofs.Math.Numerals.{suc-eq-add-one}
use Rattle.std.proofs.Math.Seq.{drop-cons}
use Rattle.cat_value.specs.declared.ty.Ty.{Ty}
use Rattle.cat_value.specs.declared.declaration.Field.{Field}
use Rattle.cat_value.specs.declared.declaration.Case.{Case}
use Rattle.cat_value.specs.Heights.{highest_field, content_height, highest_content}

-- the highest part so far, and of all
abbrev pub IsSoFar : ℕ → ℕ → ℕ → ℕ → Type 0
IsSoFar bound best rest all = (best ≤ bound) × (max best rest ≡ all)

one_more : (bound best part rest all : ℕ) → part ≤ bound → IsSoFar bound best (max part rest) all
    → IsSoFar bound (max best part) rest all
one_more bound best part rest all low so_far = (omega (arith, low, so_far.0), omega (arith, so_far.1))

next_front : {A : Type 0} (xs : List A) (i : ℕ) (x : A) → i < length xs → get_or xs i x ≡ x
    → drop i xs ≡ x ∷ drop (i + 1) xs
next_front xs i x within is = drop-cons xs i x within ∙ ap (λ y. y ∷ drop (suc i) xs) is
    ∙ ap (λ n. x ∷ drop n xs) (suc-eq-add-one i)

pub field_more : (height : Ty → ℕ) (fs : List Field) (i : ℕ) (f : Field) (bound best all : ℕ) → i < length fs
    → get_or fs i f ≡ f → height f.ty ≤ bound → IsSoFar bound best (highest_field height (drop i fs)) all
    → IsSoFar bound (max best (height f.ty)) (highest_field height (drop (i + 1) fs)) all
field_more height fs i f bound best all within is low so_far =
    let front = next_front fs i f within is in
    one_more bound best (height f.ty) (highest_field height (drop (i + 1) fs)) all low
    (subst (λ xs. IsSoFar bound best (highest_field height xs) all) front so_far)

pub case_more : (height : Ty → ℕ) (cs : List Case) (i : ℕ) (c : Case) (bound best all : ℕ) → i < length cs
    → get_or cs i c ≡ c → content_height height c.content ≤ bound
    → IsSoFar bound best (highest_content height (drop i cs)) all
    → IsSoFar bound (max best (content_height height c.content)) (highest_content height (drop (i + 1) cs)) all
case_more height cs i c bound best all within is low so_far =
    let front = next_front cs i c within is in
    one_more bound best (content_height height c.content) (highest_content height (drop (i + 1) cs)) all low
    (subst (λ xs. IsSoFar bound best (highest_content height xs) all) front so_far)
