-- A list from which the last entry was popped.
use Rattle.std.proofs.Common.{◌≡◌, ◌∙◌, ℕ, ◌-◌, List, [], ◌∷◌, ◌++◌, length, take, Option, Some, None, refl, sym, ap}
use Rattle.std.proofs.Common.{arith}
use Rattle.std.proofs.lemmas.List.{length-append}
use Rattle.std.specs.Option.{MatchOption}

pub take_front : {A : Type 0} (xs ys : List A) → take (length xs) (xs ++ ys) ≡ xs
take_front [] ys = refl
take_front (x ∷ xs) ys = ap (λ zs. x ∷ zs) (take_front xs ys)

pub popped : {A : Type 0} (old new : List A) (last : Option A)
    → MatchOption last ((old ≡ []) × (new ≡ [])) (λ x. old ≡ new ++ x ∷ []) → new ≡ take (length old - 1) old
popped old new None h = h.1 ∙ sym (ap (λ xs. take (length xs - 1) xs) h.0)
popped old new (Some x) h =
    let long : length (new ++ x ∷ []) - 1 ≡ length new = omega (arith, length-append new (x ∷ [])) in
    sym (ap (λ xs. take (length xs - 1) xs) h ∙ ap (λ (n : ℕ). take n (new ++ x ∷ [])) long ∙ take_front new (x ∷ []))
