-- The last entry of a list is the first one of its reverse, and a stack that is popped has one entry less.
use Rattle.std.proofs.Common.{◌≡◌, ◌-◌, ◌<◌, List, [], ◌∷◌, ◌++◌, length, reverse, Option, Some, None, slice_get}
use Rattle.std.proofs.Common.{refl, sym, ap, ◌∙◌, subst, arith, length-append}
use Rattle.std.specs.Prelude.{MatchOption}
use Rattle.std.proofs.lemmas.List.{reverse-append}

-- a list as those before the last with the last
ends : {A : Type 0} (x : A) (xs : List A)
    → (before : List A) × (last : A) × (x ∷ xs ≡ before ++ last ∷ [])
ends x [] = ([], x, refl)
ends x (y ∷ ys) = let e = ends y ys in (x ∷ e.0, e.1, ap (λ zs. x ∷ zs) e.2)

end_at : {A : Type 0} (before : List A) (y : A) → slice_get (before ++ y ∷ []) (length before) ≡ Some y
end_at [] y = refl
end_at (x ∷ xs) y = end_at xs y

top_of : {A : Type 0} (before : List A) (y : A)
    → slice_get (reverse (before ++ y ∷ [])) 0 ≡ slice_get (before ++ y ∷ []) (length (before ++ y ∷ []) - 1)
top_of before y =
    let long = length-append before (y ∷ []) in
    let less : length (before ++ y ∷ []) - 1 ≡ length before = omega (arith, long) in
    ap (λ zs. slice_get zs 0) (reverse-append before (y ∷ []))
    ∙ sym (ap (slice_get (before ++ y ∷ [])) less ∙ end_at before y)

pub top_is : {A : Type 0} (xs : List A) → slice_get (reverse xs) 0 ≡ slice_get xs (length xs - 1)
top_is [] = refl
top_is (x ∷ xs) =
    let e = ends x xs in
    subst (λ zs. slice_get (reverse zs) 0 ≡ slice_get zs (length zs - 1)) (sym e.2) (top_of e.0 e.1)

pub pop_fewer : {A : Type 0} (old new : List A) (r : Option A)
    → MatchOption r ((old ≡ []) × (new ≡ [])) (λ top. old ≡ top ∷ new) → length new ≡ length old - 1
pop_fewer old new None is = ap length is.1 ∙ sym (ap (λ xs. length xs - 1) is.0)
pop_fewer old new (Some x) is = let long = ap length is in omega (arith, long)

-- where one is on top, there is one
pub top_some : {A : Type 0} (xs : List A) (x : A) → slice_get xs 0 ≡ Some x → 0 < length xs
top_some [] x at = absurd (cc)
top_some (y ∷ ys) x at = omega arith
