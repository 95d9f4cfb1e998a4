-- Code that is laid element by element.
use Rattle.std.proofs.Common.{◌≡◌, ◌<◌, Some, None, slice_get, ◌+◌, ℕ, zero, suc, Bool, true, false, List, [], ◌∷◌}
use Rattle.std.proofs.Common.{◌++◌, drop, length, get_or, refl, sym, ap, ◌∙◌, subst, if◌then◌else◌, append_assoc, arith}
use Rattle.std.proofs.lemmas.List.{drop_more, drop_all}
use Rattle.std.proofs.lemmas.Option.{slice_get_within, get_or_from_slice_get}
use Rattle.cat_lower.specs.declared.growing.Growing.{Growing}
use Rattle.cat_lower.specs.Laying.{Coded, nothing, then_code}
use Rattle.cat_lower.specs.Grown.{Grown}
use Rattle.cat_lower.proofs.Grows.{grown_then, grown_none}

-- what is left of a list begins with its next element
pub next : {A : Type 0} (xs ys : List A) (i : ℕ) (x : A) → ys ≡ xs → i < length ys → x ≡ get_or ys i x
    → drop i xs ≡ x ∷ drop (i + 1) xs
next {A = A} xs ys i x e lt is =
    subst (λ (zs : List A). drop i zs ≡ x ∷ drop (i + 1) zs) e
    (drop_more ys i x lt ∙ ap (λ y. y ∷ drop (i + 1) ys) (sym is))

-- the same of numbers, which are read with another number in place of none
pub next_number : (xs ys : List ℕ) (i d : ℕ) → ys ≡ xs → i < length ys → drop i xs ≡ get_or ys i d ∷ drop (i + 1) xs
next_number xs ys i d e lt =
    subst (λ (zs : List ℕ). drop i zs ≡ get_or ys i d ∷ drop (i + 1) zs) e (drop_more ys i d lt)

-- the same, by what was read at its number
pub rest_from : {A : Type 0} (xs : List A) (i : ℕ) (x : A) → slice_get xs i ≡ Some x → drop i xs ≡ x ∷ drop (i + 1) xs
rest_from xs i x is =
    drop_more xs i x (slice_get_within xs i x is) ∙ ap (λ y. y ∷ drop (i + 1) xs) (get_or_from_slice_get xs i x x is)

-- and where nothing was there
pub none_from : {A : Type 0} (xs : List A) (i : ℕ) → slice_get xs i ≡ None → drop i xs ≡ []
none_from [] zero is = refl
none_from [] (suc i) is = drop_all (suc i) [] (omega arith)
none_from (x ∷ xs) zero is = absurd (cc is)
none_from (x ∷ xs) (suc i) is = none_from xs i is

pub none_more_from : {A : Type 0} (xs : List A) (i : ℕ) → slice_get xs i ≡ None → drop (i + 1) xs ≡ []
none_more_from [] i is = drop_all (i + 1) [] (omega arith)
none_more_from (x ∷ xs) zero is = absurd (cc is)
none_more_from (x ∷ xs) (suc i) is =
    let e : suc i + 1 ≡ suc (i + 1) = omega arith in ap (λ (n : ℕ). drop n (x ∷ xs)) e ∙ none_more_from xs i is

pub if_true : {A : Type 0} (b : Bool) (x y : A) → b ≡ true → (if b then x else y) ≡ x
if_true true x y e = refl
if_true false x y e = absurd (cc e)

pub if_false : {A : Type 0} (b : Bool) (x y : A) → b ≡ false → (if b then x else y) ≡ y
if_false true x y e = absurd (cc e)
if_false false x y e = refl

-- a part is laid, and the rest is left
pub step_on : (old t1 t2 new : Growing) (before a rest whole : Coded) → before ≡ then_code a rest
    → ((t : Growing) → Grown t1 t before → Grown old t whole) → Grown t1 t2 a → Grown t2 new rest → Grown old new whole
step_on old t1 t2 new before a rest whole is so_far g h =
    so_far new (subst (λ (c : Coded). Grown t1 new c) (sym is) (grown_then t1 t2 new a rest g h))

-- nothing is laid, and the rest is left
pub skip_on : (old t1 new : Growing) (before rest whole : Coded) → before ≡ rest
    → ((t : Growing) → Grown t1 t before → Grown old t whole) → Grown t1 new rest → Grown old new whole
skip_on old t1 new before rest whole is so_far h = so_far new (subst (λ (c : Coded). Grown t1 new c) (sym is) h)

-- nothing is left
pub end_on : (old t1 : Growing) (before whole : Coded) → before ≡ nothing
    → ((t : Growing) → Grown t1 t before → Grown old t whole) → Grown old t1 whole
end_on old t1 before whole is so_far = so_far t1 (subst (λ (c : Coded). Grown t1 t1 c) (sym is) (grown_none t1))

-- what was gathered, with what the rest gives
pub gather : {A : Type 0} (made part rest whole : List A) → made ++ (part ++ rest) ≡ whole
    → (made ++ part) ++ rest ≡ whole
gather made part rest whole e = append_assoc made part rest ∙ e
