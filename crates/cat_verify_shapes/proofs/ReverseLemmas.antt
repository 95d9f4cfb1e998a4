-- Lists that are read from below, and what two of them have element by element.
use Rattle.std.proofs.Common.{◌≡◌, List, [], ◌∷◌, ◌++◌, length, reverse, refl, sym, ap, ◌∙◌, subst, arith}
use Rattle.std.proofs.lemmas.List.{reverse-append, reverse-reverse, length-reverse}
use Rattle.cat_code.specs.Shapes.{AllMeet}
use Rattle.cat_verify_shapes.specs.inside.Zipped.{zipped}

rev_cons : {A : Type 0} (x : A) (xs : List A) → reverse (x ∷ xs) ≡ reverse xs ++ x ∷ []
rev_cons x xs = reverse-append (x ∷ []) xs

pub reverse_same : {A : Type 0} (xs ys : List A) → reverse xs ≡ reverse ys → xs ≡ ys
reverse_same xs ys e = sym (reverse-reverse xs) ∙ ap reverse e ∙ reverse-reverse ys

meet_last : {A : Type 0} (Meets : A → A → Type 0) (xs ys : List A) (x y : A) → AllMeet Meets xs ys → Meets x y
    → AllMeet Meets (xs ++ x ∷ []) (ys ++ y ∷ [])
meet_last Meets [] [] x y h m = (m, tt)
meet_last Meets [] (b ∷ ys) x y h m = absurd h
meet_last Meets (a ∷ xs) [] x y h m = absurd h
meet_last Meets (a ∷ xs) (b ∷ ys) x y h m = (h.0, meet_last Meets xs ys x y h.1 m)

pub meet_reverse : {A : Type 0} (Meets : A → A → Type 0) (xs ys : List A) → AllMeet Meets xs ys
    → AllMeet Meets (reverse xs) (reverse ys)
meet_reverse Meets [] [] h = tt
meet_reverse Meets [] (y ∷ ys) h = absurd h
meet_reverse Meets (x ∷ xs) [] h = absurd h
meet_reverse {A} Meets (x ∷ xs) (y ∷ ys) h =
    subst (λ (l : List A). AllMeet Meets l (reverse (y ∷ ys))) (sym (rev_cons x xs))
    (subst (λ (l : List A). AllMeet Meets (reverse xs ++ x ∷ []) l) (sym (rev_cons y ys))
    (meet_last Meets (reverse xs) (reverse ys) x y (meet_reverse Meets xs ys h.1) h.0))

pub meet_below : {A : Type 0} (Meets : A → A → Type 0) (xs ys : List A) → AllMeet Meets (reverse xs) (reverse ys)
    → AllMeet Meets xs ys
meet_below {A} Meets xs ys h =
    subst (λ (l : List A). AllMeet Meets l ys) (reverse-reverse xs)
    (subst (λ (l : List A). AllMeet Meets (reverse (reverse xs)) l) (reverse-reverse ys)
    (meet_reverse Meets (reverse xs) (reverse ys) h))

zip_last : {A : Type 0} (f : A → A → A) (xs ys : List A) (x y : A) → length xs ≡ length ys
    → zipped f (xs ++ x ∷ []) (ys ++ y ∷ []) ≡ zipped f xs ys ++ f x y ∷ []
zip_last f [] [] x y e = refl
zip_last f [] (b ∷ ys) x y e = absurd (omega (arith, e))
zip_last f (a ∷ xs) [] x y e = absurd (omega (arith, e))
zip_last {A} f (a ∷ xs) (b ∷ ys) x y e =
    ap (λ (l : List A). f a b ∷ l) (zip_last f xs ys x y (omega (arith, e)))

pub zip_reverse : {A : Type 0} (f : A → A → A) (xs ys : List A) → length xs ≡ length ys
    → zipped f (reverse xs) (reverse ys) ≡ reverse (zipped f xs ys)
zip_reverse f [] [] e = refl
zip_reverse f [] (y ∷ ys) e = absurd (omega (arith, e))
zip_reverse f (x ∷ xs) [] e = absurd (omega (arith, e))
zip_reverse {A} f (x ∷ xs) (y ∷ ys) e =
    ap (λ (l : List A). zipped f l (reverse (y ∷ ys))) (rev_cons x xs)
    ∙ ap (zipped f (reverse xs ++ x ∷ [])) (rev_cons y ys)
    ∙ zip_last f (reverse xs) (reverse ys) x y (length-reverse xs ∙ same ∙ sym (length-reverse ys))
    ∙ ap (λ (l : List A). l ++ f x y ∷ []) (zip_reverse f xs ys same)
    ∙ sym (rev_cons (f x y) (zipped f xs ys))
  where
    same : length xs ≡ length ys
    same = omega (arith, e)
