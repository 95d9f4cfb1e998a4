-- What holds of the elements of lists.
use Rattle.std.proofs.Common.{◌≡◌, ◌≤◌, ℕ, zero, suc, inl, inr, List, [], ◌∷◌, map, length, drop, Some, slice_get}
use Rattle.std.proofs.Common.{refl, sym, ap, subst, arith}
use Rattle.cat_scope.specs.Names.{AllHave, IsOneOf}

pub among_all : {A : Type 0} (P : A → Type 0) (xs : List A) (x : A) → AllHave P xs → IsOneOf x xs → P x
among_all P [] x h among = elim among [ ]
among_all P (y ∷ ys) x h (inl e) = subst P (sym e) h.0
among_all P (y ∷ ys) x h (inr more) = among_all P ys x h.1 more

pub all_of : {A : Type 0} (P : A → Type 0) (xs : List A) → ((x : A) → IsOneOf x xs → P x) → AllHave P xs
all_of P [] go = tt
all_of P (x ∷ xs) go = (go x (inl refl), all_of P xs (λ y among. go y (inr among)))

pub all_mapped : {A B : Type 0} (P : B → Type 0) (f : A → B) (xs : List A) → AllHave (λ x. P (f x)) xs
    → AllHave P (map f xs)
all_mapped P f [] h = tt
all_mapped P f (x ∷ xs) h = (h.0, all_mapped P f xs h.1)

-- ---- the rest of a list

pub drop_next : {A : Type 0} (xs : List A) (i : ℕ) (x : A) → slice_get xs i ≡ Some x → drop i xs ≡ x ∷ drop (suc i) xs
drop_next [] i x e = absurd (cc e)
drop_next (y ∷ xs) zero x e = let same : y ≡ x = cc e in ap (λ z. z ∷ xs) same
drop_next (y ∷ xs) (suc i) x e = drop_next xs i x e

pub drop_past : {A : Type 0} (xs : List A) (n : ℕ) → length xs ≤ n → drop n xs ≡ []
drop_past [] zero short = refl
drop_past [] (suc n) short = refl
drop_past (x ∷ xs) zero short = absurd (omega (arith, short))
drop_past (x ∷ xs) (suc n) short = drop_past xs n (omega (arith, short))
