-- What holds of each element of a list, and of texts apart.
use Rattle.std.proofs.Common.{◌≡◌, ◌⊎◌, ℕ, zero, suc, false, true≢false, List, [], ◌∷◌, ◌++◌, map}
use Rattle.std.proofs.Common.{Some, slice_get, refl, sym, ap, ◌∙◌, subst, inl, inr}
use Rattle.std.specs.Prelude.{bytes_eq}
use Rattle.std.proofs.lemmas.Slice.Eq.{bytes_eq-Decides}
use Rattle.cat_scope.specs.Names.{AllHave, IsOneOf}
use Rattle.cat_names.proofs.Exported.{Apart, in_front, behind}
use Rattle.cat_verify_tables.proofs.Exported.{one_there}
use Rattle.cat_emitted.specs.Spelled.{AreApart}

-- ---- what holds of each

pub all_left : {A : Type 0} (P : A → Type 0) (xs ys : List A) → AllHave P (xs ++ ys) → AllHave P xs
all_left P [] ys h = tt
all_left P (x ∷ xs) ys h = (h.0, all_left P xs ys h.1)

pub all_right : {A : Type 0} (P : A → Type 0) (xs ys : List A) → AllHave P (xs ++ ys) → AllHave P ys
all_right P [] ys h = h
all_right P (x ∷ xs) ys h = all_right P xs ys h.1

pub all_at : {A : Type 0} (P : A → Type 0) (xs : List A) (k : ℕ) (x : A) → AllHave P xs → slice_get xs k ≡ Some x → P x
all_at P [] k x all h = cc h
all_at P (y ∷ ys) zero x all h = let is : y ≡ x = cc h in subst P is all.0
all_at P (y ∷ ys) (suc k) x all h = all_at P ys k x all.1 h

pub all_of_one : {A : Type 0} (P : A → Type 0) (xs : List A) (x : A) → AllHave P xs → IsOneOf x xs → P x
all_of_one P [] x all h = elim h [ ]
all_of_one P (y ∷ ys) x all (inl is) = subst P (sym is) all.0
all_of_one P (y ∷ ys) x all (inr h) = all_of_one P ys x all.1 h

-- ---- one of a list

pub at_one : {A : Type 0} (xs : List A) (x : A) → IsOneOf x xs → (k : ℕ) × (slice_get xs k ≡ Some x)
at_one [] x h = elim h [ ]
at_one (y ∷ ys) x (inl is) = (zero, ap (λ z. Some z) (sym is))
at_one (y ∷ ys) x (inr h) = let more = at_one ys x h in (suc more.0, more.1)

pub one_mapped : {A B : Type 0} (f : A → B) (x : A) (xs : List A) → IsOneOf x xs → IsOneOf (f x) (map f xs)
one_mapped f x [] h = elim h [ ]
one_mapped f x (y ∷ xs) (inl is) = inl (ap f is)
one_mapped f x (y ∷ xs) (inr h) = inr (one_mapped f x xs h)

pub one_unmapped : {A B : Type 0} (f : A → B) (y : B) (xs : List A) → IsOneOf y (map f xs)
    → (x : A) × IsOneOf x xs × (y ≡ f x)
one_unmapped f y [] h = elim h [ ]
one_unmapped f y (x ∷ xs) (inl is) = (x, inl refl, is)
one_unmapped f y (x ∷ xs) (inr h) = let more = one_unmapped f y xs h in (more.0, inr more.1, more.2)

pub one_of_both : {A : Type 0} (xs ys : List A) (x : A) → IsOneOf x (xs ++ ys) → IsOneOf x xs ⊎ IsOneOf x ys
one_of_both [] ys x one = inr one
one_of_both (z ∷ xs) ys x (inl is) = inl (inl is)
one_of_both (z ∷ xs) ys x (inr one) = by (one_of_both xs ys x one)
  where
    by : IsOneOf x xs ⊎ IsOneOf x ys → IsOneOf x (z ∷ xs) ⊎ IsOneOf x ys
    by (inl more) = inl (inr more)
    by (inr other) = inr other

-- ---- texts apart

pub not_one : (t : List ℕ) (ts : List (List ℕ)) → AllHave (λ u. bytes_eq t u ≡ false) ts → IsOneOf t ts → ⊥
not_one t [] all h = h
not_one t (u ∷ us) all (inl is) = true≢false (sym ((bytes_eq-Decides t u).1 is) ∙ all.0)
not_one t (u ∷ us) all (inr h) = not_one t us all.1 h

pub apart_texts : (ts : List (List ℕ)) → Apart ts → AreApart ts
apart_texts [] h = tt
apart_texts (t ∷ ts) h = (not_one t ts h.0, apart_texts ts h.1)

pub apart_left : (xs ys : List (List ℕ)) → AreApart (xs ++ ys) → AreApart xs
apart_left [] ys h = tt
apart_left (x ∷ xs) ys h = (λ one. h.0 (in_front x xs ys one), apart_left xs ys h.1)

pub apart_right : (xs ys : List (List ℕ)) → AreApart (xs ++ ys) → AreApart ys
apart_right [] ys h = h
apart_right (x ∷ xs) ys h = apart_right xs ys h.1

-- what stands in one part doesn't stand in the other
pub apart_across : (xs ys : List (List ℕ)) (t : List ℕ) → AreApart (xs ++ ys) → IsOneOf t xs → IsOneOf t ys → ⊥
apart_across [] ys t h one other = one
apart_across (x ∷ xs) ys t h (inl is) other =
    h.0 (behind x xs ys (subst (λ (u : List ℕ). IsOneOf u ys) is other))
apart_across (x ∷ xs) ys t h (inr one) other = apart_across xs ys t h.1 one other

-- each stands at one place
pub apart_places : {A : Type 0} (name : A → List ℕ) (xs : List A) (k l : ℕ) (x y : A) → AreApart (map name xs)
    → slice_get xs k ≡ Some x → slice_get xs l ≡ Some y → name x ≡ name y → k ≡ l
apart_places name [] k l x y apart h i same = cc h
apart_places name (z ∷ zs) zero zero x y apart h i same = refl
apart_places name (z ∷ zs) zero (suc l) x y apart h i same =
    let is : z ≡ x = cc h in
    absurd (apart.0 (subst (λ (t : List ℕ). IsOneOf t (map name zs)) (sym (ap name is ∙ same))
    (one_mapped name y zs (one_there zs l y i))))
apart_places name (z ∷ zs) (suc k) zero x y apart h i same =
    let is : z ≡ y = cc i in
    absurd (apart.0 (subst (λ (t : List ℕ). IsOneOf t (map name zs)) (sym (ap name is ∙ sym same))
    (one_mapped name x zs (one_there zs k x h))))
apart_places name (z ∷ zs) (suc k) (suc l) x y apart h i same =
    ap suc (apart_places name zs k l x y apart.1 h i same)

-- a text is put between those of two lists
pub apart_between : (t : List ℕ) (xs ys : List (List ℕ)) → AreApart (xs ++ ys) → (IsOneOf t (xs ++ ys) → ⊥)
    → AreApart (xs ++ t ∷ ys)
apart_between t [] ys h none = (none, h)
apart_between t (x ∷ xs) ys h none = (
  λ one. by one,
  apart_between t xs ys h.1 (λ one. none (inr one)),
)
  where
    by : IsOneOf x (xs ++ t ∷ ys) → ⊥
    by one = split xs one h.0 (λ is. none (inl (sym is)))
      where
        split : (zs : List (List ℕ)) → IsOneOf x (zs ++ t ∷ ys) → (IsOneOf x (zs ++ ys) → ⊥) → (x ≡ t → ⊥) → ⊥
        split [] (inl is) other same = same is
        split [] (inr more) other same = other more
        split (z ∷ zs) (inl is) other same = other (inl is)
        split (z ∷ zs) (inr more) other same = split zs more (λ o. other (inr o)) same
