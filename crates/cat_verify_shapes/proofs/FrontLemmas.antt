-- Lists that are compared or joined element by element, as far as a loop has come.
use Rattle.std.proofs.Common.{◌≡◌, ◌≤◌, ℕ, zero, suc, ◌+◌, Bool, true, false, true≢false, List, [], ◌∷◌, ◌++◌}
use Rattle.std.proofs.Common.{length}
use Rattle.std.proofs.Common.{◌<◌, ◌↔◌, IsTrue, slice_index_or, take, Some, slice_get, refl, sym, ap, ◌∙◌, subst, arith}
use Rattle.std.proofs.Common.{add-one}
use Rattle.std.proofs.lemmas.List.{take_all}
use Rattle.cat_code.specs.Shapes.{AreFewer, AllMeet}
use Rattle.cat_verify_shapes.specs.inside.Zipped.{zipped}
use Rattle.cat_verify_shapes.proofs.ListLemmas.{none_some, some_is}

-- ---- elements that belong to each other

pub meet_more : {A : Type 0} (Meets : A → A → Type 0) (xs ys : List A) (n : ℕ) (x y : A) → slice_get xs n ≡ Some x
    → slice_get ys n ≡ Some y → AllMeet Meets (take n xs) (take n ys) → Meets x y
    → AllMeet Meets (take (n + 1) xs) (take (n + 1) ys)
meet_more {A} Meets xs ys n x y at of h m =
    subst (λ (k : ℕ). AllMeet Meets (take k xs) (take k ys)) (sym (add-one n)) (step xs ys n at of h)
  where
    step : (xs ys : List A) (n : ℕ) → slice_get xs n ≡ Some x → slice_get ys n ≡ Some y
        → AllMeet Meets (take n xs) (take n ys) → AllMeet Meets (take (suc n) xs) (take (suc n) ys)
    step [] ys n at of h = absurd (none_some x at)
    step (a ∷ xs) [] n at of h = absurd (none_some y of)
    step (a ∷ xs) (b ∷ ys) zero at of h =
        (subst (λ (z : A). Meets z b) (sym (some_is a x at)) (subst (Meets x) (sym (some_is b y of)) m), tt)
    step (a ∷ xs) (b ∷ ys) (suc n) at of h = (h.0, step xs ys n at of h.1)

pub meet_all : {A : Type 0} (Meets : A → A → Type 0) (xs ys : List A) (n : ℕ) → length xs ≤ n → length xs ≡ length ys
    → AllMeet Meets (take n xs) (take n ys) → AllMeet Meets xs ys
meet_all {A} Meets xs ys n past long h =
    subst (λ (l : List A). AllMeet Meets l ys) (take_all n xs past)
    (subst (λ (l : List A). AllMeet Meets (take n xs) l) (take_all n ys (omega (arith, past, long))) h)

pub meet_at : {A : Type 0} (Meets : A → A → Type 0) (xs ys : List A) (n : ℕ) (x y : A) → slice_get xs n ≡ Some x
    → slice_get ys n ≡ Some y → AllMeet Meets xs ys → Meets x y
meet_at Meets [] ys n x y at of h = absurd (none_some x at)
meet_at Meets (a ∷ xs) [] n x y at of h = absurd (none_some y of)
meet_at {A} Meets (a ∷ xs) (b ∷ ys) zero x y at of h =
    subst (λ (z : A). Meets z y) (some_is a x at) (subst (Meets a) (some_is b y of) h.0)
meet_at Meets (a ∷ xs) (b ∷ ys) (suc n) x y at of h = meet_at Meets xs ys n x y at of h.1

pub meet_long : {A : Type 0} (Meets : A → A → Type 0) (xs ys : List A) → AllMeet Meets xs ys → length xs ≡ length ys
meet_long Meets [] [] h = refl
meet_long Meets [] (b ∷ ys) h = absurd h
meet_long Meets (a ∷ xs) [] h = absurd h
meet_long Meets (a ∷ xs) (b ∷ ys) h = ap suc (meet_long Meets xs ys h.1)

-- ---- flags

pub fewer_more : (xs ys : List Bool) (n : ℕ) (x y : Bool) → slice_get xs n ≡ Some x → slice_get ys n ≡ Some y
    → AreFewer (take n xs) (take n ys) → (x ≡ true → y ≡ true) → AreFewer (take (n + 1) xs) (take (n + 1) ys)
fewer_more xs ys n x y at of h so =
    subst (λ (k : ℕ). AreFewer (take k xs) (take k ys)) (sym (add-one n)) (step xs ys n at of h)
  where
    step : (xs ys : List Bool) (n : ℕ) → slice_get xs n ≡ Some x → slice_get ys n ≡ Some y
        → AreFewer (take n xs) (take n ys) → AreFewer (take (suc n) xs) (take (suc n) ys)
    step [] ys n at of h = absurd (none_some x at)
    step (a ∷ xs) [] n at of h = absurd (none_some y of)
    step (true ∷ xs) (b ∷ ys) zero at of h = (some_is b y of ∙ so (sym (some_is true x at)), tt)
    step (false ∷ xs) (b ∷ ys) zero at of h = tt
    step (true ∷ xs) (b ∷ ys) (suc n) at of h = (h.0, step xs ys n at of h.1)
    step (false ∷ xs) (b ∷ ys) (suc n) at of h = step xs ys n at of h

pub fewer_at : (xs ys : List Bool) (n : ℕ) (y : Bool) → slice_get xs n ≡ Some true → slice_get ys n ≡ Some y
    → AreFewer xs ys → y ≡ true
fewer_at [] ys n y at of h = absurd (none_some true at)
fewer_at (a ∷ xs) [] n y at of h = absurd (none_some y of)
fewer_at (true ∷ xs) (b ∷ ys) zero y at of h = sym (some_is b y of) ∙ h.0
fewer_at (false ∷ xs) (b ∷ ys) zero y at of h = absurd (true≢false (sym (some_is false true at)))
fewer_at (true ∷ xs) (b ∷ ys) (suc n) y at of h = fewer_at xs ys n y at of h.1
fewer_at (false ∷ xs) (b ∷ ys) (suc n) y at of h = fewer_at xs ys n y at of h

-- ---- lists that are joined

pub zipped_more : {A : Type 0} (f : A → A → A) (xs ys : List A) (n : ℕ) (x y : A) → slice_get xs n ≡ Some x
    → slice_get ys n ≡ Some y
    → zipped f (take (n + 1) xs) (take (n + 1) ys) ≡ zipped f (take n xs) (take n ys) ++ f x y ∷ []
zipped_more {A} f xs ys n x y at of =
    ap (λ (k : ℕ). zipped f (take k xs) (take k ys)) (add-one n) ∙ step xs ys n at of
  where
    step : (xs ys : List A) (n : ℕ) → slice_get xs n ≡ Some x → slice_get ys n ≡ Some y
        → zipped f (take (suc n) xs) (take (suc n) ys) ≡ zipped f (take n xs) (take n ys) ++ f x y ∷ []
    step [] ys n at of = absurd (none_some x at)
    step (a ∷ xs) [] n at of = absurd (none_some y of)
    step (a ∷ xs) (b ∷ ys) zero at of =
        ap (λ (z : A). f z b ∷ []) (some_is a x at) ∙ ap (λ (z : A). f x z ∷ []) (some_is b y of)
    step (a ∷ xs) (b ∷ ys) (suc n) at of = ap (λ (l : List A). f a b ∷ l) (step xs ys n at of)

pub zipped_all : {A : Type 0} (f : A → A → A) (xs ys : List A) (n : ℕ) → length xs ≤ n → length xs ≡ length ys
    → zipped f (take n xs) (take n ys) ≡ zipped f xs ys
zipped_all {A} f xs ys n past long =
    ap (λ (l : List A). zipped f l (take n ys)) (take_all n xs past)
    ∙ ap (zipped f xs) (take_all n ys (omega (arith, past, long)))

-- ---- tests

pub tells_so : {P : Type 0} → P → IsTrue true ↔ P
tells_so h = (λ e. h, λ p. refl)

pub tells_not : {P : Type 0} → (P → ⊥) → IsTrue false ↔ P
tells_not none = (λ e. absurd (true≢false (sym e)), λ p. absurd (none p))

-- what is read at an index within a list
pub slot_is : {A : Type 0} (xs : List A) (n : ℕ) (d : A) → n < length xs → slice_get xs n ≡ Some (slice_index_or xs n d)
slot_is [] n d h = absurd (omega (arith, h))
slot_is (x ∷ xs) zero d h = refl
slot_is (x ∷ xs) (suc n) d h = slot_is xs n d (omega (arith, h))
