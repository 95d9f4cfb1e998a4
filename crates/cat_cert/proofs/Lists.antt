-- Elements of lists by their numbers.
use Rattle.std.proofs.Common.{◌≡◌, ℕ, zero, suc, ◌+◌, ◌<◌, List, [], ◌∷◌, length, take, drop, Option, None, Some}
use Rattle.std.proofs.Common.{slice_get, ◌∙◌, subst, arith, add-one, IfSome, IfOk, Result, Ok, Err}
use Rattle.cat_scope.specs.Names.{AllHave}

pub drop_at : {A : Type 0} (xs : List A) (k : ℕ) (x : A) → slice_get xs k ≡ Some x → drop k xs ≡ x ∷ drop (suc k) xs
drop_at [] k x h = absurd (cc)
drop_at (y ∷ ys) zero x h = cc
drop_at (y ∷ ys) (suc k) x h = drop_at ys k x h

pub below_length : {A : Type 0} (xs : List A) (k : ℕ) (x : A) → slice_get xs k ≡ Some x → k < length xs
below_length [] k x h = absurd (cc)
below_length (y ∷ ys) zero x h = omega arith
below_length (y ∷ ys) (suc k) x h = let rest = below_length ys k x h in omega (arith, rest)

pub have_at : {A : Type 0} (Has : A → Type 0) (xs : List A) (k : ℕ) (x : A) → slice_get xs k ≡ Some x → AllHave Has xs
    → Has x
have_at Has [] k x at all = absurd (cc)
have_at Has (y ∷ ys) zero x at all = let same : y ≡ x = cc in subst Has same all.0
have_at Has (y ∷ ys) (suc k) x at all = have_at Has ys k x at all.1

pub have_taken : {A : Type 0} (Has : A → Type 0) (xs : List A) (k : ℕ) (x : A) → slice_get xs k ≡ Some x → Has x
    → AllHave Has (take k xs) → AllHave Has (take (suc k) xs)
have_taken Has [] k x at is all = absurd (cc)
have_taken Has (y ∷ ys) zero x at is all = let same : x ≡ y = cc in (subst Has same is, tt)
have_taken Has (y ∷ ys) (suc k) x at is all = (all.0, have_taken Has ys k x at is all.1)

pub have_each : {A : Type 0} (Has Is : A → Type 0) → ((x : A) → Has x → Is x) → (xs : List A) → AllHave Has xs
    → AllHave Is xs
have_each Has Is each [] all = tt
have_each Has Is each (x ∷ xs) all = (each x all.0, have_each Has Is each xs all.1)

pub some_at : {A : Type 0} (o : Option A) (x : A) (Has : A → Type 0) → o ≡ Some x → IfSome o Has → Has x
some_at None x Has is h = absurd (cc)
some_at (Some y) x Has is h = let same : y ≡ x = cc in subst Has same h

-- what is equal to one text is equal to another
pub if_moved : {A E : Type 0} (r : Result A E) (f : A → List ℕ) (x y : List ℕ) → x ≡ y → IfOk r (λ a. f a ≡ x)
    → IfOk r (λ a. f a ≡ y)
if_moved (Ok a) f x y same is = is ∙ same
if_moved (Err e) f x y same is = is

-- the same behind one element more
pub taken_more : {A : Type 0} (Has : A → Type 0) (xs : List A) (k : ℕ) (x : A) → slice_get xs k ≡ Some x → Has x
    → AllHave Has (take k xs) → AllHave Has (take (k + 1) xs)
taken_more Has xs k x at is all = rw (add-one k) (have_taken Has xs k x at is all)

pub left_more : {A : Type 0} (Has : A → Type 0) (xs : List A) (k : ℕ) (x : A) → slice_get xs k ≡ Some x
    → AllHave Has (drop k xs) → AllHave Has (drop (k + 1) xs)
left_more Has xs k x at all = rw (add-one k) (subst (AllHave Has) (drop_at xs k x at) all).1
