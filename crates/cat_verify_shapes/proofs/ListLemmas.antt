-- What lists have at an index.
use Rattle.std.proofs.Common.{◌≡◌, ℕ, zero, suc, Bool, true, false, true≢false, List, [], ◌∷◌}
use Rattle.std.proofs.Common.{length, map}
use Rattle.std.proofs.Common.{Option, Some, None, slice_get, slice_set, refl, sym, ap, arith}
use Rattle.std.specs.Prelude.{replicate}
use Rattle.std.specs.Option.{option_map}

pub none_some : {A : Type 0} (x : A) → None ≡ Some x → ⊥
none_some {A} x e = true≢false (ap (λ (o : Option A). is_none o) e)
  where
    is_none : Option A → Bool
    is_none None = true
    is_none (Some a) = false

pub some_is : {A : Type 0} (x y : A) → Some x ≡ Some y → x ≡ y
some_is {A} x y e = ap (λ (o : Option A). or_x o) e
  where
    or_x : Option A → A
    or_x None = x
    or_x (Some a) = a

pub head_is : {A : Type 0} (x y : A) (xs ys : List A) → x ∷ xs ≡ y ∷ ys → x ≡ y
head_is {A} x y xs ys e = ap or_x e
  where
    or_x : List A → A
    or_x [] = x
    or_x (z ∷ zs) = z

pub rest_is : {A : Type 0} (x y : A) (xs ys : List A) → x ∷ xs ≡ y ∷ ys → xs ≡ ys
rest_is {A} x y xs ys e = ap behind e
  where
    behind : List A → List A
    behind [] = []
    behind (z ∷ zs) = zs

pub empty_not : {A : Type 0} (x : A) (xs : List A) → [] ≡ x ∷ xs → ⊥
empty_not {A} x xs e = true≢false (ap is_empty e)
  where
    is_empty : List A → Bool
    is_empty [] = true
    is_empty (z ∷ zs) = false

pub set_here : {A : Type 0} (xs : List A) (n : ℕ) (x y : A) → slice_get xs n ≡ Some y
    → slice_get (slice_set xs n x) n ≡ Some x
set_here [] n x y e = absurd (none_some y e)
set_here (z ∷ xs) zero x y e = refl
set_here (z ∷ xs) (suc n) x y e = set_here xs n x y e

-- what was set is what stands there
pub set_is : {A : Type 0} (xs : List A) (n : ℕ) (x y : A) → slice_get (slice_set xs n x) n ≡ Some y → x ≡ y
set_is [] n x y e = absurd (none_some y e)
set_is (z ∷ xs) zero x y e = some_is x y e
set_is (z ∷ xs) (suc n) x y e = set_is xs n x y e

pub set_there : {A : Type 0} (xs : List A) (n m : ℕ) (x : A) → (m ≡ n → ⊥)
    → slice_get (slice_set xs n x) m ≡ slice_get xs m
set_there [] n m x h = refl
set_there (z ∷ xs) zero zero x h = absurd (h refl)
set_there (z ∷ xs) zero (suc m) x h = refl
set_there (z ∷ xs) (suc n) zero x h = refl
set_there (z ∷ xs) (suc n) (suc m) x h = set_there xs n m x (λ e. h (ap suc e))

pub set_long : {A : Type 0} (xs : List A) (n : ℕ) (x : A) → length (slice_set xs n x) ≡ length xs
set_long [] n x = refl
set_long (z ∷ xs) zero x = refl
set_long (z ∷ xs) (suc n) x = ap suc (set_long xs n x)

pub set_same : {A : Type 0} (xs : List A) (n : ℕ) (x : A) → slice_get xs n ≡ Some x → slice_set xs n x ≡ xs
set_same [] n x e = refl
set_same {A} (z ∷ xs) zero x e = ap (λ (y : A). y ∷ xs) (sym (some_is z x e))
set_same {A} (z ∷ xs) (suc n) x e = ap (λ (ys : List A). z ∷ ys) (set_same xs n x e)

pub get_map : {A B : Type 0} (f : A → B) (xs : List A) (n : ℕ) → slice_get (map f xs) n ≡ option_map f (slice_get xs n)
get_map f [] n = refl
get_map f (x ∷ xs) zero = refl
get_map f (x ∷ xs) (suc n) = get_map f xs n

pub long_map : {A B : Type 0} (f : A → B) (xs : List A) → length (map f xs) ≡ length xs
long_map f [] = refl
long_map f (x ∷ xs) = ap suc (long_map f xs)

-- what an index of one list has stands in another one as long
pub get_as_long : {A B : Type 0} (xs : List A) (ys : List B) (n : ℕ) (x : A) → length xs ≡ length ys
    → slice_get xs n ≡ Some x → (y : B) × (slice_get ys n ≡ Some y)
get_as_long [] ys n x long e = absurd (none_some x e)
get_as_long (z ∷ xs) [] n x long e = absurd (omega (arith, long))
get_as_long (z ∷ xs) (y ∷ ys) zero x long e = (y, refl)
get_as_long (z ∷ xs) (y ∷ ys) (suc n) x long e = get_as_long xs ys n x (omega (arith, long)) e

pub get_replicate : {A : Type 0} (n k : ℕ) (x y : A) → slice_get (replicate n x) k ≡ Some y → y ≡ x
get_replicate zero k x y e = absurd (none_some y e)
get_replicate (suc n) zero x y e = sym (some_is x y e)
get_replicate (suc n) (suc k) x y e = get_replicate n k x y e

pub replicate_long : {A : Type 0} (n : ℕ) (x : A) → length (replicate n x) ≡ n
replicate_long zero x = refl
replicate_long (suc n) x = ap suc (replicate_long n x)
