-- One of a list, and what stands at an index.
use Rattle.std.proofs.Common.{◌≡◌, ◌<◌, ◌≤◌, ◌⊎◌, ℕ, zero, suc, List, [], ◌∷◌, ◌++◌, length, map, refl, sym, ap}
use Rattle.std.proofs.Common.{inl, inr, arith, Option, Some, None}
use Rattle.std.specs.Prelude.{slice_get}
use Rattle.cat_scope.specs.Names.{IsOneOf}

pub in_front : {A : Type 0} (x : A) (xs ys : List A) → IsOneOf x xs → IsOneOf x (xs ++ ys)
in_front x [] ys one = absurd one
in_front x (z ∷ xs) ys (inl same) = inl same
in_front x (z ∷ xs) ys (inr more) = inr (in_front x xs ys more)

pub in_back : {A : Type 0} (x : A) (xs ys : List A) → IsOneOf x ys → IsOneOf x (xs ++ ys)
in_back x [] ys one = one
in_back x (z ∷ xs) ys one = inr (in_back x xs ys one)

pub either_of : {A : Type 0} (x : A) (xs ys : List A) → IsOneOf x (xs ++ ys) → IsOneOf x xs ⊎ IsOneOf x ys
either_of x [] ys one = inr one
either_of x (z ∷ xs) ys (inl same) = inl (inl same)
either_of x (z ∷ xs) ys (inr more) = by (either_of x xs ys more)
  where
    by : IsOneOf x xs ⊎ IsOneOf x ys → IsOneOf x (z ∷ xs) ⊎ IsOneOf x ys
    by (inl one) = inl (inr one)
    by (inr one) = inr one

pub last_of : {A : Type 0} (x : A) (xs : List A) (y : A) → IsOneOf x (xs ++ y ∷ []) → IsOneOf x xs ⊎ (x ≡ y)
last_of x xs y one = by (either_of x xs (y ∷ []) one)
  where
    by : IsOneOf x xs ⊎ IsOneOf x (y ∷ []) → IsOneOf x xs ⊎ (x ≡ y)
    by (inl front) = inl front
    by (inr (inl same)) = inr same
    by (inr (inr none)) = absurd none

pub in_map : {A B : Type 0} (f : A → B) (xs : List A) (x : A) → IsOneOf x xs → IsOneOf (f x) (map f xs)
in_map f [] x one = absurd one
in_map f (y ∷ xs) x (inl same) = inl (ap f same)
in_map f (y ∷ xs) x (inr more) = inr (in_map f xs x more)

pub of_map : {A B : Type 0} (f : A → B) (xs : List A) (y : B) → IsOneOf y (map f xs)
    → (x : A) × (y ≡ f x) × IsOneOf x xs
of_map f [] y one = absurd one
of_map f (x ∷ xs) y (inl same) = (x, same, inl refl)
of_map f (x ∷ xs) y (inr more) =
    let rest = of_map f xs y more in (rest.0, rest.1, inr rest.2)

-- ---- what stands at an index

pub within_of : {A : Type 0} (xs : List A) (k : ℕ) (x : A) → slice_get xs k ≡ Some x → k < length xs
within_of [] k x h = absurd (cc h)
within_of (y ∷ xs) zero x h = omega arith
within_of (y ∷ xs) (suc k) x h = let r : k < length xs = within_of xs k x h in omega (arith, r)

pub past_of : {A : Type 0} (xs : List A) (k : ℕ) → slice_get xs k ≡ None → length xs ≤ k
past_of [] k h = omega arith
past_of (y ∷ xs) zero h = absurd (cc h)
past_of (y ∷ xs) (suc k) h = let r : length xs ≤ k = past_of xs k h in omega (arith, r)

pub same_some : {A : Type 0} (o : Option A) (x y : A) → o ≡ Some x → o ≡ Some y → y ≡ x
same_some o x y h k = cc (h, k)

pub at_within : {A : Type 0} (xs : List A) (k : ℕ) → k < length xs → (x : A) × (slice_get xs k ≡ Some x)
at_within [] k within = absurd (omega (arith, within))
at_within (y ∷ xs) zero within = (y, refl)
at_within (y ∷ xs) (suc k) within = at_within xs k (omega (arith, within))

pub in_at : {A : Type 0} (xs : List A) (k : ℕ) (x : A) → slice_get xs k ≡ Some x → IsOneOf x xs
in_at [] k x h = absurd (cc h)
in_at (y ∷ xs) zero x h = inl (same h)
  where
    same : Some y ≡ Some x → x ≡ y
    same e = cc e
in_at (y ∷ xs) (suc k) x h = inr (in_at xs k x h)

pub at_of_in : {A : Type 0} (xs : List A) (x : A) → IsOneOf x xs → (k : ℕ) × (slice_get xs k ≡ Some x)
at_of_in [] x one = absurd one
at_of_in (y ∷ xs) x (inl same) = (0, ap Some (sym same))
at_of_in (y ∷ xs) x (inr more) = let rest = at_of_in xs x more in (suc rest.0, rest.1)

pub at_of_map : {A B : Type 0} (f : A → B) (xs : List A) (k : ℕ) (y : B) → slice_get (map f xs) k ≡ Some y
    → (x : A) × (slice_get xs k ≡ Some x) × (y ≡ f x)
at_of_map f [] k y h = absurd (cc h)
at_of_map f (x ∷ xs) zero y h = (x, refl, same h)
  where
    same : Some (f x) ≡ Some y → y ≡ f x
    same e = cc e
at_of_map f (x ∷ xs) (suc k) y h = at_of_map f xs k y h

pub map_at : {A B : Type 0} (f : A → B) (xs : List A) (k : ℕ) (x : A) → slice_get xs k ≡ Some x
    → slice_get (map f xs) k ≡ Some (f x)
map_at f [] k x h = absurd (cc h)
map_at f (y ∷ xs) zero x h = ap (λ z. Some (f z)) (same h)
  where
    same : Some y ≡ Some x → y ≡ x
    same e = cc e
map_at f (y ∷ xs) (suc k) x h = map_at f xs k x h
