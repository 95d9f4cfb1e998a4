-- What is numbered by first appearance is found by its number.
use Rattle.std.proofs.Common.{◌≡◌, ◌⊎◌, inl, inr, ℕ, zero, suc, ◌+◌, Bool, true, false, List, [], ◌∷◌}
use Rattle.std.proofs.Common.{Option, Some, None, slice_get, refl, sym, ap, ◌∙◌, subst, arith, true≢false}
use Rattle.std.proofs.Common.{if◌then◌else◌, map}
use Rattle.cat_scope.specs.Names.{AllHave, IsOneOf}
use Rattle.cat_guard.specs.Numbering.{is_seen, firsts, number_of}

-- an element at the number of one that is the same
pub record Found {A : Type 0} (same : A → A → Bool) (a : A) (xs : List A) : Type 0 where
  pub value : A
  pub there : slice_get xs (number_of same a xs) ≡ Some value
  pub is : same value a ≡ true

one_plus : (n : ℕ) → 1 + n ≡ suc n
one_plus n = omega arith

module _ {A : Type 0} (same : A → A → Bool) (self : (a : A) → same a a ≡ true) where
  pub found : (a : A) (xs : List A) → is_seen same a xs ≡ true → Found same a xs
  found a [] h = absurd (true≢false (sym h))
  found a (b ∷ bs) h = by (same b a) refl (found a bs) h
    where
      by : (c : Bool) → same b a ≡ c → (is_seen same a bs ≡ true → Found same a bs)
          → (if c then true else is_seen same a bs) ≡ true → Found same a (b ∷ bs)
      by true e rest h = record {
        value = b;
        there = ap (λ c. slice_get (b ∷ bs) (if c then 0 else 1 + number_of same a bs)) e;
        is = e;
      }
      by false e rest h = let f = rest h in record {
        value = f.value;
        there = ap (λ c. slice_get (b ∷ bs) (if c then 0 else 1 + number_of same a bs)) e
            ∙ next (number_of same a bs) ∙ f.there;
        is = f.is;
      }
        where
          next : (n : ℕ) → slice_get (b ∷ bs) (1 + n) ≡ slice_get bs n
          next n = ap (slice_get (b ∷ bs)) (one_plus n)

  seen_more : (a b : A) (xs : List A) → is_seen same a xs ≡ true → is_seen same a (b ∷ xs) ≡ true
  seen_more a b xs h = by (same b a)
    where
      by : (c : Bool) → (if c then true else is_seen same a xs) ≡ true
      by true = refl
      by false = h

  -- one that is the same as an element is among those seen or among the first ones
  kept : (xs seen : List A) (a : A) → IsOneOf a xs
      → (is_seen same a seen ≡ true) ⊎ (is_seen same a (firsts same seen xs) ≡ true)
  kept [] seen a among = elim among [ ]
  kept (x ∷ xs) seen a among =
      by (is_seen same x seen) refl among (kept xs seen a) (kept xs (x ∷ seen) a)
    where
      here : (a ≡ x) → (c : Bool) → is_seen same x seen ≡ c
          → (is_seen same a seen ≡ true)
          ⊎ (is_seen same a (if c then firsts same seen xs else x ∷ firsts same (x ∷ seen) xs) ≡ true)
      here e true h = inl (ap (λ y. is_seen same y seen) e ∙ h)
      here e false h = inr (ap (λ c. if c then true else is_seen same a (firsts same (x ∷ seen) xs))
          (ap (same x) e ∙ self x))

      -- what was kept behind x
      behind : (is_seen same a (x ∷ seen) ≡ true) ⊎ (is_seen same a (firsts same (x ∷ seen) xs) ≡ true)
          → (is_seen same a seen ≡ true) ⊎ (is_seen same a (x ∷ firsts same (x ∷ seen) xs) ≡ true)
      behind (inl h) = first (same x a) refl h
        where
          first : (c : Bool) → same x a ≡ c → (if c then true else is_seen same a seen) ≡ true
              → (is_seen same a seen ≡ true) ⊎ (is_seen same a (x ∷ firsts same (x ∷ seen) xs) ≡ true)
          first true e h = inr (ap (λ c. if c then true else is_seen same a (firsts same (x ∷ seen) xs)) e)
          first false e h = inl h
      behind (inr h) = inr (seen_more a x (firsts same (x ∷ seen) xs) h)

      by : (c : Bool) → is_seen same x seen ≡ c → (a ≡ x) ⊎ IsOneOf a xs
          → (IsOneOf a xs → (is_seen same a seen ≡ true) ⊎ (is_seen same a (firsts same seen xs) ≡ true))
          → (IsOneOf a xs → (is_seen same a (x ∷ seen) ≡ true) ⊎ (is_seen same a (firsts same (x ∷ seen) xs) ≡ true))
          → (is_seen same a seen ≡ true)
          ⊎ (is_seen same a (if c then firsts same seen xs else x ∷ firsts same (x ∷ seen) xs) ≡ true)
      by c h (inl e) old new = here e c h
      by true h (inr more) old new = old more
      by false h (inr more) old new = behind (new more)

  pub numbered : (xs : List A) (a : A) → IsOneOf a xs → Found same a (firsts same [] xs)
  numbered xs a among = by (kept xs [] a among)
    where
      by : (is_seen same a [] ≡ true) ⊎ (is_seen same a (firsts same [] xs) ≡ true) → Found same a (firsts same [] xs)
      by (inl h) = absurd (true≢false (sym h))
      by (inr h) = found a (firsts same [] xs) h

pub all_at : {A : Type 0} (P : A → Type 0) (xs : List A) (n : ℕ) (x : A) → AllHave P xs → slice_get xs n ≡ Some x → P x
all_at P [] n x h e = absurd (cc)
all_at {A = A} P (y ∷ xs) zero x h e = subst P (ap (or_this y) e) h.0
  where
    or_this : A → Option A → A
    or_this a None = a
    or_this a (Some b) = b
all_at P (y ∷ xs) (suc n) x h e = all_at P xs n x h.1 e

pub get_map : {A B : Type 0} (f : A → B) (xs : List A) (n : ℕ) (x : A) → slice_get xs n ≡ Some x
    → slice_get (map f xs) n ≡ Some (f x)
get_map f [] n x e = absurd (cc)
get_map {A = A} f (y ∷ xs) zero x e = ap (λ z. Some (f z)) (ap (or_this y) e)
  where
    or_this : A → Option A → A
    or_this a None = a
    or_this a (Some b) = b
get_map f (y ∷ xs) (suc n) x e = get_map f xs n x e

-- each element is one of the list
pub all_are : {A : Type 0} (xs : List A) → AllHave (λ x. IsOneOf x xs) xs
all_are [] = tt
all_are {A = A} (x ∷ xs) = (inl refl, further xs (all_are xs))
  where
    further : (ys : List A) → AllHave (λ y. IsOneOf y xs) ys → AllHave (λ y. IsOneOf y (x ∷ xs)) ys
    further [] h = tt
    further (y ∷ ys) h = (inr h.0, further ys h.1)
