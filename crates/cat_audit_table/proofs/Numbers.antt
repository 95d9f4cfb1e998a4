-- What is numbered by first appearance is found by its number.
use Rattle.std.proofs.Common.{◌≡◌, ℕ, suc, ◌+◌, ◌<◌, Bool, true, false, List, [], ◌∷◌, map, length}
use Rattle.std.proofs.Common.{Some, slice_get, refl, sym, ap, ◌∙◌, arith, true≢false, if◌then◌else◌}
use Rattle.std.specs.List.{list_all}
use Rattle.cat_scope.specs.Names.{AllHave}
use Rattle.cat_region.proofs.Exported.{and-both}
use Rattle.cat_guard.specs.Numbering.{is_seen, number_of}

pub all_each : {A : Type 0} {P Q : A → Type 0} (xs : List A) → ((a : A) → P a → Q a) → AllHave P xs → AllHave Q xs
all_each [] go h = tt
all_each (x ∷ xs) go h = (go x h.0, all_each xs go h.1)

pub all_both : {A : Type 0} {P Q R : A → Type 0} (xs : List A) → ((a : A) → P a → Q a → R a) → AllHave P xs
    → AllHave Q xs → AllHave R xs
all_both [] go h k = tt
all_both (x ∷ xs) go h k = (go x h.0 k.0, all_both xs go h.1 k.1)

-- a test that each passes
pub all_pass : {A B : Type 0} (f : A → B) (test : B → Bool) (xs : List A) → AllHave (λ x. test (f x) ≡ true) xs
    → list_all test (map f xs) ≡ true
all_pass f test [] h = refl
all_pass f test (x ∷ xs) h = and-both (test (f x)) (list_all test (map f xs)) h.0 (all_pass f test xs h.1)

-- an element at the number of one that is the same
pub record Found {A B : Type 0} (same : A → A → Bool) (f : A → B) (a : A) (xs : List A) : Type 0 where
  pub value : A
  pub there : slice_get (map f xs) (number_of same a xs) ≡ Some (f value)
  pub is : same value a ≡ true

one_plus : (n : ℕ) → 1 + n ≡ suc n
one_plus n = omega arith

pub found : {A B : Type 0} (same : A → A → Bool) (f : A → B) (a : A) (xs : List A) → is_seen same a xs ≡ true
    → Found same f a xs
found same f a [] h = absurd (true≢false (sym h))
found same f a (x ∷ xs) h = by (same x a) refl h (found same f a xs)
  where
    by : (c : Bool) → same x a ≡ c → (if c then true else is_seen same a xs) ≡ true
        → (is_seen same a xs ≡ true → Found same f a xs) → Found same f a (x ∷ xs)
    by true e h rest = record {
      value = x;
      there = ap (λ (c : Bool). slice_get (map f (x ∷ xs)) (if c then 0 else 1 + number_of same a xs)) e;
      is = e;
    }
    by false e h rest = let more = rest h in record {
      value = more.value;
      there = ap (λ (c : Bool). slice_get (map f (x ∷ xs)) (if c then 0 else 1 + number_of same a xs)) e
          ∙ ap (slice_get (map f (x ∷ xs))) (one_plus (number_of same a xs)) ∙ more.there;
      is = more.is;
    }

pub number_below : {A : Type 0} (same : A → A → Bool) (a : A) (xs : List A) → is_seen same a xs ≡ true
    → number_of same a xs < length xs
number_below same a [] h = absurd (true≢false (sym h))
number_below same a (x ∷ xs) h = by (same x a) h (number_below same a xs)
  where
    by : (c : Bool) → (if c then true else is_seen same a xs) ≡ true
        → (is_seen same a xs ≡ true → number_of same a xs < length xs)
        → (if c then 0 else 1 + number_of same a xs) < suc (length xs)
    by true h rest = omega arith
    by false h rest = omega (arith, rest h)
