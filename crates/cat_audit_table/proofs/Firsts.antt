-- What is numbered by first appearance keeps its number when more comes behind.
use Rattle.std.proofs.Common.{◌≡◌, ℕ, ◌+◌, Bool, true, false, ◌||◌, List, [], ◌∷◌, ◌++◌}
use Rattle.std.proofs.Common.{refl, sym, ap, ◌∙◌, true≢false, if◌then◌else◌}
use Rattle.cat_scope.specs.Names.{AllHave}
use Rattle.cat_guard.specs.Numbering.{is_seen, firsts, number_of}

-- an element in front where it is no old one
abbrev pub kept_if : {A : Type 0} → Bool → A → List A
kept_if true a = []
kept_if false a = a ∷ []

module _ {A : Type 0} (same : A → A → Bool) where
  -- what was seen when some have come
  abbrev after : List A → List A → List A
  after seen [] = seen
  after seen (a ∷ xs) = if is_seen same a seen then after seen xs else after (a ∷ seen) xs

  seen_or : (c : Bool) (b : Bool) → (if c then true else b) ≡ (c || b)
  seen_or true b = refl
  seen_or false b = refl

  pub seen_append : (a : A) (xs ys : List A) → is_seen same a (xs ++ ys) ≡ (is_seen same a xs || is_seen same a ys)
  seen_append a [] ys = refl
  seen_append a (x ∷ xs) ys = by (same x a) (seen_append a xs ys)
    where
      by : (c : Bool) → is_seen same a (xs ++ ys) ≡ (is_seen same a xs || is_seen same a ys)
          → (if c then true else is_seen same a (xs ++ ys))
          ≡ ((if c then true else is_seen same a xs) || is_seen same a ys)
      by true rest = refl
      by false rest = rest

  -- the first ones of two lists are those of the first, and those of the second that are new
  pub firsts_append : (seen xs ys : List A) → firsts same seen (xs ++ ys)
      ≡ firsts same seen xs ++ firsts same (after seen xs) ys
  firsts_append seen [] ys = refl
  firsts_append seen (x ∷ xs) ys = by (is_seen same x seen) (firsts_append seen xs ys) (firsts_append (x ∷ seen) xs ys)
    where
      by : (c : Bool) → firsts same seen (xs ++ ys) ≡ firsts same seen xs ++ firsts same (after seen xs) ys
          → firsts same (x ∷ seen) (xs ++ ys) ≡ firsts same (x ∷ seen) xs ++ firsts same (after (x ∷ seen) xs) ys
          → (if c then firsts same seen (xs ++ ys) else x ∷ firsts same (x ∷ seen) (xs ++ ys))
          ≡ (if c then firsts same seen xs else x ∷ firsts same (x ∷ seen) xs)
          ++ firsts same (if c then after seen xs else after (x ∷ seen) xs) ys
      by true old new = old
      by false old new = ap (λ (zs : List A). x ∷ zs) new

  -- what was seen was seen before, or is among the first ones
  seen_after : (a : A) (seen xs : List A) → is_seen same a (after seen xs)
      ≡ (is_seen same a seen || is_seen same a (firsts same seen xs))
  seen_after a seen [] = none (is_seen same a seen)
    where
      none : (b : Bool) → b ≡ (b || false)
      none true = refl
      none false = refl
  seen_after a seen (x ∷ xs) = by (is_seen same x seen) (seen_after a seen xs) (seen_after a (x ∷ seen) xs)
    where
      moved : (c b d : Bool) → ((if c then true else b) || d) ≡ (b || (if c then true else d))
      moved true true d = refl
      moved true false d = refl
      moved false b d = refl

      by : (c : Bool)
          → is_seen same a (after seen xs) ≡ (is_seen same a seen || is_seen same a (firsts same seen xs))
          → is_seen same a (after (x ∷ seen) xs)
          ≡ ((if same x a then true else is_seen same a seen) || is_seen same a (firsts same (x ∷ seen) xs))
          → is_seen same a (if c then after seen xs else after (x ∷ seen) xs)
          ≡ (is_seen same a seen
          || is_seen same a (if c then firsts same seen xs else x ∷ firsts same (x ∷ seen) xs))
      by true old new = old
      by false old new = new ∙ moved (same x a) (is_seen same a seen) (is_seen same a (firsts same (x ∷ seen) xs))

  -- one more behind
  pub firsts_push : (xs : List A) (a : A) → firsts same [] (xs ++ a ∷ [])
      ≡ firsts same [] xs ++ kept_if (is_seen same a (firsts same [] xs)) a
  firsts_push xs a =
      firsts_append [] xs (a ∷ [])
      ∙ ap (λ (zs : List A). firsts same [] xs ++ zs)
      (alone (is_seen same a (after [] xs)) ∙ ap (λ (b : Bool). kept_if b a) (seen_after a [] xs))
    where
      alone : (c : Bool) → (if c then [] else a ∷ []) ≡ kept_if c a
      alone true = refl
      alone false = refl

  -- the number of one that is there doesn't change
  pub number_front : (a : A) (xs ys : List A) → is_seen same a xs ≡ true
      → number_of same a (xs ++ ys) ≡ number_of same a xs
  number_front a [] ys h = absurd (true≢false (sym h))
  number_front a (x ∷ xs) ys h = by (same x a) h (number_front a xs ys)
    where
      by : (c : Bool) → (if c then true else is_seen same a xs) ≡ true
          → (is_seen same a xs ≡ true → number_of same a (xs ++ ys) ≡ number_of same a xs)
          → (if c then 0 else 1 + number_of same a (xs ++ ys)) ≡ (if c then 0 else 1 + number_of same a xs)
      by true h rest = refl
      by false h rest = ap (λ (n : ℕ). 1 + n) (rest h)

  pub number_kept : (a : A) (xs ys : List A) → is_seen same a (firsts same [] xs) ≡ true
      → number_of same a (firsts same [] (xs ++ ys)) ≡ number_of same a (firsts same [] xs)
  number_kept a xs ys h =
      ap (number_of same a) (firsts_append [] xs ys)
      ∙ number_front a (firsts same [] xs) (firsts same (after [] xs) ys) h

  pub seen_kept : (a : A) (xs ys : List A) → is_seen same a (firsts same [] xs) ≡ true
      → is_seen same a (firsts same [] (xs ++ ys)) ≡ true
  seen_kept a xs ys h =
      ap (is_seen same a) (firsts_append [] xs ys)
      ∙ seen_append a (firsts same [] xs) (firsts same (after [] xs) ys)
      ∙ ap (λ (b : Bool). b || is_seen same a (firsts same (after [] xs) ys)) h

  module _ (self : (a : A) → same a a ≡ true) where
    -- one that was put to the end is there, and has the number that it had to get
    pub seen_push : (xs : List A) (a : A) → is_seen same a (firsts same [] (xs ++ a ∷ [])) ≡ true
    seen_push xs a =
        ap (is_seen same a) (firsts_push xs a)
        ∙ seen_append a (firsts same [] xs) (kept_if (is_seen same a (firsts same [] xs)) a)
        ∙ by (is_seen same a (firsts same [] xs))
      where
        by : (c : Bool) → (c || is_seen same a (kept_if c a)) ≡ true
        by true = refl
        by false = seen_or (same a a) false ∙ ap (λ (b : Bool). b || false) (self a)

    number_end : (xs : List A) (a : A) → number_of same a (xs ++ a ∷ []) ≡ number_of same a xs
    number_end [] a = ap (λ (b : Bool). if b then 0 else 1 + 0) (self a)
    number_end (x ∷ xs) a = ap (λ (n : ℕ). if same x a then 0 else 1 + n) (number_end xs a)

    pub number_push : (xs : List A) (a : A) → number_of same a (firsts same [] (xs ++ a ∷ []))
        ≡ number_of same a (firsts same [] xs)
    number_push xs a = ap (number_of same a) (firsts_push xs a) ∙ by (is_seen same a (firsts same [] xs))
      where
        by : (c : Bool) → number_of same a (firsts same [] xs ++ kept_if c a) ≡ number_of same a (firsts same [] xs)
        by true = ap (number_of same a) (none (firsts same [] xs))
          where
            none : (ys : List A) → ys ++ [] ≡ ys
            none [] = refl
            none (y ∷ ys) = ap (λ (zs : List A). y ∷ zs) (none ys)
        by false = number_end (firsts same [] xs) a

    each : {P Q : A → Type 0} (xs : List A) → ((a : A) → P a → Q a) → AllHave P xs → AllHave Q xs
    each [] go h = tt
    each (x ∷ xs) go h = (go x h.0, each xs go h.1)

    all_kept : (seen xs : List A)
        → AllHave (λ a. (is_seen same a seen || is_seen same a (firsts same seen xs)) ≡ true) xs
    all_kept seen [] = tt
    all_kept seen (x ∷ xs) = by (is_seen same x seen) refl (all_kept seen xs) (all_kept (x ∷ seen) xs)
      where
        moved : (c b d : Bool) → ((if c then true else b) || d) ≡ true → (b || (if c then true else d)) ≡ true
        moved true true d h = refl
        moved true false d h = refl
        moved false b d h = h

        here : (c : Bool) → is_seen same x seen ≡ c
            → (is_seen same x seen
            || is_seen same x (if c then firsts same seen xs else x ∷ firsts same (x ∷ seen) xs)) ≡ true
        here true e = ap (λ (b : Bool). b || is_seen same x (firsts same seen xs)) e
        here false e =
            ap (λ (b : Bool). is_seen same x seen || (if b then true else is_seen same x (firsts same (x ∷ seen) xs)))
            (self x)
            ∙ ap (λ (b : Bool). b || true) e

        by : (c : Bool) → is_seen same x seen ≡ c
            → AllHave (λ a. (is_seen same a seen || is_seen same a (firsts same seen xs)) ≡ true) xs
            → AllHave (λ a. ((if same x a then true else is_seen same a seen)
            || is_seen same a (firsts same (x ∷ seen) xs)) ≡ true) xs
            → AllHave (λ a. (is_seen same a seen
            || is_seen same a (if c then firsts same seen xs else x ∷ firsts same (x ∷ seen) xs)) ≡ true) (x ∷ xs)
        by true e old new = (here true e, old)
        by false e old new = (
          here false e,
          each xs (λ a. moved (same x a) (is_seen same a seen) (is_seen same a (firsts same (x ∷ seen) xs))) new,
        )

    -- each of some is among their first ones
    pub all_seen : (xs : List A) → AllHave (λ a. is_seen same a (firsts same [] xs) ≡ true) xs
    all_seen xs = all_kept [] xs
