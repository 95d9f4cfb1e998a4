-- Things that are numbered by first appearance, by a table of their keys.
use Rattle.std.proofs.Common.{◌≡◌, ℕ, ◌+◌, Bool, true, false, not, cond, ◌||◌, List, [], ◌∷◌, ◌++◌, map}
use Rattle.std.proofs.Common.{refl, sym, ap, ◌∙◌, true≢false, if◌then◌else◌}
use Rattle.std.specs.List.{list_any, position_or_len}
use Rattle.std.specs.Str.{bytes_eq}
use Rattle.indexmap.specs.IndexSet.{insert_key}
use Rattle.cat_scope.specs.Names.{AllHave}
use Rattle.cat_guard.specs.Numbering.{is_seen, firsts, number_of}
use Rattle.cat_audit_table.proofs.Firsts.{kept_if, firsts_push, number_push}
use Rattle.cat_scope.proofs.Exported.{map_append}

pub same_truth : (b c : Bool) → (b ≡ true → c ≡ true) → (c ≡ true → b ≡ true) → b ≡ c
same_truth true true f g = refl
same_truth true false f g = absurd (true≢false (sym (f refl)))
same_truth false true f g = absurd (true≢false (sym (g refl)))
same_truth false false f g = refl

pub not_true : (b c : Bool) → c ≡ not b → c ≡ false → b ≡ true
not_true true c e f = refl
not_true false c e f = absurd (true≢false (sym e ∙ f))

pub not_false : (b c : Bool) → c ≡ not b → c ≡ true → b ≡ false
not_false true c e f = absurd (true≢false (sym f ∙ e))
not_false false c e f = refl

none_more : {A : Type 0} (xs : List A) → xs ++ [] ≡ xs
none_more [] = refl
none_more (x ∷ xs) = ap (λ ys. x ∷ ys) (none_more xs)

module _ {A : Type 0} (same : A → A → Bool) (self : (a : A) → same a a ≡ true) (key : A → List ℕ) where
  -- the keys tell whether b is the same as a
  abbrev pub IsTold : A → A → Type 0
  IsTold a b = same b a ≡ bytes_eq (key a) (key b)

  pub any_is : (a : A) (xs : List A) → AllHave (IsTold a) xs
      → list_any (bytes_eq (key a)) (map key xs) ≡ is_seen same a xs
  any_is a [] told = refl
  any_is a (x ∷ xs) told =
      ap (λ (b : Bool). b || list_any (bytes_eq (key a)) (map key xs)) (sym told.0)
      ∙ by (same x a) (any_is a xs told.1)
    where
      by : (c : Bool) → list_any (bytes_eq (key a)) (map key xs) ≡ is_seen same a xs
          → (c || list_any (bytes_eq (key a)) (map key xs)) ≡ (if c then true else is_seen same a xs)
      by true rest = refl
      by false rest = rest

  pub place_is : (a : A) (xs : List A) → AllHave (IsTold a) xs
      → position_or_len (bytes_eq (key a)) (map key xs) ≡ number_of same a xs
  place_is a [] told = refl
  place_is a (x ∷ xs) told =
      ap (λ (b : Bool). cond (not b) (1 + position_or_len (bytes_eq (key a)) (map key xs)) 0) (sym told.0)
      ∙ by (same x a) (place_is a xs told.1)
    where
      by : (c : Bool) → position_or_len (bytes_eq (key a)) (map key xs) ≡ number_of same a xs
          → cond (not c) (1 + position_or_len (bytes_eq (key a)) (map key xs)) 0
          ≡ (if c then 0 else 1 + number_of same a xs)
      by true rest = refl
      by false rest = ap (λ (n : ℕ). 1 + n) rest

  module _ (xs : List A) (a : A) (told : AllHave (IsTold a) (firsts same [] xs)) (keys : List (List ℕ))
      (are : keys ≡ map key (firsts same [] xs)) where
    abbrev seen : Bool
    seen = is_seen same a (firsts same [] xs)

    -- whether the key is there
    there_is : list_any (bytes_eq (key a)) keys ≡ seen
    there_is = ap (list_any (bytes_eq (key a))) are ∙ any_is a (firsts same [] xs) told

    -- the keys when one more has come
    pub keys_pushed : (now : List (List ℕ)) → now ≡ insert_key bytes_eq keys (key a)
        → now ≡ map key (firsts same [] (xs ++ a ∷ []))
    keys_pushed now e =
        e ∙ ap (λ (b : Bool). if b then keys else keys ++ key a ∷ []) there_is
        ∙ ap (λ (ks : List (List ℕ)). if seen then ks else ks ++ key a ∷ []) are ∙ by seen
        ∙ ap (map key) (sym (firsts_push same xs a))
      where
        by : (c : Bool)
            → (if c then map key (firsts same [] xs) else map key (firsts same [] xs) ++ key a ∷ [])
            ≡ map key (firsts same [] xs ++ kept_if c a)
        by true = ap (map key) (sym (none_more (firsts same [] xs)))
        by false = sym (map_append key (firsts same [] xs) (a ∷ []))

    -- its number
    pub number_pushed : (n : ℕ) → n ≡ position_or_len (bytes_eq (key a)) keys
        → n ≡ number_of same a (firsts same [] (xs ++ a ∷ []))
    number_pushed n e =
        e ∙ ap (position_or_len (bytes_eq (key a))) are ∙ place_is a (firsts same [] xs) told
        ∙ sym (number_push same self xs a)

    -- what is made of each, when one has come that was there
    pub old_made : {B : Type 0} (make : A → B) (made : List B) → list_any (bytes_eq (key a)) keys ≡ true
        → made ≡ map make (firsts same [] xs) → made ≡ map make (firsts same [] (xs ++ a ∷ []))
    old_made make made there is =
        is ∙ ap (map make) (sym (none_more (firsts same [] xs)))
        ∙ ap (λ (b : Bool). map make (firsts same [] xs ++ kept_if b a)) (sym there ∙ there_is)
        ∙ ap (map make) (sym (firsts_push same xs a))

    -- and when a new one has come
    pub new_made : {B : Type 0} (make : A → B) (made now : List B) (one : B)
        → list_any (bytes_eq (key a)) keys ≡ false → made ≡ map make (firsts same [] xs) → one ≡ make a
        → now ≡ made ++ one ∷ [] → now ≡ map make (firsts same [] (xs ++ a ∷ []))
    new_made make made now one there is one_is e =
        e ∙ ap (λ ys. ys ++ one ∷ []) is ∙ ap (λ y. map make (firsts same [] xs) ++ y ∷ []) one_is
        ∙ sym (map_append make (firsts same [] xs) (a ∷ []))
        ∙ ap (λ (b : Bool). map make (firsts same [] xs ++ kept_if b a)) (sym there ∙ there_is)
        ∙ ap (map make) (sym (firsts_push same xs a))
