-- Lists of words that are split at one entry, by what they are the words of.
use Rattle.std.proofs.Common.{◌≡◌, ◌≤◌, ◌+◌, ℕ, zero, suc, List, [], ◌∷◌, ◌++◌, map, length, Some, slice_get, refl}
use Rattle.std.proofs.Common.{sym}
use Rattle.std.proofs.Common.{ap, ◌∙◌, subst, arith, inl, inr}
use Rattle.std.proofs.lemmas.List.{length-append, length-map, map-append}
use Rattle.cat_scope.specs.Names.{IsOneOf}
use Rattle.cat_value.specs.declared.declaration.Scope.{Scope}
use Rattle.cat_value.specs.declared.decls.Decls.{Decls}
use Rattle.cat_image.specs.declared.tables.ImageScope.{ImageScope}
use Rattle.cat_image.specs.Listed.{item_words, scopes_words}
use Rattle.cat_names.proofs.Exported.{behind}
use Rattle.cat_emitted.specs.Spelled.{AreApart}
use Rattle.cat_emitted.proofs.ListFacts.{apart_across}

-- ---- lists

pub at_seam : {A : Type 0} (front : List A) (x : A) (rest : List A)
    → slice_get (front ++ x ∷ rest) (length front) ≡ Some x
at_seam [] x rest = refl
at_seam (y ∷ front) x rest = at_seam front x rest

pub one_in : {A : Type 0} (front : List A) (x : A) (rest : List A) → IsOneOf x (front ++ x ∷ rest)
one_in front x rest = behind x front (x ∷ rest) (inl refl)

-- entries whose words are split
pub record IsSplit {A B : Type 0} (f : A → B) (xs : List A) (before : List B) (y : B) : Type 0 where
  pub front : List A
  pub entry : A
  pub rest : List A
  pub are : xs ≡ front ++ entry ∷ rest
  pub before_is : map f front ≡ before
  pub entry_is : f entry ≡ y

pub map_split : {A B : Type 0} (f : A → B) (xs : List A) (before : List B) (y : B) (after : List B)
    → map f xs ≡ before ++ y ∷ after → IsSplit f xs before y
map_split f [] [] y after h = absurd (cc h)
map_split f [] (b ∷ before) y after h = absurd (cc h)
map_split f (x ∷ xs) [] y after h =
    record { front = []; entry = x; rest = xs; are = refl; before_is = refl; entry_is = cc h }
map_split f (x ∷ xs) (b ∷ before) y after h =
    let tail : map f xs ≡ before ++ y ∷ after = cc h in
    let head : f x ≡ b = cc h in
    let more = map_split f xs before y after tail in
    record {
      front = x ∷ more.front;
      entry = more.entry;
      rest = more.rest;
      are = ap (λ (zs : List _). x ∷ zs) more.are;
      before_is = ap (λ (zs : List _). f x ∷ zs) more.before_is ∙ ap (λ (c : _). c ∷ before) head;
      entry_is = more.entry_is;
    }

pub split_at : {A B : Type 0} (f : A → B) (xs : List A) (before : List B) (y : B) (s : IsSplit f xs before y)
    → slice_get xs (length s.front) ≡ Some s.entry
split_at f xs before y s = ap (λ (zs : List _). slice_get zs (length s.front)) s.are ∙ at_seam s.front s.entry s.rest

pub split_one : {A B : Type 0} (f : A → B) (xs : List A) (before : List B) (y : B) (s : IsSplit f xs before y)
    → IsOneOf s.entry xs
split_one f xs before y s = subst (IsOneOf s.entry) (sym s.are) (one_in s.front s.entry s.rest)

pub split_before : {A B : Type 0} (f : A → B) (xs : List A) (before : List B) (y : B) (s : IsSplit f xs before y)
    → length before + 1 ≤ length xs
split_before f xs before y s =
    let all = ap length s.are in
    let both = length-append s.front (s.entry ∷ s.rest) in
    let words = ap length s.before_is in
    let many = length-map s.front f in
    omega (arith, all, both, words, many)

-- a name among apart ones isn't one of those in front
pub apart_front : {A : Type 0} (name : A → List ℕ) (xs front : List A) (x : A) (rest : List A)
    → xs ≡ front ++ x ∷ rest → AreApart (map name xs) → IsOneOf (name x) (map name front) → ⊥
apart_front name xs front x rest are apart one =
    apart_across (map name front) (map name (x ∷ rest)) (name x)
    (subst AreApart (ap (map name) are ∙ map-append name front (x ∷ rest)) apart) one (inl refl)

-- ---- scopes, with their entries

abbrev pub one_scope : Decls → Scope → ℕ → ImageScope
one_scope ds s entry = record { name = s.name; entry = entry; items = map (item_words ds) s.items }

pub record AreScopesSplit (ds : Decls) (scopes : List Scope) (entries : List ℕ) (before : List ImageScope)
    (y : ImageScope) : Type 0 where
  pub front : List Scope
  pub entry : Scope
  pub rest : List Scope
  pub front_entries : List ℕ
  pub place : ℕ
  pub rest_entries : List ℕ
  pub are : scopes ≡ front ++ entry ∷ rest
  pub entries_are : entries ≡ front_entries ++ place ∷ rest_entries
  pub alike : length front_entries ≡ length front
  pub before_is : scopes_words ds front front_entries ≡ before
  pub entry_is : one_scope ds entry place ≡ y

pub scopes_split : (ds : Decls) (scopes : List Scope) (entries : List ℕ) (before : List ImageScope) (y : ImageScope)
    (after : List ImageScope) → scopes_words ds scopes entries ≡ before ++ y ∷ after
    → AreScopesSplit ds scopes entries before y
scopes_split ds [] entries [] y after h = absurd (cc h)
scopes_split ds [] entries (b ∷ before) y after h = absurd (cc h)
scopes_split ds (s ∷ ss) [] [] y after h = absurd (cc h)
scopes_split ds (s ∷ ss) [] (b ∷ before) y after h = absurd (cc h)
scopes_split ds (s ∷ ss) (e ∷ es) [] y after h = record {
  front = [];
  entry = s;
  rest = ss;
  front_entries = [];
  place = e;
  rest_entries = es;
  are = refl;
  entries_are = refl;
  alike = refl;
  before_is = refl;
  entry_is = cc h;
}
scopes_split ds (s ∷ ss) (e ∷ es) (b ∷ before) y after h =
    let tail : scopes_words ds ss es ≡ before ++ y ∷ after = cc h in
    let head : one_scope ds s e ≡ b = cc h in
    let more = scopes_split ds ss es before y after tail in
    record {
      front = s ∷ more.front;
      entry = more.entry;
      rest = more.rest;
      front_entries = e ∷ more.front_entries;
      place = more.place;
      rest_entries = more.rest_entries;
      are = ap (λ (zs : List Scope). s ∷ zs) more.are;
      entries_are = ap (λ (zs : List ℕ). e ∷ zs) more.entries_are;
      alike = ap suc more.alike;
      before_is = ap (λ (zs : List ImageScope). one_scope ds s e ∷ zs) more.before_is
          ∙ ap (λ (c : ImageScope). c ∷ before) head;
      entry_is = more.entry_is;
    }

-- names
pub scopes_names : (ds : Decls) (scopes : List Scope) (entries : List ℕ) → length entries ≡ length scopes
    → map (λ (s : ImageScope). s.name) (scopes_words ds scopes entries) ≡ map (λ (s : Scope). s.name) scopes
scopes_names ds [] [] same = refl
scopes_names ds [] (e ∷ es) same = absurd (omega (arith, same))
scopes_names ds (s ∷ ss) [] same = absurd (omega (arith, same))
scopes_names ds (s ∷ ss) (e ∷ es) same =
    ap (λ (ts : List (List ℕ)). s.name ∷ ts) (scopes_names ds ss es (omega (arith, same)))

-- each scope has its words
pub scope_there : (ds : Decls) (scopes : List Scope) (entries : List ℕ) (n : ℕ) (s : Scope)
    → length entries ≡ length scopes → slice_get scopes n ≡ Some s
    → (place : ℕ) × IsOneOf (one_scope ds s place) (scopes_words ds scopes entries)
scope_there ds [] entries n s same at = absurd (cc at)
scope_there ds (r ∷ ss) [] n s same at = absurd (omega (arith, same))
scope_there ds (r ∷ ss) (e ∷ es) zero s same at =
    let is : r ≡ s = cc at in (e, inl (ap (λ (x : Scope). one_scope ds x e) (sym is)))
scope_there ds (r ∷ ss) (e ∷ es) (suc n) s same at =
    let more = scope_there ds ss es n s (omega (arith, same)) at in (more.0, inr more.1)
