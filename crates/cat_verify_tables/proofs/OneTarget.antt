-- A text is that of one target, where names of scopes and items stand once.
use Rattle.std.proofs.Common.{◌≡◌, ◌/◌, ◌%◌, ◌+◌, ℕ, Bool, true, false, cond, ltb, [], ◌∷◌, ◌++◌, Option, Some}
use Rattle.std.proofs.Common.{None, slice_get, refl, sym, ap, ◌∙◌, subst}
use Rattle.std.specs.Char.{encode_utf8}
use Rattle.std.specs.Option.{option_map}
use Rattle.std.specs.Str.{encode_utf8_all}
use Rattle.std.proofs.Math.Utf8.{encode}
use Rattle.std.proofs.lemmas.Option.{some_pair_parts}
use Rattle.cat_value.specs.declared.declaration.Kind.{Kind}
use Rattle.cat_value.specs.declared.declaration.Kind.TheVariants as kind
use Rattle.cat_value.specs.declared.declaration.ItemDecl.{ItemDecl}
use Rattle.cat_value.specs.declared.declaration.Scope.{Scope}
use Rattle.cat_value.specs.declared.decls.Decls.{Decls}
use Rattle.cat_value.specs.declared.outcome.Target.{Target}
use Rattle.cat_json.specs.InputsRead.{items_of}
use Rattle.cat_answer.specs.Answer.{called_item, item_text, scope_text, target_text, text_or_nothing}
use Rattle.cat_image.specs.Words.{Text}
use Rattle.cat_image.specs.inside.Reads.{cut}
use Rattle.cat_image.proofs.CutLemmas.{cut_at}
use Rattle.cat_verify_tables.specs.TypeWords.{IsPartName}

-- ---- texts

-- a text in front of a dot, and behind it, is one thing each
at_dot : (a b r q : Text) → cut 46 a ≡ None → cut 46 b ≡ None → a ++ 46 ∷ r ≡ b ++ 46 ∷ q → (a ≡ b) × (r ≡ q)
at_dot a b r q none other same = some_pair_parts a b r q
    (sym (cut_at 46 a r none) ∙ ap (cut 46) same ∙ cut_at 46 b q other)

no_dot_in : (a b q : Text) → cut 46 a ≡ None → cut 46 b ≡ None → a ≡ b ++ 46 ∷ q → ⊥
no_dot_in a b q none other same = cc (sym none ∙ ap (cut 46) same ∙ cut_at 46 b q other)

no_dot_at : (b q : Text) → cut 46 b ≡ None → [] ≡ b ++ 46 ∷ q → ⊥
no_dot_at [] q other same = cc same
no_dot_at (c ∷ b) q other same = cc same

no_bytes : (c : ℕ) → encode_utf8 c ≡ [] → ⊥
unfolding encode
no_bytes c is = by (ltb c 128) (ltb c 2048) (ltb c 65536) is
  where
    by : (a b d : Bool) → cond a (c ∷ []) (cond b ((192 + c / 64) ∷ (128 + c % 64) ∷ [])
        (cond d ((224 + c / 4096) ∷ (128 + (c / 64) % 64) ∷ (128 + c % 64) ∷ [])
        ((240 + c / 262144) ∷ (128 + (c / 4096) % 64) ∷ (128 + (c / 64) % 64) ∷ (128 + c % 64) ∷ []))) ≡ [] → ⊥
    by true b d is = cc is
    by false true d is = cc is
    by false false true is = cc is
    by false false false is = cc is

-- a name isn't empty
pub no_empty_part : (word : Text) → IsPartName word → word ≡ [] → ⊥
no_empty_part word part empty = by (encode_utf8 part.0.first) refl (sym empty ∙ part.0.spelled)
  where
    by : (bytes : Text) → encode_utf8 part.0.first ≡ bytes → [] ≡ bytes ++ encode_utf8_all part.0.others → ⊥
    by [] is same = no_bytes part.0.first is
    by (b ∷ bs) is same = cc same

-- ---- places

-- a place that may name a variable: names without dots, of which the last isn't empty
pub data IsNamedPlace : Text → Type 0 where
  of_own : (s x : Text) → cut 46 s ≡ None → cut 46 x ≡ None → (x ≡ [] → ⊥) → IsNamedPlace (s ++ 46 ∷ x)
  of_inner : (s t x : Text) → cut 46 s ≡ None → cut 46 t ≡ None → (x ≡ [] → ⊥) → IsNamedPlace (s ++ 46 ∷ (t ++ 46 ∷ x))

no_place : (place : Text) → IsNamedPlace place → place ≡ [] → ⊥
no_place place (of_own s x plain single some) same = no_dot_at s x plain (sym same)
no_place place (of_inner s t x plain single some) same = no_dot_at s (t ++ 46 ∷ x) plain (sym same)

no_item_at : (place name : Text) → cut 46 name ≡ None → IsNamedPlace place → place ≡ name ++ 46 ∷ [] → ⊥
no_item_at place name none (of_own s x plain single some) same = some (at_dot s name x [] plain none same).1
no_item_at place name none (of_inner s t x plain single some) same =
    no_dot_at t x single (sym (at_dot s name (t ++ 46 ∷ x) [] plain none same).1)

no_inner_at : (place name item : Text) → cut 46 name ≡ None → cut 46 item ≡ None → IsNamedPlace place
    → place ≡ name ++ 46 ∷ (item ++ 46 ∷ []) → ⊥
no_inner_at place name item none other (of_own s x plain single some) same =
    no_dot_in x item [] single other (at_dot s name x (item ++ 46 ∷ []) plain none same).1
no_inner_at place name item none other (of_inner s t x plain single some) same =
    some (at_dot t item x [] single other (at_dot s name (t ++ 46 ∷ x) (item ++ 46 ∷ []) plain none same).1).1

-- ---- targets

-- names of scopes and of items of one scope stand once, and no dot parts them
pub record HavePlainNames (ds : Decls) : Type 0 where
  pub scope_once : (i j : ℕ) (s r : Scope) → slice_get ds.scopes i ≡ Some s → slice_get ds.scopes j ≡ Some r
      → s.name ≡ r.name → i ≡ j
  pub scope_plain : (k : ℕ) (s : Scope) → slice_get ds.scopes k ≡ Some s → cut 46 s.name ≡ None
  pub item_once : (k : ℕ) (s : Scope) → slice_get ds.scopes k ≡ Some s → (i j : ℕ) (x y : ItemDecl)
      → slice_get s.items i ≡ Some x → slice_get s.items j ≡ Some y → x.name ≡ y.name → i ≡ j
  pub item_plain : (k : ℕ) (s : Scope) → slice_get ds.scopes k ≡ Some s → (i : ℕ) (x : ItemDecl)
      → slice_get s.items i ≡ Some x → cut 46 x.name ≡ None

module _ (ds : Decls) (names : HavePlainNames ds) where
  -- an item of a scope
  record IsAt (scope item : ℕ) : Type 0 where
    pub own : Scope
    pub at : slice_get ds.scopes scope ≡ Some own
    pub decl : ItemDecl
    pub there : slice_get own.items item ≡ Some decl

  -- one of a scope that an item calls
  record IsInside (scope item n : ℕ) : Type 0 where
    pub outer : IsAt scope item
    pub called : ℕ
    pub calls : outer.decl.kind ≡ kind.Called called
    pub in_it : IsAt called n

  -- a target by its text, of which a name may be missing
  data IsShown (target : Target) (place : Text) : Type 0 where
    is_none : place ≡ [] → IsShown target place
    lacks_item : (name : Text) → cut 46 name ≡ None → place ≡ name ++ 46 ∷ [] → IsShown target place
    lacks_inner : (name item : Text) → cut 46 name ≡ None → cut 46 item ≡ None
        → place ≡ name ++ 46 ∷ (item ++ 46 ∷ []) → IsShown target place
    is_own : (it : IsAt target.scope target.item) → target.inner ≡ None → place ≡ it.own.name ++ 46 ∷ it.decl.name
        → IsShown target place
    is_inner : (n : ℕ) (it : IsInside target.scope target.item n) → target.inner ≡ Some n
        → place ≡ it.outer.own.name ++ 46 ∷ (it.outer.decl.name ++ 46 ∷ it.in_it.decl.name) → IsShown target place

  not_called : (target : Target) (outer : IsAt target.scope target.item)
      → IsShown target (outer.own.name ++ 46 ∷ (outer.decl.name ++ 46 ∷ []))
  not_called target outer = lacks_inner outer.own.name outer.decl.name
      (names.scope_plain target.scope outer.own outer.at)
      (names.item_plain target.scope outer.own outer.at target.item outer.decl outer.there) refl

  called_shown : (target : Target) (outer : IsAt target.scope target.item) (n : ℕ) → target.inner ≡ Some n
      → (k : Kind) → outer.decl.kind ≡ k
      → IsShown target (outer.own.name ++ 46 ∷ (outer.decl.name
      ++ 46 ∷ text_or_nothing (option_map (λ (i : ItemDecl). i.name) (called_item ds k n))))
  called_shown target outer n is (kind.Called c) calls = by (slice_get ds.scopes c) refl
    where
      within : (s : Scope) → slice_get ds.scopes c ≡ Some s → (o : Option ItemDecl) → slice_get s.items n ≡ o
          → IsShown target (outer.own.name ++ 46 ∷ (outer.decl.name
          ++ 46 ∷ text_or_nothing (option_map (λ (i : ItemDecl). i.name) o)))
      within s at None there = not_called target outer
      within s at (Some j) there = is_inner n (record {
        outer = outer;
        called = c;
        calls = calls;
        in_it = record { own = s; at = at; decl = j; there = there };
      }) is refl

      by : (o : Option Scope) → slice_get ds.scopes c ≡ o
          → IsShown target (outer.own.name ++ 46 ∷ (outer.decl.name
          ++ 46 ∷ text_or_nothing (option_map (λ (i : ItemDecl). i.name) (slice_get (items_of o) n))))
      by None at = not_called target outer
      by (Some s) at = within s at (slice_get s.items n) refl
  called_shown target outer n is kind.Input calls = not_called target outer
  called_shown target outer n is kind.Output calls = not_called target outer
  called_shown target outer n is kind.Internal calls = not_called target outer
  called_shown target outer n is kind.Context calls = not_called target outer
  called_shown target outer n is kind.InputOutput calls = not_called target outer
  called_shown target outer n is kind.ContextOutput calls = not_called target outer

  shown : (target : Target) → IsShown target (target_text ds target)
  shown target = by (slice_get ds.scopes target.scope) refl
    where
      last : (s : Scope) → slice_get ds.scopes target.scope ≡ Some s → (i : ItemDecl)
          → slice_get s.items target.item ≡ Some i → (o : Option ℕ) → target.inner ≡ o
          → IsShown target (s.name ++ 46 ∷ item_text ds i o)
      last s at i there None is = is_own (record { own = s; at = at; decl = i; there = there }) is refl
      last s at i there (Some n) is =
          called_shown target (record { own = s; at = at; decl = i; there = there }) n is i.kind refl

      within : (s : Scope) → slice_get ds.scopes target.scope ≡ Some s → (o : Option ItemDecl)
          → slice_get s.items target.item ≡ o
          → IsShown target (s.name ++ 46 ∷ text_or_nothing (option_map (λ i. item_text ds i target.inner) o))
      within s at None there = lacks_item s.name (names.scope_plain target.scope s at) refl
      within s at (Some i) there = last s at i there target.inner refl

      by : (o : Option Scope) → slice_get ds.scopes target.scope ≡ o
          → IsShown target (text_or_nothing (option_map (λ s. scope_text ds s target) o))
      by None at = is_none refl
      by (Some s) at = within s at (slice_get s.items target.item) refl

  -- ---- two targets of one text

  record IsSameItem (k m i j : ℕ) (it : IsAt k i) (its : IsAt m j) : Type 0 where
    pub scope : k ≡ m
    pub item : i ≡ j
    pub decl : it.decl ≡ its.decl

  same_in : (k m i j : ℕ) (it : IsAt k i) (its : IsAt m j) → k ≡ m → it.decl.name ≡ its.decl.name
      → IsSameItem k m i j it its
  same_in k m i j it its scope named =
      let own : it.own ≡ its.own = cc (sym it.at ∙ ap (slice_get ds.scopes) scope ∙ its.at) in
      let there : slice_get its.own.items i ≡ Some it.decl =
      ap (λ (s : Scope). slice_get s.items i) (sym own) ∙ it.there in
      let item = names.item_once m its.own its.at i j it.decl its.decl there its.there named in
      let decl : it.decl ≡ its.decl = cc (sym there ∙ ap (slice_get its.own.items) item ∙ its.there) in
      record { scope = scope; item = item; decl = decl }

  same_item : (k m i j : ℕ) (it : IsAt k i) (its : IsAt m j) → it.own.name ≡ its.own.name
      → it.decl.name ≡ its.decl.name → IsSameItem k m i j it its
  same_item k m i j it its scoped named =
      same_in k m i j it its (names.scope_once k m it.own its.own it.at its.at scoped) named

  same_target : (t u : Target) → t.scope ≡ u.scope → t.item ≡ u.item → t.inner ≡ u.inner → t ≡ u
  same_target t u scope item inside =
      ap (λ (n : ℕ). record t { scope = n }) scope ∙ ap (λ (n : ℕ). record t { scope = u.scope; item = n }) item
      ∙ ap (λ (o : Option ℕ). record u { inner = o }) inside

  own_plain : (k i : ℕ) (it : IsAt k i) → cut 46 it.own.name ≡ None
  own_plain k i it = names.scope_plain k it.own it.at

  decl_plain : (k i : ℕ) (it : IsAt k i) → cut 46 it.decl.name ≡ None
  decl_plain k i it = names.item_plain k it.own it.at i it.decl it.there

  both_shown : (place : Text) → ((IsNamedPlace place → ⊥) → ⊥) → (t u : Target) → IsShown t place → IsShown u place
      → t ≡ u
  both_shown place is t u (is_none same) other = absurd (is (λ p. no_place place p same))
  both_shown place is t u (lacks_item name plain same) other = absurd (is (λ p. no_item_at place name plain p same))
  both_shown place is t u (lacks_inner name item plain single same) other =
      absurd (is (λ p. no_inner_at place name item plain single p same))
  both_shown place is t u one (is_none same) = absurd (is (λ p. no_place place p same))
  both_shown place is t u one (lacks_item name plain same) = absurd (is (λ p. no_item_at place name plain p same))
  both_shown place is t u one (lacks_inner name item plain single same) =
      absurd (is (λ p. no_inner_at place name item plain single p same))
  both_shown place is t u (is_own it inside same) (is_own its others also) =
      let split = at_dot it.own.name its.own.name it.decl.name its.decl.name (own_plain t.scope t.item it)
      (own_plain u.scope u.item its) (sym same ∙ also) in
      let one = same_item t.scope u.scope t.item u.item it its split.0 split.1 in
      same_target t u one.scope one.item (inside ∙ sym others)
  both_shown place is t u (is_own it inside same) (is_inner m its others also) =
      let split = at_dot it.own.name its.outer.own.name it.decl.name (its.outer.decl.name ++ 46 ∷ its.in_it.decl.name)
      (own_plain t.scope t.item it) (own_plain u.scope u.item its.outer) (sym same ∙ also) in
      absurd (no_dot_in it.decl.name its.outer.decl.name its.in_it.decl.name (decl_plain t.scope t.item it)
      (decl_plain u.scope u.item its.outer) split.1)
  both_shown place is t u (is_inner n it inside same) (is_own its others also) =
      let split = at_dot its.own.name it.outer.own.name its.decl.name (it.outer.decl.name ++ 46 ∷ it.in_it.decl.name)
      (own_plain u.scope u.item its) (own_plain t.scope t.item it.outer) (sym also ∙ same) in
      absurd (no_dot_in its.decl.name it.outer.decl.name it.in_it.decl.name (decl_plain u.scope u.item its)
      (decl_plain t.scope t.item it.outer) split.1)
  both_shown place is t u (is_inner n it inside same) (is_inner m its others also) =
      let split = at_dot it.outer.own.name its.outer.own.name (it.outer.decl.name ++ 46 ∷ it.in_it.decl.name)
      (its.outer.decl.name ++ 46 ∷ its.in_it.decl.name) (own_plain t.scope t.item it.outer)
      (own_plain u.scope u.item its.outer) (sym same ∙ also) in
      let parts = at_dot it.outer.decl.name its.outer.decl.name it.in_it.decl.name its.in_it.decl.name
      (decl_plain t.scope t.item it.outer) (decl_plain u.scope u.item its.outer) split.1 in
      let one = same_item t.scope u.scope t.item u.item it.outer its.outer split.0 parts.0 in
      let kinds : kind.Called it.called ≡ kind.Called its.called =
      sym it.calls ∙ ap (λ (i : ItemDecl). i.kind) one.decl ∙ its.calls in
      let called : it.called ≡ its.called = cc kinds in
      let within = same_in it.called its.called n m it.in_it its.in_it called parts.1 in
      same_target t u one.scope one.item (inside ∙ ap (λ (k : ℕ). Some k) within.item ∙ sym others)

  -- a text that may name a variable is that of one target
  pub one_target : (t u : Target) → ((IsNamedPlace (target_text ds t) → ⊥) → ⊥) → target_text ds t ≡ target_text ds u
      → t ≡ u
  one_target t u is same = both_shown (target_text ds t) is t u (shown t)
      (subst (IsShown u) (sym same) (shown u))
