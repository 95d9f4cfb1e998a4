-- Scopes with the same words are the same, and so are declarations.
use Rattle.std.proofs.Common.{◌≡◌, ◌<◌, ℕ, IsTrue, List, [], ◌∷◌, length, map, Some, slice_get}
use Rattle.std.proofs.Common.{refl, sym, ap, ◌∙◌, subst, arith}
use Rattle.std.specs.List.{list_all}
use Rattle.std.proofs.Math.Bool.{Bool-set}
use Rattle.std.proofs.lemmas.Bool.{and_parts}
use Rattle.cat_scope.specs.Names.{AllHave}
use Rattle.cat_value.specs.declared.declaration.Structure.{Structure}
use Rattle.cat_value.specs.declared.declaration.Enumeration.{Enumeration}
use Rattle.cat_value.specs.declared.declaration.ItemDecl.{ItemDecl}
use Rattle.cat_value.specs.declared.declaration.Scope.{Scope}
use Rattle.cat_value.specs.declared.decls.Decls.{Decls}
use Rattle.cat_value.specs.Declarations.{are_sound, is_counted, item_is_sound, scope_is_sound}
use Rattle.cat_value.proofs.Exported.{found}
use Rattle.cat_listing.specs.Texts.{name_at}
use Rattle.cat_image.specs.declared.tables.ImageScope.{ImageScope}
use Rattle.cat_image.specs.declared.tables.ImageTables.{ImageTables}
use Rattle.cat_image.specs.Words.{Text}
use Rattle.cat_image.specs.Listed.{enumeration_words, item_words, scopes_words, structure_words}
use Rattle.cat_verify_tables.specs.TableWords.{IsToldWhole}
use Rattle.cat_verify_tables.specs.inside.DeclaredWords.{scope_name}
use Rattle.cat_verify_tables.proofs.MadeLemmas.{Apart, named_at}
use Rattle.cat_verify_tables.proofs.SameItems.{item_one, sound_item}
use Rattle.cat_verify_tables.proofs.SameParts.{same_enumerations, same_structures, tests_have}

-- ---- the invariant of declarations

abbrev pub decls_of : (ss : List Structure) (es : List Enumeration) (scopes : List Scope)
    → IsTrue (are_sound ss es scopes) → Decls
decls_of ss es scopes sound = record { structures = ss; enumerations = es; scopes = scopes; sound = sound }

sound_once : (ss : List Structure) (es : List Enumeration) (scopes : List Scope)
    → IsProp (IsTrue (are_sound ss es scopes))
sound_once ss es scopes = hlevel Bool-set

-- declarations with the same parts are the same
pub decls_same : (ds us : Decls) → ds.structures ≡ us.structures → ds.enumerations ≡ us.enumerations
    → ds.scopes ≡ us.scopes → ds ≡ us
decls_same ds us structures enumerations scopes = by structures enumerations scopes us.sound
  where
    last : (sound : IsTrue (are_sound ds.structures ds.enumerations ds.scopes))
        → ds ≡ decls_of ds.structures ds.enumerations ds.scopes sound
    last sound = ap (decls_of ds.structures ds.enumerations ds.scopes)
        (sound_once ds.structures ds.enumerations ds.scopes ds.sound sound)

    two : (scopes : List Scope) → ds.scopes ≡ scopes
        → (sound : IsTrue (are_sound ds.structures ds.enumerations scopes))
        → ds ≡ decls_of ds.structures ds.enumerations scopes sound
    two scopes is = subst (λ (cs : List Scope). (sound : IsTrue (are_sound ds.structures ds.enumerations cs))
        → ds ≡ decls_of ds.structures ds.enumerations cs sound) is last

    one : (es : List Enumeration) (scopes : List Scope) → ds.enumerations ≡ es → ds.scopes ≡ scopes
        → (sound : IsTrue (are_sound ds.structures es scopes)) → ds ≡ decls_of ds.structures es scopes sound
    one es scopes is also = subst (λ (xs : List Enumeration). (sound : IsTrue (are_sound ds.structures xs scopes))
        → ds ≡ decls_of ds.structures xs scopes sound) is (two scopes also)

    by : ds.structures ≡ us.structures → ds.enumerations ≡ us.enumerations → ds.scopes ≡ us.scopes
        → (sound : IsTrue (are_sound us.structures us.enumerations us.scopes))
        → ds ≡ decls_of us.structures us.enumerations us.scopes sound
    by is also more = subst (λ (xs : List Structure).
        (sound : IsTrue (are_sound xs us.enumerations us.scopes)) → ds ≡ decls_of xs us.enumerations us.scopes sound) is
        (one us.enumerations us.scopes also more)

pub scopes_sound : (ds : Decls)
    → IsTrue (list_all (scope_is_sound ds.structures ds.enumerations (length ds.scopes)) ds.scopes)
unfolding are_sound
scopes_sound ds = let h = ds.sound in grind arith

-- ---- names

abbrev scope_words : Decls → Scope → ℕ → ImageScope
scope_words ds s entry = record { name = s.name; entry = entry; items = map (item_words ds) s.items }

pub scope_names : (ds : Decls) (ss : List Scope) (entries : List ℕ) → length entries ≡ length ss
    → map scope_name (scopes_words ds ss entries) ≡ map (λ (s : Scope). s.name) ss
scope_names ds [] entries each = refl
scope_names ds (s ∷ ss) [] each = absurd (cc each)
scope_names ds (s ∷ ss) (entry ∷ entries) each =
    ap (λ (names : List Text). s.name ∷ names) (scope_names ds ss entries (omega (arith, each)))

pub name_there : (names : List Text) (ss : List Scope) (n : ℕ) → names ≡ map (λ (s : Scope). s.name) ss
    → n < length ss → slice_get names n ≡ Some (name_at (λ (s : Scope). s.name) (slice_get ss n))
name_there names ss n are less =
    let it = found ss n less in
    ap (λ (ns : List Text). slice_get ns n) are ∙ named_at (λ (s : Scope). s.name) ss n it.0 it.1
    ∙ ap (λ o. Some (name_at (λ (s : Scope). s.name) o)) (sym it.1)

-- a name is that of one scope
abbrev pub AreOnce : List Text → Type 0
AreOnce names = (i j : ℕ) (w : Text) → slice_get names i ≡ Some w → slice_get names j ≡ Some w → i ≡ j

module _ (tables : ImageTables) (apart : Apart tables) (ds us : Decls)
    (structures : tables.structures ≡ map (structure_words ds) ds.structures)
    (enumerations : tables.enumerations ≡ map (enumeration_words ds) ds.enumerations)
    (others : tables.structures ≡ map (structure_words us) us.structures)
    (more : tables.enumerations ≡ map (enumeration_words us) us.enumerations) (entries us_entries : List ℕ)
    (scopes : tables.scopes ≡ scopes_words ds ds.scopes entries)
    (also : tables.scopes ≡ scopes_words us us.scopes us_entries) (each : length entries ≡ length ds.scopes)
    (us_each : length us_entries ≡ length us.scopes) (once : AreOnce (map scope_name tables.scopes)) where
  names : map scope_name tables.scopes ≡ map (λ (s : Scope). s.name) ds.scopes
  names = ap (map scope_name) scopes ∙ scope_names ds ds.scopes entries each

  us_names : map scope_name tables.scopes ≡ map (λ (s : Scope). s.name) us.scopes
  us_names = ap (map scope_name) also ∙ scope_names us us.scopes us_entries us_each

  called_once : (n m : ℕ) → n < length ds.scopes → m < length us.scopes
      → name_at (λ (s : Scope). s.name) (slice_get ds.scopes n)
      ≡ name_at (λ (s : Scope). s.name) (slice_get us.scopes m) → n ≡ m
  called_once n m less small same =
      once n m (name_at (λ (s : Scope). s.name) (slice_get us.scopes m))
      (name_there (map scope_name tables.scopes) ds.scopes n names less ∙ ap Some same)
      (name_there (map scope_name tables.scopes) us.scopes m us_names small)

  items_one : (is js : List ItemDecl)
      → AllHave (λ i. IsTrue (item_is_sound ds.structures ds.enumerations (length ds.scopes) i)) is
      → AllHave (λ j. IsTrue (item_is_sound us.structures us.enumerations (length us.scopes) j)) js
      → AllHave IsToldWhole is → AllHave IsToldWhole js → map (item_words ds) is ≡ map (item_words us) js → is ≡ js
  items_one [] [] sound test whole told same = refl
  items_one [] (j ∷ js) sound test whole told same = absurd (cc same)
  items_one (i ∷ is) [] sound test whole told same = absurd (cc same)
  items_one (i ∷ is) (j ∷ js) sound test whole told same =
      ap (λ (x : ItemDecl). x ∷ is) (item_one tables apart ds us structures enumerations others more i j
      (sound_item ds i sound.0) (sound_item us j test.0) whole.0 told.0 called_once (cc same))
      ∙ ap (λ (xs : List ItemDecl). j ∷ xs) (items_one is js sound.1 test.1 whole.1 told.1 (cc same))

  items_of_sound : (es : Decls) (s : Scope)
      → IsTrue (scope_is_sound es.structures es.enumerations (length es.scopes) s)
      → AllHave (λ i. IsTrue (item_is_sound es.structures es.enumerations (length es.scopes) i)) s.items
  items_of_sound es s sound = tests_have (item_is_sound es.structures es.enumerations (length es.scopes)) s.items
      (and_parts (is_counted s.items)
      (list_all (item_is_sound es.structures es.enumerations (length es.scopes)) s.items) sound).1

  -- scopes and their entries
  scopes_one : (ss rs : List Scope) (one other : List ℕ)
      → AllHave (λ s. IsTrue (scope_is_sound ds.structures ds.enumerations (length ds.scopes) s)) ss
      → AllHave (λ s. IsTrue (scope_is_sound us.structures us.enumerations (length us.scopes) s)) rs
      → AllHave (λ (s : Scope). AllHave IsToldWhole s.items) ss
      → AllHave (λ (s : Scope). AllHave IsToldWhole s.items) rs → length one ≡ length ss → length other ≡ length rs
      → scopes_words ds ss one ≡ scopes_words us rs other → (ss ≡ rs) × (one ≡ other)
  scopes_one [] [] [] [] sound test whole told many much same = (refl, refl)
  scopes_one [] [] [] (m ∷ other) sound test whole told many much same = absurd (cc much)
  scopes_one [] [] (n ∷ one) other sound test whole told many much same = absurd (cc many)
  scopes_one [] (r ∷ rs) one [] sound test whole told many much same = absurd (cc much)
  scopes_one [] (r ∷ rs) one (m ∷ other) sound test whole told many much same = absurd (cc same)
  scopes_one (s ∷ ss) rs [] other sound test whole told many much same = absurd (cc many)
  scopes_one (s ∷ ss) [] (n ∷ one) other sound test whole told many much same = absurd (cc same)
  scopes_one (s ∷ ss) (r ∷ rs) (n ∷ one) [] sound test whole told many much same = absurd (cc much)
  scopes_one (s ∷ ss) (r ∷ rs) (n ∷ one) (m ∷ other) sound test whole told many much same =
      let first : scope_words ds s n ≡ scope_words us r m = cc same in
      let more_scopes : scopes_words ds ss one ≡ scopes_words us rs other = cc same in
      let rest = scopes_one ss rs one other sound.1 test.1 whole.1 told.1 (omega (arith, many)) (omega (arith, much))
      more_scopes in
      let items = items_one s.items r.items (items_of_sound ds s sound.0) (items_of_sound us r test.0) whole.0 told.0
      (ap (λ (l : ImageScope). l.items) first) in
      let scope : s ≡ r = ap (λ (name : Text). record s { name = name }) (ap (λ (l : ImageScope). l.name) first)
      ∙ ap (λ (is : List ItemDecl). record r { items = is }) items in (
        ap (λ (x : Scope). x ∷ ss) scope ∙ ap (λ (xs : List Scope). r ∷ xs) rest.0,
        ap (λ (x : ℕ). x ∷ one) (ap (λ (l : ImageScope). l.entry) first) ∙ ap (λ (xs : List ℕ). m ∷ xs) rest.1,
      )

  module _ (whole : AllHave (λ (s : Scope). AllHave IsToldWhole s.items) ds.scopes)
      (told : AllHave (λ (s : Scope). AllHave IsToldWhole s.items) us.scopes) where
    pub same_scopes : (ds.scopes ≡ us.scopes) × (entries ≡ us_entries)
    same_scopes = scopes_one ds.scopes us.scopes entries us_entries
        (tests_have (scope_is_sound ds.structures ds.enumerations (length ds.scopes)) ds.scopes (scopes_sound ds))
        (tests_have (scope_is_sound us.structures us.enumerations (length us.scopes)) us.scopes (scopes_sound us))
        whole told each us_each (sym scopes ∙ also)

    pub same_decls : ds ≡ us
    same_decls = decls_same ds us
        (same_structures tables apart ds us structures enumerations others more)
        (same_enumerations tables apart ds us structures enumerations others more) same_scopes.0
