-- Structures and enumerations with the words of the same tables are the same.
use Rattle.std.proofs.Common.{◌≡◌, Bool, true, IsTrue, List, [], ◌∷◌, map, Option, Some, None, refl, sym, ap, ◌∙◌}
use Rattle.std.specs.List.{list_all}
use Rattle.std.proofs.lemmas.Bool.{and_parts}
use Rattle.cat_scope.specs.Names.{AllHave}
use Rattle.cat_value.specs.declared.ty.Ty.{Ty}
use Rattle.cat_value.specs.declared.declaration.Field.{Field}
use Rattle.cat_value.specs.declared.declaration.Structure.{Structure}
use Rattle.cat_value.specs.declared.declaration.Case.{Case}
use Rattle.cat_value.specs.declared.declaration.Enumeration.{Enumeration}
use Rattle.cat_value.specs.declared.decls.Decls.{Decls}
use Rattle.cat_value.specs.Declarations.{case_is_sound, content_is_sound, enumeration_is_sound, field_is_sound}
use Rattle.cat_value.specs.Declarations.{has_parts, is_declared, structure_is_sound}
use Rattle.cat_value.proofs.Descending.{enumerations_sound, structures_sound}
use Rattle.cat_listing.specs.Texts.{type_text}
use Rattle.cat_image.specs.declared.tables.ImageField.{ImageField}
use Rattle.cat_image.specs.declared.tables.ImageStructure.{ImageStructure}
use Rattle.cat_image.specs.declared.tables.ImageCase.{ImageCase}
use Rattle.cat_image.specs.declared.tables.ImageEnumeration.{ImageEnumeration}
use Rattle.cat_image.specs.declared.tables.ImageTables.{ImageTables}
use Rattle.cat_image.specs.Words.{Text}
use Rattle.cat_image.specs.Listed.{case_words, content_words, enumeration_words, field_words, structure_words}
use Rattle.cat_verify_tables.specs.inside.DeclaredWords.{enumeration_name, enumerations_named, structure_name}
use Rattle.cat_verify_tables.specs.inside.DeclaredWords.{structures_named}
use Rattle.cat_verify_tables.proofs.MadeLemmas.{Apart}
use Rattle.cat_verify_tables.proofs.OneText.{named_text, text_only}

-- ---- lists

pub words_one : {A B : Type 0} (one other : A → B) (P : A → Type 0)
    → ((x y : A) → P x → one x ≡ other y → x ≡ y) → (xs ys : List A) → AllHave P xs → map one xs ≡ map other ys
    → xs ≡ ys
words_one one other P each [] [] all same = refl
words_one one other P each [] (y ∷ ys) all same = absurd (cc same)
words_one one other P each (x ∷ xs) [] all same = absurd (cc same)
words_one one other P each (x ∷ xs) (y ∷ ys) all same =
    ap (λ z. z ∷ xs) (each x y all.0 (cc same))
    ∙ ap (λ zs. y ∷ zs) (words_one one other P each xs ys all.1 (cc same))

pub tests_have : {A : Type 0} (test : A → Bool) (xs : List A) → IsTrue (list_all test xs)
    → AllHave (λ x. IsTrue (test x)) xs
tests_have test [] all = tt
tests_have test (x ∷ xs) all =
    let parts = and_parts (test x) (list_all test xs) all in (parts.0, tests_have test xs parts.1)

pub map_twice : {A B C : Type 0} (f : B → C) (g : A → B) (xs : List A) → map f (map g xs) ≡ map (λ x. f (g x)) xs
map_twice f g [] = refl
map_twice f g (x ∷ xs) = ap (λ ys. f (g x) ∷ ys) (map_twice f g xs)

-- ---- names

pub structure_names : (tables : ImageTables) (ds : Decls)
    → tables.structures ≡ map (structure_words ds) ds.structures
    → structures_named tables ≡ map (λ (s : Structure). s.name) ds.structures
structure_names tables ds is =
    ap (map structure_name) is ∙ map_twice structure_name (structure_words ds) ds.structures

pub enumeration_names : (tables : ImageTables) (ds : Decls)
    → tables.enumerations ≡ map (enumeration_words ds) ds.enumerations
    → enumerations_named tables ≡ map (λ (e : Enumeration). e.name) ds.enumerations
enumeration_names tables ds is =
    ap (map enumeration_name) is ∙ map_twice enumeration_name (enumeration_words ds) ds.enumerations

-- ---- parts

module _ (tables : ImageTables) (apart : Apart tables) (ds us : Decls)
    (structures : tables.structures ≡ map (structure_words ds) ds.structures)
    (enumerations : tables.enumerations ≡ map (enumeration_words ds) ds.enumerations)
    (others : tables.structures ≡ map (structure_words us) us.structures)
    (more : tables.enumerations ≡ map (enumeration_words us) us.enumerations) where
  -- a declared type has its text alone
  pub type_one : (t u : Ty) → is_declared ds.structures ds.enumerations t ≡ true → type_text ds t ≡ type_text us u
      → t ≡ u
  type_one t u declared same =
      sym (text_only tables us (structure_names tables us others) (enumeration_names tables us more) apart u
      (type_text ds t) t
      (named_text tables ds (structure_names tables ds structures) (enumeration_names tables ds enumerations) t
      declared)
      (sym same))

  field_one : (f g : Field) → IsTrue (field_is_sound ds.structures ds.enumerations f)
      → field_words ds f ≡ field_words us g → f ≡ g
  field_one f g sound same =
      ap (λ (name : Text). record f { name = name }) (ap (λ (l : ImageField). l.name) same)
      ∙ ap (λ (t : Ty). record g { ty = t }) (type_one f.ty g.ty sound (ap (λ (l : ImageField). l.ty) same))

  structure_one : (s r : Structure) → IsTrue (structure_is_sound ds.structures ds.enumerations s)
      → structure_words ds s ≡ structure_words us r → s ≡ r
  structure_one s r sound same =
      let fields = (and_parts (has_parts s.fields) (list_all (field_is_sound ds.structures ds.enumerations) s.fields)
      sound).1 in
      ap (λ (name : Text). record s { name = name }) (ap (λ (l : ImageStructure). l.name) same)
      ∙ ap (λ (fs : List Field). record r { fields = fs })
      (words_one (field_words ds) (field_words us) (λ f. IsTrue (field_is_sound ds.structures ds.enumerations f))
      field_one s.fields r.fields (tests_have (field_is_sound ds.structures ds.enumerations) s.fields fields)
      (ap (λ (l : ImageStructure). l.fields) same))

  content_one : (c d : Option Ty) → IsTrue (content_is_sound ds.structures ds.enumerations c)
      → content_words ds c ≡ content_words us d → c ≡ d
  content_one None None sound same = refl
  content_one None (Some u) sound same = absurd (cc same)
  content_one (Some t) None sound same = absurd (cc same)
  content_one (Some t) (Some u) sound same = ap (λ (v : Ty). Some v) (type_one t u sound (cc same))

  case_one : (c d : Case) → IsTrue (case_is_sound ds.structures ds.enumerations c) → case_words ds c ≡ case_words us d
      → c ≡ d
  case_one c d sound same =
      ap (λ (name : Text). record c { name = name }) (ap (λ (l : ImageCase). l.name) same)
      ∙ ap (λ (content : Option Ty). record d { content = content })
      (content_one c.content d.content sound (ap (λ (l : ImageCase). l.content) same))

  enumeration_one : (e r : Enumeration) → IsTrue (enumeration_is_sound ds.structures ds.enumerations e)
      → enumeration_words ds e ≡ enumeration_words us r → e ≡ r
  enumeration_one e r sound same =
      let cases = (and_parts (has_parts e.cases) (list_all (case_is_sound ds.structures ds.enumerations) e.cases)
      sound).1 in
      ap (λ (name : Text). record e { name = name }) (ap (λ (l : ImageEnumeration). l.name) same)
      ∙ ap (λ (cs : List Case). record r { cases = cs })
      (words_one (case_words ds) (case_words us) (λ c. IsTrue (case_is_sound ds.structures ds.enumerations c)) case_one
      e.cases r.cases (tests_have (case_is_sound ds.structures ds.enumerations) e.cases cases)
      (ap (λ (l : ImageEnumeration). l.cases) same))

  pub same_structures : ds.structures ≡ us.structures
  same_structures = words_one (structure_words ds) (structure_words us)
      (λ s. IsTrue (structure_is_sound ds.structures ds.enumerations s)) structure_one ds.structures us.structures
      (tests_have (structure_is_sound ds.structures ds.enumerations) ds.structures
      (structures_sound ds.structures ds.enumerations ds.scopes ds.sound)) (sym structures ∙ others)

  pub same_enumerations : ds.enumerations ≡ us.enumerations
  same_enumerations = words_one (enumeration_words ds) (enumeration_words us)
      (λ e. IsTrue (enumeration_is_sound ds.structures ds.enumerations e)) enumeration_one ds.enumerations
      us.enumerations
      (tests_have (enumeration_is_sound ds.structures ds.enumerations) ds.enumerations
      (enumerations_sound ds.structures ds.enumerations ds.scopes ds.sound)) (sym enumerations ∙ more)
