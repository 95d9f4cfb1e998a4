-- Declarations with the words of spelled ones have their structures and enumerations, and read texts alike.
use Rattle.std.proofs.Common.{◌≡◌, ℕ, List, map, Option, Some, None, slice_get, refl, sym, ap, ◌∙◌}
use Rattle.cat_scope.specs.Names.{AllHave}
use Rattle.cat_value.specs.declared.ty.Ty.{Ty}
use Rattle.cat_value.specs.declared.declaration.Field.{Field}
use Rattle.cat_value.specs.declared.declaration.Structure.{Structure}
use Rattle.cat_value.specs.declared.declaration.Case.{Case}
use Rattle.cat_value.specs.declared.declaration.Enumeration.{Enumeration}
use Rattle.cat_value.specs.declared.decls.Decls.{Decls}
use Rattle.cat_code.specs.declared.code.Tables.{Tables}
use Rattle.cat_json.specs.InputsRead.{value_read}
use Rattle.cat_listing.specs.Texts.{type_text}
use Rattle.cat_image.specs.declared.tables.ImageField.{ImageField}
use Rattle.cat_image.specs.declared.tables.ImageStructure.{ImageStructure}
use Rattle.cat_image.specs.declared.tables.ImageCase.{ImageCase}
use Rattle.cat_image.specs.declared.tables.ImageEnumeration.{ImageEnumeration}
use Rattle.cat_image.specs.Words.{Text}
use Rattle.cat_image.specs.Listed.{case_words, content_words, enumeration_words, field_words, structure_words, words_of}
use Rattle.cat_verify_tables.proofs.Exported.{words_one, map_twice, same_value, one_there}
use Rattle.cat_emitted.specs.Spelled.{AreSpelledDecls}
use Rattle.cat_emitted.proofs.Readings.{AreReadAlike}
use Rattle.cat_emitted.proofs.ItemFacts.{all_from}
use Rattle.cat_emitted.proofs.TypeFacts as types
use Rattle.cat_emitted.proofs.SameTexts.{text_only}

module _ (code : Tables) (files : List Text) (spelled : AreSpelledDecls code.decls) (o : Decls)
    (structures : map (structure_words code.decls) code.decls.structures ≡ map (structure_words o) o.structures)
    (enumerations : map (enumeration_words code.decls) code.decls.enumerations
    ≡ map (enumeration_words o) o.enumerations) where
  abbrev ds : Decls
  ds = code.decls

  structure_names : map (λ (s : Structure). s.name) ds.structures ≡ map (λ (s : Structure). s.name) o.structures
  structure_names = sym (map_twice (λ (r : ImageStructure). r.name) (structure_words ds) ds.structures)
      ∙ ap (map (λ (r : ImageStructure). r.name)) structures
      ∙ map_twice (λ (r : ImageStructure). r.name) (structure_words o) o.structures

  enumeration_names : map (λ (e : Enumeration). e.name) ds.enumerations
      ≡ map (λ (e : Enumeration). e.name) o.enumerations
  enumeration_names = sym (map_twice (λ (r : ImageEnumeration). r.name) (enumeration_words ds) ds.enumerations)
      ∙ ap (map (λ (r : ImageEnumeration). r.name)) enumerations
      ∙ map_twice (λ (r : ImageEnumeration). r.name) (enumeration_words o) o.enumerations

  abbrev IsDeclared : Ty → Type 0
  IsDeclared t = types.IsDeclared code files spelled t

  type_one : (t u : Ty) → IsDeclared t → type_text ds t ≡ type_text o u → t ≡ u
  type_one t u declared same = text_only code files spelled o structure_names enumeration_names t declared u same

  field_one : (f g : Field) → IsDeclared f.ty → field_words ds f ≡ field_words o g → f ≡ g
  field_one f g declared same =
      ap (λ (name : Text). record f { name = name }) (ap (λ (l : ImageField). l.name) same)
      ∙ ap (λ (t : Ty). record g { ty = t }) (type_one f.ty g.ty declared (ap (λ (l : ImageField). l.ty) same))

  structure_one : (s r : Structure) → AllHave (λ (f : Field). IsDeclared f.ty) s.fields
      → structure_words ds s ≡ structure_words o r → s ≡ r
  structure_one s r declared same =
      ap (λ (name : Text). record s { name = name }) (ap (λ (l : ImageStructure). l.name) same)
      ∙ ap (λ (fs : List Field). record r { fields = fs })
      (words_one (field_words ds) (field_words o) (λ (f : Field). IsDeclared f.ty) field_one s.fields r.fields declared
      (ap (λ (l : ImageStructure). l.fields) same))

  -- the content of a case is declared, where it has one
  abbrev HasDeclared : Option Ty → Type 0
  HasDeclared None = Unit {0}
  HasDeclared (Some t) = IsDeclared t

  content_one : (c d : Option Ty) → HasDeclared c → content_words ds c ≡ content_words o d → c ≡ d
  content_one None None declared same = refl
  content_one None (Some u) declared same = absurd (cc same)
  content_one (Some t) None declared same = absurd (cc same)
  content_one (Some t) (Some u) declared same = ap (λ (v : Ty). Some v) (type_one t u declared (cc same))

  case_one : (c d : Case) → HasDeclared c.content → case_words ds c ≡ case_words o d → c ≡ d
  case_one c d declared same =
      ap (λ (name : Text). record c { name = name }) (ap (λ (l : ImageCase). l.name) same)
      ∙ ap (λ (content : Option Ty). record d { content = content })
      (content_one c.content d.content declared (ap (λ (l : ImageCase). l.content) same))

  enumeration_one : (e r : Enumeration) → AllHave (λ (c : Case). HasDeclared c.content) e.cases
      → enumeration_words ds e ≡ enumeration_words o r → e ≡ r
  enumeration_one e r declared same =
      ap (λ (name : Text). record e { name = name }) (ap (λ (l : ImageEnumeration). l.name) same)
      ∙ ap (λ (cs : List Case). record r { cases = cs })
      (words_one (case_words ds) (case_words o) (λ (c : Case). HasDeclared c.content) case_one e.cases r.cases declared
      (ap (λ (l : ImageEnumeration). l.cases) same))

  content_declared : (n : ℕ) (e : Enumeration) (c : Case) → slice_get ds.enumerations n ≡ Some e → (k : ℕ)
      → slice_get e.cases k ≡ Some c → HasDeclared c.content
  content_declared n e c at k own = by c.content refl
    where
      by : (x : Option Ty) → c.content ≡ x → HasDeclared x
      by None is = tt
      by (Some t) is = types.case_declared code files spelled n e c t at (one_there e.cases k c own) is

  same_structures : ds.structures ≡ o.structures
  same_structures = words_one (structure_words ds) (structure_words o)
      (λ (s : Structure). AllHave (λ (f : Field). IsDeclared f.ty) s.fields) structure_one ds.structures o.structures
      (all_from (λ (s : Structure). AllHave (λ (f : Field). IsDeclared f.ty) s.fields) ds.structures (λ n s at.
      all_from (λ (f : Field). IsDeclared f.ty) s.fields (λ k f own.
      types.field_declared code files spelled n s f at (one_there s.fields k f own)))) structures

  same_enumerations : ds.enumerations ≡ o.enumerations
  same_enumerations = words_one (enumeration_words ds) (enumeration_words o)
      (λ (e : Enumeration). AllHave (λ (c : Case). HasDeclared c.content) e.cases) enumeration_one ds.enumerations
      o.enumerations
      (all_from (λ (e : Enumeration). AllHave (λ (c : Case). HasDeclared c.content) e.cases) ds.enumerations
      (λ n e at. all_from (λ (c : Case). HasDeclared c.content) e.cases (λ k c own.
      content_declared n e c at k own))) enumerations

  pub read_alike : (t u : Ty) → IsDeclared t → type_text ds t ≡ type_text o u → (text : List ℕ)
      → value_read o u text ≡ value_read ds t text
  read_alike t u declared same text =
      ap (λ (v : Ty). value_read o v text) (sym (type_one t u declared same))
      ∙ sym (same_value ds o same_structures same_enumerations t text)

pub all_read_alike : (code : Tables) (files : List Text) → AreSpelledDecls code.decls
    → AreReadAlike (words_of code files) code.decls
all_read_alike code files spelled other structures enumerations t u declared same text =
    read_alike code files spelled other structures enumerations t u declared same text
