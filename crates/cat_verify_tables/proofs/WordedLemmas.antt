-- The words of what is declared are those of the lines that told it.
use Rattle.std.proofs.Common.{◌≡◌, true, false, Bool, List, [], ◌∷◌, ◌++◌, map, Option, Some, None}
use Rattle.std.proofs.Common.{refl, sym, ap, ◌∙◌}
use Rattle.std.specs.Prelude.{codes, if◌then◌else◌}
use Rattle.std.specs.List.{AllZip}
use Rattle.cat_value.specs.declared.ty.Ty.{Ty}
use Rattle.cat_value.specs.declared.declaration.Field.{Field}
use Rattle.cat_value.specs.declared.declaration.Structure.{Structure}
use Rattle.cat_value.specs.declared.declaration.Case.{Case}
use Rattle.cat_value.specs.declared.declaration.Enumeration.{Enumeration}
use Rattle.cat_value.specs.declared.declaration.ItemDecl.{ItemDecl}
use Rattle.cat_value.specs.declared.decls.Decls.{Decls}
use Rattle.cat_listing.specs.Texts.{type_text, lines_of}
use Rattle.cat_listing.specs.DeclarationLines as listing
use Rattle.cat_listing.specs.DeclarationLines.{variable_text, defined_text, param_text}
use Rattle.cat_image.specs.declared.tables.ImageField.{ImageField}
use Rattle.cat_image.specs.declared.tables.ImageStructure.{ImageStructure}
use Rattle.cat_image.specs.declared.tables.ImageCase.{ImageCase}
use Rattle.cat_image.specs.declared.tables.ImageEnumeration.{ImageEnumeration}
use Rattle.cat_image.specs.declared.tables.ImageTables.{ImageTables}
use Rattle.cat_image.specs.Words.{Text}
use Rattle.cat_image.specs.Listed.{field_words, structure_words, content_words, case_words, enumeration_words}
use Rattle.cat_verify_tables.specs.declared.types.TypeNames.{TypeNames}
use Rattle.cat_verify_tables.specs.WrongParts.{params_text, more_params}
use Rattle.cat_verify_tables.specs.inside.Entries.{AreTold}
use Rattle.cat_verify_tables.specs.inside.DeclaredWords.{structure_name, enumeration_name, structures_named}
use Rattle.cat_verify_tables.specs.inside.DeclaredWords.{enumerations_named}
use Rattle.cat_verify_tables.specs.inside.PartWords.{Spells, IsFieldOf, field_names, IsStructureOf, IsContentOf}
use Rattle.cat_verify_tables.specs.inside.PartWords.{IsCaseOf, case_names, IsEnumerationOf}
use Rattle.cat_verify_tables.specs.inside.ItemWords.{IsHeldOf, IsHeldType}
use Rattle.cat_verify_tables.proofs.NumberLemmas.{AreNumbered, spelled_text}

-- what each entry was told by, by the entry
pub told_map : {A B : Type 0} (Told : List A → A → B → Type 0) (words : B → A)
    → ((front : List A) (x : A) (y : B) → Told front x y → x ≡ words y) → (front xs : List A) (ys : List B)
    → AreTold Told front xs ys → xs ≡ map words ys
told_map Told words each front [] [] told = refl
told_map Told words each front [] (y ∷ ys) told = absurd told
told_map Told words each front (x ∷ xs) [] told = absurd told
told_map Told words each front (x ∷ xs) (y ∷ ys) told = ap (λ z. z ∷ xs) (each front x y told.0)
    ∙ ap (λ zs. words y ∷ zs) (told_map Told words each (front ++ x ∷ []) xs ys told.1)

pub told_names : {A B : Type 0} (Told : List A → A → B → Type 0) (one : A → Text) (other : B → Text)
    → ((front : List A) (x : A) (y : B) → Told front x y → other y ≡ one x) → (front xs : List A) (ys : List B)
    → AreTold Told front xs ys → map one xs ≡ map other ys
told_names Told one other each front [] [] told = refl
told_names Told one other each front [] (y ∷ ys) told = absurd told
told_names Told one other each front (x ∷ xs) [] told = absurd told
told_names Told one other each front (x ∷ xs) (y ∷ ys) told =
    ap (λ (w : Text). w ∷ map one xs) (sym (each front x y told.0))
    ∙ ap (λ (ws : List Text). other y ∷ ws) (told_names Told one other each (front ++ x ∷ []) xs ys told.1)

module _ (tables : ImageTables) (types : TypeNames) (ds : Decls)
    (are : AreNumbered types (structures_named tables) (enumerations_named tables))
    (structures_told : AreTold (λ _. IsStructureOf types) [] tables.structures ds.structures)
    (enumerations_told : AreTold (λ _. IsEnumerationOf types) [] tables.enumerations ds.enumerations) where
  pub spelled : (w : Text) (t : Ty) → Spells types w t → type_text ds t ≡ w
  spelled = spelled_text types (structures_named tables) (enumerations_named tables) are ds
      (told_names (λ _. IsStructureOf types) structure_name (λ (s : Structure). s.name) (λ front l s told. told.name) []
      tables.structures ds.structures structures_told)
      (told_names (λ _. IsEnumerationOf types) enumeration_name (λ (e : Enumeration). e.name)
      (λ front l e told. told.name) [] tables.enumerations ds.enumerations enumerations_told)

  -- ---- structures

  field_worded : (front : List ImageField) (l : ImageField) (f : Field) → IsFieldOf types (field_names front) l f
      → l ≡ field_words ds f
  field_worded front l f told =
      ap (λ (name : Text). record l { name = name }) (sym told.name)
      ∙ ap (λ (ty : Text). record (field_words ds f) { ty = ty }) (sym (spelled l.ty f.ty told.ty))

  structure_worded : (front : List ImageStructure) (l : ImageStructure) (s : Structure) → IsStructureOf types l s
      → l ≡ structure_words ds s
  structure_worded front l s told =
      ap (λ (name : Text). record l { name = name }) (sym told.name)
      ∙ ap (λ (fields : List ImageField). record (structure_words ds s) { fields = fields })
      (told_map (λ before. IsFieldOf types (field_names before)) (field_words ds) field_worded [] l.fields s.fields
      told.fields)

  pub structures_worded : tables.structures ≡ map (structure_words ds) ds.structures
  structures_worded = told_map (λ _. IsStructureOf types) (structure_words ds) structure_worded [] tables.structures
      ds.structures structures_told

  -- ---- enumerations

  content_worded : (text : Option Text) (content : Option Ty) → IsContentOf types text content
      → text ≡ content_words ds content
  content_worded None None told = refl
  content_worded None (Some t) told = absurd told
  content_worded (Some w) None told = absurd told
  content_worded (Some w) (Some t) told = ap (λ (v : Text). Some v) (sym (spelled w t told))

  case_worded : (front : List ImageCase) (l : ImageCase) (c : Case) → IsCaseOf types (case_names front) l c
      → l ≡ case_words ds c
  case_worded front l c told =
      ap (λ (name : Text). record l { name = name }) (sym told.name)
      ∙ ap (λ (content : Option Text). record (case_words ds c) { content = content })
      (content_worded l.content c.content told.content)

  enumeration_worded : (front : List ImageEnumeration) (l : ImageEnumeration) (e : Enumeration)
      → IsEnumerationOf types l e → l ≡ enumeration_words ds e
  enumeration_worded front l e told =
      ap (λ (name : Text). record l { name = name }) (sym told.name)
      ∙ ap (λ (cases : List ImageCase). record (enumeration_words ds e) { cases = cases })
      (told_map (λ before. IsCaseOf types (case_names before)) (case_words ds) case_worded [] l.cases e.cases
      told.cases.each)

  pub enumerations_worded : tables.enumerations ≡ map (enumeration_words ds) ds.enumerations
  enumerations_worded = told_map (λ _. IsEnumerationOf types) (enumeration_words ds) enumeration_worded []
      tables.enumerations ds.enumerations enumerations_told

  -- ---- scopes

  more_worded : (texts : List Text) (params : List Ty) → AllZip (Spells types) texts params
      → more_params texts ≡ lines_of (param_text ds) params
  unfolding param_text
  more_worded [] [] each = refl
  more_worded [] (p ∷ params) each = absurd each
  more_worded (t ∷ texts) [] each = absurd each
  more_worded (t ∷ texts) (p ∷ params) each =
      ap (λ (w : Text). codes ", " ++ (w ++ more_params texts)) (sym (spelled t p each.0))
      ∙ ap (λ (w : Text). codes ", " ++ (type_text ds p ++ w)) (more_worded texts params each.1)

  params_worded : (texts : List Text) (params : List Ty) → AllZip (Spells types) texts params
      → params_text texts ≡ listing.params_text ds params
  params_worded [] [] each = refl
  params_worded [] (p ∷ params) each = absurd each
  params_worded (t ∷ texts) [] each = absurd each
  params_worded (t ∷ texts) (p ∷ params) each =
      ap (λ (w : Text). codes " of " ++ (w ++ more_params texts)) (sym (spelled t p each.0))
      ∙ ap (λ (w : Text). codes " of " ++ (type_text ds p ++ w)) (more_worded texts params each.1)

  pub held_worded : (what : Text) (item : ItemDecl)
      → IsHeldOf types what (record { ty = item.ty; condition = item.condition; params = item.params })
      → what ≡ defined_text ds item
  held_worded what item held =
      held.what_is ∙ ap (λ (w : Text). w ++ params_text held.texts) (by item.condition held.ty_is)
      ∙ ap (λ (w : Text). variable_text ds item ++ w) (params_worded held.texts item.params held.params_are.each)
    where
      by : (c : Bool) → IsHeldType types held.text c item.ty
          → held.text ≡ (if c then codes "condition" else type_text ds item.ty)
      by true told = told.0
      by false told = sym (spelled held.text item.ty told)
