-- The parts of structures and enumerations as their lines tell them.
use Rattle.std.specs.Prelude.{◌≡◌, ◌≢◌, ◌≤◌, ◌+◌, ◌⊎◌, ℕ, List, [], length, map, Option, Some, None}
use Rattle.cat_value.specs.declared.ty.Ty.{Ty}
use Rattle.cat_value.specs.declared.declaration.Field.{Field}
use Rattle.cat_value.specs.declared.declaration.Structure.{Structure}
use Rattle.cat_value.specs.declared.declaration.Case.{Case}
use Rattle.cat_value.specs.declared.declaration.Enumeration.{Enumeration}
use Rattle.cat_value.specs.Declarations.{most_cases}
use Rattle.cat_image.specs.declared.tables.ImageField.{ImageField}
use Rattle.cat_image.specs.declared.tables.ImageStructure.{ImageStructure}
use Rattle.cat_image.specs.declared.tables.ImageCase.{ImageCase}
use Rattle.cat_image.specs.declared.tables.ImageEnumeration.{ImageEnumeration}
use Rattle.cat_image.specs.Words.{Text}
use Rattle.cat_verify_tables.specs.declared.types.TypeNames.{TypeNames}
use Rattle.cat_verify_tables.specs.TypeWords.{IsTypeName, IsPartName}
use Rattle.cat_verify_tables.specs.WrongParts.{IsWrongName}
use Rattle.cat_verify_tables.specs.inside.TypeNaming.{IsTyped}
use Rattle.cat_verify_tables.specs.inside.Causes.{IsFaulty}
use Rattle.cat_verify_tables.specs.inside.Entries.{AreTold}

-- a text is that type among declared ones, or none
abbrev pub Spells : TypeNames → Text → Ty → Type 0
Spells types text ty = IsTyped types.numbers types.structures text (Some ty)

abbrev pub SpellsNone : TypeNames → Text → Type 0
SpellsNone types text = IsTyped types.numbers types.structures text None

-- ---- fields

abbrev pub field_names : List ImageField → List Text
field_names fields = map (λ (f : ImageField). f.name) fields

-- a field behind others of these names
pub record IsFieldOf (types : TypeNames) (names : List Text) (line : ImageField) (field : Field) : Type 0 where
  pub name : field.name ≡ line.name
  pub ty : Spells types line.ty field.ty
  pub right : IsWrongName IsPartName names line.name → ⊥

abbrev pub IsWrongField : TypeNames → List Text → ImageField → Type 0
IsWrongField types names line = IsWrongName IsPartName names line.name ⊎ SpellsNone types line.ty

-- one for each
abbrev pub AreFieldsOf : TypeNames → List ImageField → List Field → Type 0
AreFieldsOf types lines fields = AreTold (λ front. IsFieldOf types (field_names front)) [] lines fields

-- one of them is wrong, where the first has that line
abbrev pub HasWrongField : TypeNames → List ImageField → ℕ → ℕ → Type 0
HasWrongField types lines first line = IsFaulty (λ front. IsWrongField types (field_names front)) first lines line

pub record IsStructureOf (types : TypeNames) (line : ImageStructure) (structure : Structure) : Type 0 where
  pub name : structure.name ≡ line.name
  pub some : line.fields ≢ []
  pub fields : AreFieldsOf types line.fields structure.fields

-- a structure without fields, or with a wrong one, that begins at line `first`
abbrev pub IsWrongStructure : TypeNames → ImageStructure → ℕ → ℕ → Type 0
IsWrongStructure types s first line = ((line ≡ first) × (s.fields ≡ [])) ⊎ HasWrongField types s.fields (first + 1) line

-- ---- cases

abbrev pub case_names : List ImageCase → List Text
case_names cases = map (λ (c : ImageCase). c.name) cases

abbrev pub IsContentOf : TypeNames → Option Text → Option Ty → Type 0
IsContentOf types None None = Unit {0}
IsContentOf types None (Some ty) = ⊥
IsContentOf types (Some text) None = ⊥
IsContentOf types (Some text) (Some ty) = Spells types text ty

abbrev pub IsWrongContent : TypeNames → Option Text → Type 0
IsWrongContent types None = ⊥
IsWrongContent types (Some text) = SpellsNone types text

-- a case behind others of these names
pub record IsCaseOf (types : TypeNames) (names : List Text) (line : ImageCase) (case : Case) : Type 0 where
  pub name : case.name ≡ line.name
  pub content : IsContentOf types line.content case.content
  pub right : IsWrongName IsTypeName names line.name → ⊥

abbrev pub IsWrongCase : TypeNames → List Text → ImageCase → Type 0
IsWrongCase types names line = IsWrongName IsTypeName names line.name ⊎ IsWrongContent types line.content

-- one for each, as many as an enumeration may have
pub record AreCasesOf (types : TypeNames) (lines : List ImageCase) (cases : List Case) : Type 0 where
  pub few : length lines ≤ most_cases
  pub each : AreTold (λ front. IsCaseOf types (case_names front)) [] lines cases

abbrev pub IsWrongOrLate : TypeNames → List ImageCase → ImageCase → Type 0
IsWrongOrLate types front line = (most_cases ≤ length front) ⊎ IsWrongCase types (case_names front) line

abbrev pub HasWrongCase : TypeNames → List ImageCase → ℕ → ℕ → Type 0
HasWrongCase types lines first line = IsFaulty (IsWrongOrLate types) first lines line

pub record IsEnumerationOf (types : TypeNames) (line : ImageEnumeration) (enumeration : Enumeration) : Type 0 where
  pub name : enumeration.name ≡ line.name
  pub some : line.cases ≢ []
  pub cases : AreCasesOf types line.cases enumeration.cases

-- an enumeration without cases, or with a wrong one, that begins at line `first`
abbrev pub IsWrongEnumeration : TypeNames → ImageEnumeration → ℕ → ℕ → Type 0
IsWrongEnumeration types e first line = ((line ≡ first) × (e.cases ≡ [])) ⊎ HasWrongCase types e.cases (first + 1) line
