-- What the lines of files, structures, enumerations and scopes declare.
use Rattle.std.specs.Prelude.{◌≡◌, ◌+◌, ℕ, List, [], ◌++◌, length, map}
use Rattle.cat_image.specs.declared.tables.ImageStructure.{ImageStructure}
use Rattle.cat_image.specs.declared.tables.ImageEnumeration.{ImageEnumeration}
use Rattle.cat_image.specs.declared.tables.ImageScope.{ImageScope}
use Rattle.cat_image.specs.declared.tables.ImageTables.{ImageTables}
use Rattle.cat_image.specs.Words.{Text}
use Rattle.cat_verify_tables.specs.declared.declared.Headers.{Headers}
use Rattle.cat_verify_tables.specs.declared.declared.Declaring.{Declaring}
use Rattle.cat_verify_tables.specs.inside.Causes.{IsFaultyIn, lines_in}
use Rattle.cat_verify_tables.specs.inside.Entries.{AreRight, AreTold}
use Rattle.cat_verify_tables.specs.inside.NamedWords.{numbered, IsWrongHeader, IsWrongHeaderAt, IsNamedAsType}
use Rattle.cat_verify_tables.specs.inside.NamedWords.{IsNamedAsTypeAt, field_count, case_count, item_count}
use Rattle.cat_verify_tables.specs.inside.PartWords.{IsStructureOf, IsWrongStructure, IsEnumerationOf}
use Rattle.cat_verify_tables.specs.inside.PartWords.{IsWrongEnumeration}
use Rattle.cat_verify_tables.specs.inside.ItemWords.{IsScopeOf, IsWrongScope}

-- ---- names

abbrev pub structure_name : ImageStructure → Text
structure_name s = s.name

abbrev pub enumeration_name : ImageEnumeration → Text
enumeration_name e = e.name

abbrev pub scope_name : ImageScope → Text
scope_name s = s.name

abbrev pub structures_named : ImageTables → List Text
structures_named tables = map structure_name tables.structures

abbrev pub enumerations_named : ImageTables → List Text
enumerations_named tables = map enumeration_name tables.enumerations

-- the first lines of enumerations and of scopes, where structures begin at line `first`
abbrev pub enumerations_from : ImageTables → ℕ → ℕ
enumerations_from tables first = first + lines_in field_count tables.structures

abbrev pub scopes_from : ImageTables → ℕ → ℕ
scopes_from tables first = enumerations_from tables first + lines_in case_count tables.enumerations

-- names that stand once, and are spelled as they have to be; with their numbers, and the lines of what they name
pub record AreHeadersOf (tables : ImageTables) (first : ℕ) (headers : Headers) : Type 0 where
  pub numbers : headers.known.types.numbers
      ≡ numbered 0 (structures_named tables) ++ numbered (length tables.structures) (enumerations_named tables)
  pub count : headers.known.types.structures ≡ length tables.structures
  pub scope_numbers : headers.known.scopes ≡ numbered 0 (map scope_name tables.scopes)
  pub files : headers.known.files ≡ length tables.files
  pub enumerations_at : headers.enumerations ≡ enumerations_from tables first
  pub scopes_at : headers.scopes ≡ scopes_from tables first
  pub structures : AreRight (IsWrongHeader structure_name []) [] tables.structures
  pub enumerations : AreRight (IsWrongHeader enumeration_name (structures_named tables)) [] tables.enumerations
  pub scopes : AreRight (IsWrongHeader scope_name []) [] tables.scopes
  pub others : AreRight (IsNamedAsType (structures_named tables ++ enumerations_named tables)) [] tables.scopes

-- the line of a wrong name
pub data HasWrongHeader (tables : ImageTables) (first line : ℕ) : Type 0 where
  structure : IsFaultyIn field_count (IsWrongHeaderAt structure_name []) first tables.structures line
      → HasWrongHeader tables first line
  enumeration : IsFaultyIn case_count (IsWrongHeaderAt enumeration_name (structures_named tables))
      (enumerations_from tables first) tables.enumerations line → HasWrongHeader tables first line
  other : IsFaultyIn item_count (IsNamedAsTypeAt (structures_named tables ++ enumerations_named tables))
      (scopes_from tables first) tables.scopes line → HasWrongHeader tables first line
  scope : IsFaultyIn item_count (IsWrongHeaderAt scope_name []) (scopes_from tables first) tables.scopes line
      → HasWrongHeader tables first line

-- ---- parts

pub record ArePartsOf (tables : ImageTables) (headers : Headers) (parts : Declaring) : Type 0 where
  pub structures : AreTold (λ _. IsStructureOf headers.known.types) [] tables.structures parts.structures
  pub enumerations : AreTold (λ _. IsEnumerationOf headers.known.types) [] tables.enumerations parts.enumerations
  pub scopes : AreTold (λ _. IsScopeOf headers.known) [] tables.scopes parts.scopes

-- the line of a wrong part
pub data HasWrongPart (tables : ImageTables) (headers : Headers) (first line : ℕ) : Type 0 where
  structure : IsFaultyIn field_count (λ _. IsWrongStructure headers.known.types) first tables.structures line
      → HasWrongPart tables headers first line
  enumeration : IsFaultyIn case_count (λ _. IsWrongEnumeration headers.known.types) headers.enumerations
      tables.enumerations line → HasWrongPart tables headers first line
  scope : IsFaultyIn item_count (λ _. IsWrongScope headers.known) headers.scopes tables.scopes line
      → HasWrongPart tables headers first line
