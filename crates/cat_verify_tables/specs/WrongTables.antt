-- Lines of tables that name, spell or declare something wrong.
use Rattle.std.specs.Prelude.{◌≡◌, ◌≤◌, ◌+◌, ◌⊎◌, ℕ, false, List, [], map, length, take, drop, Option, Some}
use Rattle.std.specs.Prelude.{slice_get, Ok}
use Rattle.cat_scope.specs.Names.{IsOneOf}
use Rattle.cat_value.specs.declared.value.Value.{Value}
use Rattle.cat_value.specs.declared.ty.Ty.{Ty}
use Rattle.cat_value.specs.declared.decls.Decls.{Decls}
use Rattle.cat_value.specs.Declarations.{highest, most_cases}
use Rattle.cat_json.specs.InputsRead.{value_read}
use Rattle.cat_listing.specs.Texts.{type_text}
use Rattle.cat_image.specs.declared.tables.ImagePos.{ImagePos}
use Rattle.cat_image.specs.declared.tables.ImageItem.{ImageItem}
use Rattle.cat_image.specs.declared.tables.ImageTarget.{ImageTarget}
use Rattle.cat_image.specs.declared.tables.ImageConstant.{ImageConstant}
use Rattle.cat_image.specs.declared.tables.ImageTables.{ImageTables}
use Rattle.cat_image.specs.declared.row.Row.{Row}
use Rattle.cat_image.specs.declared.row.Row.TheVariants as row
use Rattle.cat_image.specs.Words.{Text}
use Rattle.cat_image.specs.Rows.{rows_of}
use Rattle.cat_image.specs.Listed.{structure_words, enumeration_words, scopes_words}
use Rattle.cat_verify_tables.specs.declared.refusal.TableRefusal.{TableRefusal}
use Rattle.cat_verify_tables.specs.declared.refusal.TableRefusal.TheVariants as refusal
use Rattle.cat_verify_tables.specs.TypeWords.{IsTypeName, IsPartName}
use Rattle.cat_verify_tables.specs.RowFronts.{files_in, declared_in, open_in, begins_with_part}
use Rattle.cat_verify_tables.specs.WrongParts.{IsWrongName, IsWrongType, IsWrongPart, IsLost, IsWrongItem}
use Rattle.cat_verify_tables.specs.WrongParts.{IsWrongTarget}

-- a constant that isn't of its type, by declarations with the words of these tables, whose scopes have these entries
pub record IsOtherwise (tables : ImageTables) (c : ImageConstant) : Type 0 where
  pub decls : Decls
  pub entries : List ℕ
  pub structures : tables.structures ≡ map (structure_words decls) decls.structures
  pub enumerations : tables.enumerations ≡ map (enumeration_words decls) decls.enumerations
  pub scopes : tables.scopes ≡ scopes_words decls decls.scopes entries
  pub one_entry_each : length entries ≡ length decls.scopes
  pub ty : Ty
  pub ty_is : c.ty ≡ type_text decls ty
  pub not_read : (value : Value) → value_read decls ty c.value ≡ Ok value → ⊥

abbrev pub IsWrongConstant : ImageTables → ImageConstant → Type 0
IsWrongConstant tables c = IsWrongType tables highest c.ty ⊎ IsOtherwise tables c

-- ---- a row behind others, in front of the rest

pub data IsWrong (tables : ImageTables) (front rest : List Row) : Row → Type 0 where
  file_twice : {name : Text} → IsOneOf name (files_in front) → IsWrong tables front rest (row.File name)
  structure : {name : Text} → IsWrongName IsTypeName (declared_in front) name
      → IsWrong tables front rest (row.Structure name)
  enumeration : {name : Text} → IsWrongName IsTypeName (declared_in front) name
      → IsWrong tables front rest (row.Enumeration name)
  scope : {name : Text} {entry : ℕ} → IsWrongName IsTypeName (declared_in front) name
      → IsWrong tables front rest (row.Scope name entry)
  no_fields : {name : Text} → begins_with_part rest ≡ false → IsWrong tables front rest (row.Structure name)
  no_cases : {name : Text} → begins_with_part rest ≡ false → IsWrong tables front rest (row.Enumeration name)
  field_name : {name ty : Text} → IsWrongName IsPartName (open_in front).parts name
      → IsWrong tables front rest (row.Field (record { name = name; ty = ty }))
  field_type : {name ty : Text} → IsWrongPart tables (open_in front).name ty
      → IsWrong tables front rest (row.Field (record { name = name; ty = ty }))
  case_name : {name : Text} {content : Option Text} → IsWrongName IsTypeName (open_in front).parts name
      → IsWrong tables front rest (row.Case (record { name = name; content = content }))
  case_content : {name ty : Text} → IsWrongPart tables (open_in front).name ty
      → IsWrong tables front rest (row.Case (record { name = name; content = Some ty }))
  too_many_cases : {name : Text} {content : Option Text} → most_cases ≤ length (open_in front).parts
      → IsWrong tables front rest (row.Case (record { name = name; content = content }))
  item : {i : ImageItem} → IsWrongItem tables front i → IsWrong tables front rest (row.Item i)
  target : {t : ImageTarget} → IsWrongTarget tables t → IsWrong tables front rest (row.Target t)
  definition : {p : ImagePos} → IsLost tables p → IsWrong tables front rest (row.Definition p)
  position : {p : ImagePos} → IsLost tables p → IsWrong tables front rest (row.Position p)
  constant : {c : ImageConstant} → IsWrongConstant tables c → IsWrong tables front rest (row.Constant c)

-- line n of the tables is wrong; the first line has the version
pub record IsBadTable (tables : ImageTables) (n : ℕ) : Type 0 where
  pub index : ℕ
  pub row : Row
  pub number : n ≡ index + 2
  pub is : slice_get (rows_of tables []) index ≡ Some row
  pub wrong : IsWrong tables (take index (rows_of tables [])) (drop (index + 1) (rows_of tables [])) row

-- why an image's lines are no tables
abbrev pub HasCause : ImageTables → TableRefusal → Type 0
HasCause tables (refusal.BadTable n) = IsBadTable tables n
HasCause tables refusal.Memory = Unit {0}
