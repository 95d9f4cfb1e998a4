-- Declarations, and the tables behind them.
use Rattle.std.specs.Prelude.{◌≡◌, ◌≤◌, ◌+◌, ℕ, IsTrue, List, [], length, map, take, slice_get, Some, is_some}
use Rattle.std.specs.List.{list_all}
use Rattle.cat_order.specs.Order.{IsOrder}
use Rattle.cat_pos.specs.Limits.{most_input_bytes}
use Rattle.cat_value.specs.declared.decls.Decls.{Decls}
use Rattle.cat_value.specs.Dependencies.{type_dependencies}
use Rattle.cat_code.specs.declared.code.Constant.{Constant}
use Rattle.cat_code.specs.declared.code.Tables.{Tables}
use Rattle.cat_code.specs.Places.{function_places, target_form}
use Rattle.cat_code.specs.Valid.{constant_is_sound}
use Rattle.cat_image.specs.declared.tables.ImageScope.{ImageScope}
use Rattle.cat_image.specs.declared.tables.ImageTables.{ImageTables}
use Rattle.cat_image.specs.Rows.{rows_of}
use Rattle.cat_verify_tables.specs.declared.declared.Declaring.{Declaring}
use Rattle.cat_verify_tables.specs.declared.places.FunctionPlace.{FunctionPlace}
use Rattle.cat_verify_tables.specs.declared.tables.Declared.{Declared}
use Rattle.cat_verify_tables.specs.declared.tables.Sections.{Sections}
use Rattle.cat_verify_tables.specs.declared.tables.Tabled.{Tabled}
use Rattle.cat_verify_tables.specs.TableWords.{AreConstantsOf, AreTablesOf, numbered}
use Rattle.cat_verify_tables.specs.inside.Causes.{lines_in}
use Rattle.cat_verify_tables.specs.inside.Entries.{AreRight, AreTold}
use Rattle.cat_verify_tables.specs.inside.FoundPlaces.{IsPosOf}
use Rattle.cat_verify_tables.specs.inside.DeclaredWords.{AreHeadersOf, ArePartsOf, scopes_from}
use Rattle.cat_verify_tables.specs.inside.LowWords.{AreLow}
use Rattle.cat_verify_tables.specs.inside.NamedWords.{IsFileTwice, item_count}
use Rattle.cat_verify_tables.specs.inside.TargetNaming.{IsEntryOf}

-- a u32 numbers the lines
abbrev pub HasFewRows : ImageTables → Type 0
HasFewRows tables = length (rows_of tables []) ≤ most_input_bytes

abbrev pub parts_of : Decls → Declaring
parts_of ds = record { structures = ds.structures; enumerations = ds.enumerations; scopes = ds.scopes }

-- what the lines of files, structures, enumerations and scopes declare, where none of them is wrong
pub record AreDeclared (tables : ImageTables) (d : Declared) : Type 0 where
  pub files : AreRight IsFileTwice [] tables.files
  pub headers : AreHeadersOf tables (2 + length tables.files) d.headers
  pub parts : ArePartsOf tables d.headers (parts_of d.decls)
  pub order : IsOrder (type_dependencies d.decls.structures d.decls.enumerations) d.order
  pub low : AreLow (parts_of d.decls) d.heights

-- ---- functions

-- the line of the item of a function, where scopes begin at line `first`
abbrev pub IsLineOf : List ImageScope → FunctionPlace → ℕ → ℕ → Type 0
IsLineOf scopes place first line = line ≡ first + lines_in item_count (take place.scope scopes) + 1 + place.item

-- that of the first function without a line that says where it begins
pub record LacksEntry (image : ImageTables) (functions : List FunctionPlace) (first line : ℕ) : Type 0 where
  pub place : FunctionPlace
  pub at : slice_get functions (length image.functions) ≡ Some place
  pub line_is : IsLineOf image.scopes place first line

-- ---- the tables

-- the first lines of targets, definitions, positions and constants
abbrev pub targets_from : ImageTables → ℕ
targets_from image = scopes_from image (2 + length image.files) + lines_in item_count image.scopes

abbrev pub definitions_from : ImageTables → ℕ
definitions_from image = targets_from image + length image.targets

abbrev pub positions_from : ImageTables → ℕ
positions_from image = definitions_from image + length image.definitions + length image.functions

abbrev pub constants_from : ImageTables → ℕ
constants_from image = positions_from image + length image.positions

pub record AreSectionsOf (image : ImageTables) (first : Sections) : Type 0 where
  pub targets : first.targets ≡ targets_from image
  pub definitions : first.definitions ≡ definitions_from image
  pub positions : first.positions ≡ positions_from image
  pub constants : first.constants ≡ constants_from image

-- constants of the types that their lines name
pub record AreConstantsTold (image : ImageTables) (ds : Decls) (constants : List Constant) : Type 0 where
  pub words : AreConstantsOf ds image.constants constants
  pub sound : IsTrue (list_all (constant_is_sound ds) constants)

-- each entry is told by its line
pub record AreTablesTold (image : ImageTables) (d : Declared) (tables : Tables) : Type 0 where
  pub decls : tables.decls ≡ d.decls
  pub words : AreTablesOf image tables
  pub targets : AreTold (λ _. IsEntryOf d.decls (length image.files)) [] image.targets tables.targets
  pub definitions : AreTold (λ _. IsPosOf (length image.files)) [] image.definitions tables.definitions
  pub positions : AreTold (λ _. IsPosOf (length image.files)) [] image.positions tables.positions
  pub forms : IsTrue (list_all (λ entry. is_some (target_form d.decls entry.target)) tables.targets)
  pub constants : IsTrue (list_all (constant_is_sound d.decls) tables.constants)

-- what stands behind declarations: tables, the names of files, and functions, each with a line that says where it
-- begins
pub record IsTabled (image : ImageTables) (d : Declared) (tabled : Tabled) : Type 0 where
  pub tables : AreTablesTold image d tabled.tables
  pub files : tabled.files ≡ image.files
  pub functions : tabled.functions ≡ map numbered (function_places d.decls)
  pub enough : length tabled.functions ≤ length image.functions
