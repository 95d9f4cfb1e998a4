-- What stands against names, types, positions, items, targets and constants of tables.
use Rattle.std.specs.Prelude.{◌≡◌, ◌≢◌, ◌≤◌, ◌⊎◌, ℕ, true, List, [], ◌∷◌, ◌++◌, length, codes}
use Rattle.std.specs.List.{AllByRecursion}
use Rattle.cat_scope.specs.Names.{IsOneOf}
use Rattle.cat_pos.specs.Limits.{most_files, most_input_bytes}
use Rattle.cat_value.specs.Declarations.{highest}
use Rattle.cat_names.specs.Limits.{most_items, most_parameters}
use Rattle.cat_image.specs.declared.tables.ImagePos.{ImagePos}
use Rattle.cat_image.specs.declared.tables.ImageKind.TheVariants as kind
use Rattle.cat_image.specs.declared.tables.ImageItem.{ImageItem}
use Rattle.cat_image.specs.declared.tables.ImageScope.{ImageScope}
use Rattle.cat_image.specs.declared.tables.ImageTarget.{ImageTarget}
use Rattle.cat_image.specs.declared.tables.ImageTables.{ImageTables}
use Rattle.cat_image.specs.declared.row.Row.{Row}
use Rattle.cat_image.specs.Words.{Text}
use Rattle.cat_verify_tables.specs.TypeWords.{IsPartName, IsKnown, IsBase, IsMadeOf, IsHigher}
use Rattle.cat_verify_tables.specs.RowFronts.{is_function, functions_in, open_in}

-- ---- what items are

-- the types of parameters
abbrev pub more_params : List Text → Text
more_params [] = []
more_params (t ∷ ts) = codes ", " ++ (t ++ more_params ts)

abbrev pub params_text : List Text → Text
params_text [] = []
params_text (t ∷ ts) = codes " of " ++ (t ++ more_params ts)

-- a name that stands there already, or that isn't spelled as it has to be
abbrev pub IsWrongName : (Text → Type 0) → List Text → Text → Type 0
IsWrongName Spelled names name = IsOneOf name names ⊎ (Spelled name → ⊥)

-- a type that isn't there, or is higher than that
abbrev pub IsWrongType : ImageTables → ℕ → Text → Type 0
IsWrongType tables most ty = (IsKnown tables ty → ⊥) ⊎ IsHigher tables most ty

-- a type of a part that is made of what it is a part of
pub record ClosesCycle (tables : ImageTables) (name ty : Text) : Type 0 where
  pub base : Text
  pub is_base : IsBase ty base
  pub back : IsMadeOf tables base name

abbrev pub IsWrongPart : ImageTables → Text → Text → Type 0
IsWrongPart tables name ty = IsWrongType tables 63 ty ⊎ ClosesCycle tables name ty

-- a position that no source of a program has here: in a file that has no line, behind the last file of a program, or
-- behind the end of any text that may be read
abbrev pub IsLost : ImageTables → ImagePos → Type 0
IsLost tables p = (length tables.files ≤ p.file) ⊎ ((most_files ≤ p.file) ⊎ (most_input_bytes ≤ p.column))

-- ---- items

-- a type that is there, and not too high
pub record IsLow (tables : ImageTables) (ty : Text) : Type 0 where
  pub known : IsKnown tables ty
  pub low : IsHigher tables highest ty → ⊥

-- what a variable may be: of a type, or a condition, with as many parameters as it may have
pub record IsVariable (tables : ImageTables) (what : Text) : Type 0 where
  pub ty : Text
  pub params : List Text
  pub what_is : what ≡ ty ++ params_text params
  pub ty_is : (ty ≡ codes "condition") ⊎ IsLow tables ty
  pub params_are : AllByRecursion (IsLow tables) params
  pub few : length params ≤ most_parameters

-- what stands against an item behind other rows
pub data IsWrongItem (tables : ImageTables) (front : List Row) (i : ImageItem) : Type 0 where
  name : IsWrongName IsPartName (open_in front).parts i.name → IsWrongItem tables front i
  too_many : most_items ≤ length (open_in front).parts → IsWrongItem tables front i
  lost : IsLost tables i.pos → IsWrongItem tables front i
  called : i.kind ≡ kind.Called → ((s : ImageScope) → IsOneOf s tables.scopes → s.name ≡ i.what → ⊥)
      → IsWrongItem tables front i
  variable : i.kind ≢ kind.Called → (IsVariable tables i.what → ⊥) → IsWrongItem tables front i
  no_entry : is_function i ≡ true → length tables.functions ≤ functions_in front → IsWrongItem tables front i

-- ---- targets

-- an item of a scope of that name
pub record HasItem (tables : ImageTables) (scope : Text) (i : ImageItem) : Type 0 where
  pub declared : ImageScope
  pub is_declared : IsOneOf declared tables.scopes
  pub name : declared.name ≡ scope
  pub is_item : IsOneOf i declared.items

-- a variable of a scope, or one of a scope that it calls
pub data NamesVariable (tables : ImageTables) : Text → Type 0 where
  own : {scope : Text} {i : ImageItem} → HasItem tables scope i → i.kind ≢ kind.Called
      → NamesVariable tables (scope ++ (codes "." ++ i.name))
  inner : {scope : Text} {i j : ImageItem} → HasItem tables scope i → i.kind ≡ kind.Called → HasItem tables i.what j
      → j.kind ≢ kind.Called → NamesVariable tables (scope ++ (codes "." ++ (i.name ++ (codes "." ++ j.name))))

abbrev pub IsWrongTarget : ImageTables → ImageTarget → Type 0
IsWrongTarget tables t = IsLost tables t.pos ⊎ (NamesVariable tables t.place → ⊥)
