-- What stands in front of a row: names, and the last structure, enumeration or scope.
use Rattle.std.specs.Prelude.{ℕ, ◌+◌, if◌then◌else◌, Bool, true, false, not, List, [], ◌∷◌, ◌++◌}
use Rattle.cat_image.specs.declared.tables.ImageItem.{ImageItem}
use Rattle.cat_image.specs.declared.row.Row.{Row}
use Rattle.cat_image.specs.declared.row.Row.TheVariants as row
use Rattle.cat_image.specs.Words.{Text, is_type}

-- the names of files
abbrev pub files_in : List Row → List Text
files_in [] = []
files_in (row.File name ∷ rows) = name ∷ files_in rows
files_in (_ ∷ rows) = files_in rows

-- the names of structures, enumerations and scopes
abbrev pub declared_in : List Row → List Text
declared_in [] = []
declared_in (row.Structure name ∷ rows) = name ∷ declared_in rows
declared_in (row.Enumeration name ∷ rows) = name ∷ declared_in rows
declared_in (row.Scope name entry ∷ rows) = name ∷ declared_in rows
declared_in (_ ∷ rows) = declared_in rows

-- the names of scopes
abbrev pub scopes_in : List Row → List Text
scopes_in [] = []
scopes_in (row.Scope name entry ∷ rows) = name ∷ scopes_in rows
scopes_in (_ ∷ rows) = scopes_in rows

-- the last structure, enumeration or scope, with the names of its fields, cases or items so far
pub record Open : Type 0 where
  pub name : Text
  pub parts : List Text

abbrev pub with_part : Open → Text → Open
with_part last name = record { name = last.name; parts = last.parts ++ name ∷ [] }

abbrev pub open_behind : Open → List Row → Open
open_behind last [] = last
open_behind last (row.Structure name ∷ rows) = open_behind (record { name = name; parts = [] }) rows
open_behind last (row.Enumeration name ∷ rows) = open_behind (record { name = name; parts = [] }) rows
open_behind last (row.Scope name entry ∷ rows) = open_behind (record { name = name; parts = [] }) rows
open_behind last (row.Field f ∷ rows) = open_behind (with_part last f.name) rows
open_behind last (row.Case c ∷ rows) = open_behind (with_part last c.name) rows
open_behind last (row.Item i ∷ rows) = open_behind (with_part last i.name) rows
open_behind last (_ ∷ rows) = open_behind last rows

abbrev pub open_in : List Row → Open
open_in rows = open_behind (record { name = []; parts = [] }) rows

-- whether the next row is a part of a structure or an enumeration
abbrev pub begins_with_part : List Row → Bool
begins_with_part (row.Field f ∷ rows) = true
begins_with_part (row.Case c ∷ rows) = true
begins_with_part _ = false

-- whether an item is a function: behind its type stand those of parameters
abbrev pub is_function : ImageItem → Bool
is_function i = not (is_type i.what)

-- how many items are functions
abbrev pub functions_in : List Row → ℕ
functions_in [] = 0
functions_in (row.Item i ∷ rows) = if is_function i then 1 + functions_in rows else functions_in rows
functions_in (_ ∷ rows) = functions_in rows
