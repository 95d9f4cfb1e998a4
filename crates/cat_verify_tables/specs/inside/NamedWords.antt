-- Names that are told apart in a table.
use Rattle.std.specs.Prelude.{◌≡◌, ◌+◌, ℕ, List, [], ◌∷◌, ◌++◌, map, length}
use Rattle.cat_scope.specs.Names.{IsOneOf}
use Rattle.cat_check_names.specs.Table.{Table}
use Rattle.cat_image.specs.declared.tables.ImageStructure.{ImageStructure}
use Rattle.cat_image.specs.declared.tables.ImageEnumeration.{ImageEnumeration}
use Rattle.cat_image.specs.declared.tables.ImageScope.{ImageScope}
use Rattle.cat_image.specs.Words.{Text}
use Rattle.cat_verify_tables.specs.TypeWords.{IsTypeName}
use Rattle.cat_verify_tables.specs.WrongParts.{IsWrongName}

-- the names of a table
abbrev pub names_in : Table → List Text
names_in table = map (λ entry. entry.0) table

-- a table of some names, numbered from number k on
abbrev pub numbered : ℕ → List Text → Table
numbered k [] = []
numbered k (name ∷ names) = (name, k) ∷ numbered (k + 1) names

-- how many parts lines tell of
abbrev pub field_count : ImageStructure → ℕ
field_count s = length s.fields

abbrev pub case_count : ImageEnumeration → ℕ
case_count e = length e.cases

abbrev pub item_count : ImageScope → ℕ
item_count s = length s.items

-- a file that stands in front
abbrev pub IsFileTwice : List Text → Text → Type 0
IsFileTwice front name = IsOneOf name front

-- ---- what begins with a name

-- one that has a wrong name behind these names and those of entries in front of it
abbrev pub IsWrongHeader : {A : Type 0} → (A → Text) → List Text → List A → A → Type 0
IsWrongHeader name_of names front entry = IsWrongName IsTypeName (names ++ map name_of front) (name_of entry)

-- the same, where the refused line is its first one
abbrev pub IsWrongHeaderAt : {A : Type 0} → (A → Text) → List Text → List A → A → ℕ → ℕ → Type 0
IsWrongHeaderAt name_of names front entry first line = (line ≡ first) × IsWrongHeader name_of names front entry

-- a scope with the name of a type
abbrev pub IsNamedAsType : List Text → List ImageScope → ImageScope → Type 0
IsNamedAsType types front scope = IsOneOf scope.name types

abbrev pub IsNamedAsTypeAt : List Text → List ImageScope → ImageScope → ℕ → ℕ → Type 0
IsNamedAsTypeAt types front scope first line = (line ≡ first) × IsNamedAsType types front scope
