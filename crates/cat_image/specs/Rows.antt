-- The lines of an image, a row for each, and what is asked of their words.
use Rattle.std.specs.Prelude.{◌≡◌, ◌≤◌, ℕ, ◌+◌, Bool, IsTrue, List, [], ◌∷◌, ◌++◌, map, length, Option, Some, None}
use Rattle.std.specs.Prelude.{codes, decimal}
use Rattle.std.specs.List.{flat_map}
use Rattle.cat_code.specs.declared.instr.Instr.{Instr}
use Rattle.cat_image.specs.declared.tables.ImageStructure.{ImageStructure}
use Rattle.cat_image.specs.declared.tables.ImageEnumeration.{ImageEnumeration}
use Rattle.cat_image.specs.declared.tables.ImageKind.{ImageKind}
use Rattle.cat_image.specs.declared.tables.ImageKind.TheVariants as kind
use Rattle.cat_image.specs.declared.tables.ImageScope.{ImageScope}
use Rattle.cat_image.specs.declared.tables.ImageConstant.{ImageConstant}
use Rattle.cat_image.specs.declared.tables.ImageTables.{ImageTables}
use Rattle.cat_image.specs.declared.row.Row.{Row}
use Rattle.cat_image.specs.declared.row.Row.TheVariants as row
use Rattle.cat_image.specs.Words.{Text, words, is_name, is_type, is_what, IsSmall, IsSmallPos, pos_text, kind_text}
use Rattle.cat_image.specs.InstructionWords.{instr_text, IsSmallInstr}

-- ---- the text of a row

-- a blank, and a text behind it
abbrev pub behind_blank : Text → Text
behind_blank text = codes " " ++ text

-- the type of a case's content, where it has one
abbrev pub content_text : Option Text → Text
content_text None = []
content_text (Some t) = behind_blank t

-- the line of a row: its word, and behind it its parts, parted by blanks
abbrev pub row_text : Row → Text
row_text (row.File name) = codes "file " ++ name
row_text (row.Structure name) = codes "structure " ++ name
row_text (row.Field f) = codes "field " ++ (f.name ++ behind_blank f.ty)
row_text (row.Enumeration name) = codes "enumeration " ++ name
row_text (row.Case c) = codes "case " ++ (c.name ++ content_text c.content)
row_text (row.Scope name entry) = codes "scope " ++ (name ++ behind_blank (decimal entry))
row_text (row.Item i) =
    codes "item " ++ (i.name ++ behind_blank (kind_text i.kind ++ behind_blank (pos_text i.pos ++ behind_blank i.what)))
row_text (row.Target t) = codes "target " ++ (t.place ++ behind_blank (pos_text t.pos))
row_text (row.Definition p) = codes "definition " ++ pos_text p
row_text (row.Function entry) = codes "function " ++ decimal entry
row_text (row.Position p) = codes "position " ++ pos_text p
row_text (row.Constant c) = codes "const " ++ (c.ty ++ behind_blank c.value)
row_text (row.Instruction n i) = decimal n ++ behind_blank (instr_text i)

-- ---- what is asked of its words

-- the content of a case, where it has one, is a type
abbrev pub IsContent : Option Text → Type 0
IsContent None = Unit {0}
IsContent (Some t) = IsTrue (is_type t)

-- of an item: a called scope's name, or the type of a variable with those of parameters
abbrev pub is_what_for : ImageKind → Text → Bool
is_what_for kind.Called what = is_name what
is_what_for kind.Input what = is_what what
is_what_for kind.Output what = is_what what
is_what_for kind.Internal what = is_what what
is_what_for kind.Context what = is_what what
is_what_for kind.InputOutput what = is_what what
is_what_for kind.ContextOutput what = is_what what

-- a type and any text behind it; no longer type stands in front of a blank there
abbrev pub IsConstant : ImageConstant → Type 0
IsConstant c =
    IsTrue (is_type c.ty)
    × ((ty rest : Text) → IsTrue (is_type ty) → c.ty ++ behind_blank c.value ≡ ty ++ behind_blank rest
    → length (words ty) ≤ length (words c.ty))

-- names are names, types are types, and numbers are small
abbrev pub IsRow : Row → Type 0
IsRow (row.File name) = Unit {0}
IsRow (row.Structure name) = IsTrue (is_name name)
IsRow (row.Field f) = IsTrue (is_name f.name) × IsTrue (is_type f.ty)
IsRow (row.Enumeration name) = IsTrue (is_name name)
IsRow (row.Case c) = IsTrue (is_name c.name) × IsContent c.content
IsRow (row.Scope name entry) = IsTrue (is_name name) × IsSmall entry
IsRow (row.Item i) = IsTrue (is_name i.name) × IsSmallPos i.pos × IsTrue (is_what_for i.kind i.what)
IsRow (row.Target t) = IsTrue (is_name t.place) × IsSmallPos t.pos
IsRow (row.Definition p) = IsSmallPos p
IsRow (row.Function entry) = IsSmall entry
IsRow (row.Position p) = IsSmallPos p
IsRow (row.Constant c) = IsConstant c
IsRow (row.Instruction n i) = IsSmall n × IsSmallInstr i

-- ---- the rows of tables and instructions

-- a structure, and its fields behind it
abbrev pub structure_rows : ImageStructure → List Row
structure_rows s = row.Structure s.name ∷ map row.Field s.fields

-- an enumeration, and its cases behind it
abbrev pub enumeration_rows : ImageEnumeration → List Row
enumeration_rows e = row.Enumeration e.name ∷ map row.Case e.cases

-- a scope, and its items behind it
abbrev pub scope_rows : ImageScope → List Row
scope_rows s = row.Scope s.name s.entry ∷ map row.Item s.items

-- instructions from number n on
abbrev pub instruction_rows : ℕ → List Instr → List Row
instruction_rows n [] = []
instruction_rows n (i ∷ is) = row.Instruction n i ∷ instruction_rows (n + 1) is

-- by their kinds, in their order
abbrev pub sections : ImageTables → List Instr → List (List Row)
sections tables instructions =
    map row.File tables.files ∷ flat_map structure_rows tables.structures
    ∷ flat_map enumeration_rows tables.enumerations ∷ flat_map scope_rows tables.scopes
    ∷ map row.Target tables.targets ∷ map row.Definition tables.definitions ∷ map row.Function tables.functions
    ∷ map row.Position tables.positions ∷ map row.Constant tables.constants ∷ instruction_rows 0 instructions ∷ []

-- one behind the other
abbrev pub joined : {A : Type 0} → List (List A) → List A
joined [] = []
joined (part ∷ parts) = part ++ joined parts

-- the rows of tables and instructions, in the order of lines
abbrev pub rows_of : ImageTables → List Instr → List Row
rows_of tables instructions = joined (sections tables instructions)
