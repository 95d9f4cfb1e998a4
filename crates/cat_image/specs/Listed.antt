-- The words with which code is listed, and where they make an image.
use Rattle.std.specs.Prelude.{ℕ, ◌<◌, ◌==◌, ◌&&◌, not, Bool, IsTrue, List, [], ◌∷◌, map, length, Option, Some, None}
use Rattle.std.specs.List.{AllByRecursion, list_all}
use Rattle.std.specs.Str.{is_utf8}
use Rattle.cat_code.specs.declared.instr.Instr.{Instr}
use Rattle.cat_pos.specs.declared.pos.Pos.{Pos}
use Rattle.cat_pos.specs.Position.{pos_file, pos_column}
use Rattle.cat_value.specs.declared.ty.Ty.{Ty}
use Rattle.cat_value.specs.declared.declaration.Field.{Field}
use Rattle.cat_value.specs.declared.declaration.Structure.{Structure}
use Rattle.cat_value.specs.declared.declaration.Case.{Case}
use Rattle.cat_value.specs.declared.declaration.Enumeration.{Enumeration}
use Rattle.cat_value.specs.declared.declaration.Kind.{Kind}
use Rattle.cat_value.specs.declared.declaration.Kind.TheVariants as kind
use Rattle.cat_value.specs.declared.declaration.ItemDecl.{ItemDecl}
use Rattle.cat_value.specs.declared.declaration.Scope.{Scope}
use Rattle.cat_value.specs.declared.decls.Decls.{Decls}
use Rattle.cat_answer.specs.Answer.{target_text}
use Rattle.cat_answer.specs.Writes.{value_bytes}
use Rattle.cat_code.specs.declared.code.TargetEntry.{TargetEntry}
use Rattle.cat_code.specs.declared.code.Constant.{Constant}
use Rattle.cat_code.specs.declared.code.Tables.{Tables}
use Rattle.cat_listing.specs.Texts.{Text, type_text}
use Rattle.cat_listing.specs.DeclarationLines.{what_text}
use Rattle.cat_image.specs.declared.tables.ImagePos.{ImagePos}
use Rattle.cat_image.specs.declared.tables.ImageField.{ImageField}
use Rattle.cat_image.specs.declared.tables.ImageStructure.{ImageStructure}
use Rattle.cat_image.specs.declared.tables.ImageCase.{ImageCase}
use Rattle.cat_image.specs.declared.tables.ImageEnumeration.{ImageEnumeration}
use Rattle.cat_image.specs.declared.tables.ImageKind.{ImageKind}
use Rattle.cat_image.specs.declared.tables.ImageKind.TheVariants as words
use Rattle.cat_image.specs.declared.tables.ImageItem.{ImageItem}
use Rattle.cat_image.specs.declared.tables.ImageScope.{ImageScope}
use Rattle.cat_image.specs.declared.tables.ImageTarget.{ImageTarget}
use Rattle.cat_image.specs.declared.tables.ImageConstant.{ImageConstant}
use Rattle.cat_image.specs.declared.tables.ImageTables.{ImageTables}
use Rattle.cat_image.specs.Rows.{IsRow, rows_of}
use Rattle.cat_image.specs.Image.{image_lines}

-- a position by the numbers of its file, its line and its column
abbrev pub pos_words : Pos → ImagePos
pos_words p = record { file = pos_file p; line = p.line; column = pos_column p }

-- a field by its name and the text of its type
abbrev pub field_words : Decls → Field → ImageField
field_words ds f = record { name = f.name; ty = type_text ds f.ty }

-- a structure by its name and its fields
abbrev pub structure_words : Decls → Structure → ImageStructure
structure_words ds s = record { name = s.name; fields = map (field_words ds) s.fields }

-- the text of the type of a case's content, where it has one
abbrev pub content_words : Decls → Option Ty → Option Text
content_words ds None = None
content_words ds (Some t) = Some (type_text ds t)

-- a case by its name and its content
abbrev pub case_words : Decls → Case → ImageCase
case_words ds c = record { name = c.name; content = content_words ds c.content }

-- an enumeration by its name and its cases
abbrev pub enumeration_words : Decls → Enumeration → ImageEnumeration
enumeration_words ds e = record { name = e.name; cases = map (case_words ds) e.cases }

-- the kind of an item, without the number of a called scope
abbrev pub kind_words : Kind → ImageKind
kind_words kind.Input = words.Input
kind_words kind.Output = words.Output
kind_words kind.Internal = words.Internal
kind_words kind.Context = words.Context
kind_words kind.InputOutput = words.InputOutput
kind_words kind.ContextOutput = words.ContextOutput
kind_words (kind.Called scope) = words.Called

-- an item by its name, its kind, its position, and what it is
abbrev pub item_words : Decls → ItemDecl → ImageItem
item_words ds item =
    record {
      name = item.name;
      kind = kind_words item.kind;
      pos = pos_words item.pos;
      what = what_text ds item item.kind;
    }

-- scopes with their entries
abbrev pub scopes_words : Decls → List Scope → List ℕ → List ImageScope
scopes_words ds [] entries = []
scopes_words ds (s ∷ ss) [] = []
scopes_words ds (s ∷ ss) (entry ∷ entries) =
    record { name = s.name; entry = entry; items = map (item_words ds) s.items } ∷ scopes_words ds ss entries

-- a target by its name and its position
abbrev pub target_words : Decls → TargetEntry → ImageTarget
target_words ds entry = record { place = target_text ds entry.target; pos = pos_words entry.pos }

-- a constant by the texts of its type and its value
abbrev pub constant_words : Decls → Constant → ImageConstant
constant_words ds c = record { ty = type_text ds c.ty; value = value_bytes ds c.ty c.value }

-- the tables of code whose sources have these names, as words
abbrev pub words_of : Tables → List Text → ImageTables
words_of tables files = record {
  files = files;
  structures = map (structure_words tables.decls) tables.decls.structures;
  enumerations = map (enumeration_words tables.decls) tables.decls.enumerations;
  scopes = scopes_words tables.decls tables.decls.scopes tables.scopes;
  targets = map (target_words tables.decls) tables.targets;
  definitions = map pos_words tables.definitions;
  functions = tables.functions;
  positions = map pos_words tables.positions;
  constants = map (constant_words tables.decls) tables.constants;
}

-- a line: a text without a line feed
abbrev pub is_line : Text → Bool
is_line text = is_utf8 text && list_all (λ byte. not (byte == 10)) text

-- words that may stand in lines, and an instruction
pub record IsListable (tables : ImageTables) (instructions : List Instr) : Type 0 where
  pub rows : AllByRecursion IsRow (rows_of tables instructions)
  pub some : 0 < length instructions
  pub lines : AllByRecursion (λ line. IsTrue (is_line line)) (image_lines tables instructions)
