-- Where a row leads.
use Rattle.std.specs.Prelude.{ℕ, ◌+◌, ◌==◌, List, [], ◌∷◌, ◌++◌, length, Option, Some, None}
use Rattle.std.specs.Prelude.{if◌then◌else◌}
use Rattle.cat_code.specs.declared.instr.Instr.{Instr}
use Rattle.cat_image.specs.declared.tables.ImagePos.{ImagePos}
use Rattle.cat_image.specs.declared.tables.ImageField.{ImageField}
use Rattle.cat_image.specs.declared.tables.ImageStructure.{ImageStructure}
use Rattle.cat_image.specs.declared.tables.ImageCase.{ImageCase}
use Rattle.cat_image.specs.declared.tables.ImageEnumeration.{ImageEnumeration}
use Rattle.cat_image.specs.declared.tables.ImageItem.{ImageItem}
use Rattle.cat_image.specs.declared.tables.ImageScope.{ImageScope}
use Rattle.cat_image.specs.declared.tables.ImageTarget.{ImageTarget}
use Rattle.cat_image.specs.declared.tables.ImageConstant.{ImageConstant}
use Rattle.cat_image.specs.declared.tables.ImageTables.{ImageTables}
use Rattle.cat_image.specs.declared.row.Row.{Row}
use Rattle.cat_image.specs.declared.row.Row.TheVariants as row
use Rattle.cat_image.specs.declared.reading.Reading.{Reading}
use Rattle.cat_image.specs.Words.{Text}
use Rattle.cat_image.specs.inside.Reading.{due, with_last, inside}

-- a file behind the others, where files are still due
abbrev pub put_file : Reading → Text → Option Reading
put_file r name = due r 0 (record r.tables { files = r.tables.files ++ name ∷ [] })

-- a structure without fields behind the others
abbrev pub put_structure : Reading → Text → Option Reading
put_structure r name =
    due r 1 (record r.tables { structures = r.tables.structures ++ record { name = name; fields = [] } ∷ [] })

-- tables with these structures, where there are some
abbrev pub with_structures : ImageTables → Option (List ImageStructure) → Option ImageTables
with_structures tables None = None
with_structures tables (Some them) = Some (record tables { structures = them })

-- a field behind those of the last structure
abbrev pub put_field : Reading → ImageField → Option Reading
put_field r f =
    inside r 1
    (with_structures r.tables (with_last (λ s. record s { fields = s.fields ++ f ∷ [] }) r.tables.structures))

-- an enumeration without cases behind the others
abbrev pub put_enumeration : Reading → Text → Option Reading
put_enumeration r name =
    due r 2 (record r.tables { enumerations = r.tables.enumerations ++ record { name = name; cases = [] } ∷ [] })

-- tables with these enumerations, where there are some
abbrev pub with_enumerations : ImageTables → Option (List ImageEnumeration) → Option ImageTables
with_enumerations tables None = None
with_enumerations tables (Some them) = Some (record tables { enumerations = them })

-- a case behind those of the last enumeration
abbrev pub put_case : Reading → ImageCase → Option Reading
put_case r c =
    inside r 2
    (with_enumerations r.tables (with_last (λ e. record e { cases = e.cases ++ c ∷ [] }) r.tables.enumerations))

-- a scope without items behind the others
abbrev pub put_scope : Reading → Text → ℕ → Option Reading
put_scope r name entry =
    due r 3 (record r.tables { scopes = r.tables.scopes ++ record { name = name; entry = entry; items = [] } ∷ [] })

-- tables with these scopes, where there are some
abbrev pub with_scopes : ImageTables → Option (List ImageScope) → Option ImageTables
with_scopes tables None = None
with_scopes tables (Some them) = Some (record tables { scopes = them })

-- an item behind those of the last scope
abbrev pub put_item : Reading → ImageItem → Option Reading
put_item r item =
    inside r 3 (with_scopes r.tables (with_last (λ s. record s { items = s.items ++ item ∷ [] }) r.tables.scopes))

-- a target behind the others
abbrev pub put_target : Reading → ImageTarget → Option Reading
put_target r target = due r 4 (record r.tables { targets = r.tables.targets ++ target ∷ [] })

-- where a definition stands, behind the others
abbrev pub put_definition : Reading → ImagePos → Option Reading
put_definition r p = due r 5 (record r.tables { definitions = r.tables.definitions ++ p ∷ [] })

-- where a function begins, behind the others
abbrev pub put_function : Reading → ℕ → Option Reading
put_function r entry = due r 6 (record r.tables { functions = r.tables.functions ++ entry ∷ [] })

-- a position behind the others
abbrev pub put_position : Reading → ImagePos → Option Reading
put_position r p = due r 7 (record r.tables { positions = r.tables.positions ++ p ∷ [] })

-- a constant behind the others
abbrev pub put_constant : Reading → ImageConstant → Option Reading
put_constant r constant = due r 8 (record r.tables { constants = r.tables.constants ++ constant ∷ [] })

-- an instruction behind the others, where its number is the next one
abbrev pub put_instruction : Reading → ℕ → Instr → Option Reading
put_instruction r place i =
    if place == length r.instructions
    then Some (record { tables = r.tables; instructions = r.instructions ++ i ∷ []; section = 9 }) else None

-- what a row adds to what was read, where it may stand there
abbrev pub put : Reading → Row → Option Reading
put r (row.File name) = put_file r name
put r (row.Structure name) = put_structure r name
put r (row.Field f) = put_field r f
put r (row.Enumeration name) = put_enumeration r name
put r (row.Case c) = put_case r c
put r (row.Scope name entry) = put_scope r name entry
put r (row.Item item) = put_item r item
put r (row.Target target) = put_target r target
put r (row.Definition p) = put_definition r p
put r (row.Function entry) = put_function r entry
put r (row.Position p) = put_position r p
put r (row.Constant constant) = put_constant r constant
put r (row.Instruction place i) = put_instruction r place i
