-- What is read of a line: its row, or nothing where it is of no form.
use Rattle.std.specs.Prelude.{ℕ, suc, List, [], ◌∷◌, ◌++◌, Option, Some, None, codes, if◌then◌else◌}
use Rattle.std.specs.Option.{option_map}
use Rattle.cat_image.specs.declared.tables.ImageKind.{ImageKind}
use Rattle.cat_image.specs.declared.row.Row.{Row}
use Rattle.cat_image.specs.declared.row.Row.TheVariants as row
use Rattle.cat_image.specs.declared.names.RowKind.{RowKind}
use Rattle.cat_image.specs.declared.names.RowKind.TheVariants as kind
use Rattle.cat_image.specs.Words.{Text, is_name, is_type}
use Rattle.cat_image.specs.Rows.{is_what_for}
use Rattle.cat_image.specs.inside.Reads.{when, cut, number_of, pos_of}
use Rattle.cat_image.specs.inside.Names.{look_up, row_kinds, item_kinds}
use Rattle.cat_image.specs.inside.Instructions.{instr_of}
use Rattle.cat_image.specs.inside.Typed.{constant_of}

-- a structure of that name
abbrev pub structure_of : Text → Option Row
structure_of name = if is_name name then Some (row.Structure name) else None

-- a field: a name, and a type behind a blank
unfoldable pub field_of : Text → Option Row
field_of text =
    when (cut 32 text)
    (λ p. if is_name p.0
    then (if is_type p.1 then Some (row.Field (record { name = p.0; ty = p.1 })) else None) else None)

-- an enumeration of that name
abbrev pub enumeration_of : Text → Option Row
enumeration_of name = if is_name name then Some (row.Enumeration name) else None

-- a case without content
abbrev pub bare_case_of : Text → Option Row
bare_case_of name = if is_name name then Some (row.Case (record { name = name; content = None })) else None

-- a case, with content where a blank parts its text
abbrev pub case_by : Text → Option (Text × Text) → Option Row
case_by text None = bare_case_of text
case_by text (Some p) =
    if is_name p.0
    then (if is_type p.1 then Some (row.Case (record { name = p.0; content = Some p.1 })) else None) else None

-- a case of that text
unfoldable pub case_of : Text → Option Row
case_of text = case_by text (cut 32 text)

-- a scope: a name, and where it begins behind a blank
unfoldable pub scope_of : Text → Option Row
scope_of text =
    when (cut 32 text) (λ p. if is_name p.0 then when (number_of p.1) (λ entry. Some (row.Scope p.0 entry)) else None)

-- an item behind its name and its kind
unfoldable pub item_of : Text → ImageKind → Text → Option Row
item_of name kind text =
    when (cut 32 text) (λ p. when (pos_of p.0)
    (λ pos. if is_what_for kind p.1
    then Some (row.Item (record { name = name; kind = kind; pos = pos; what = p.1 })) else None))

-- an item behind its name
unfoldable pub item_named : Text → Text → Option Row
item_named name text =
    when (cut 32 text) (λ p. when (look_up item_kinds p.0) (λ kind. item_of name kind p.1))

-- an item of that text
unfoldable pub item : Text → Option Row
item text = when (cut 32 text) (λ p. if is_name p.0 then item_named p.0 p.1 else None)

-- a target: its name, and its position behind a blank
unfoldable pub target_of : Text → Option Row
target_of text =
    when (cut 32 text)
    (λ p. if is_name p.0
    then when (pos_of p.1) (λ pos. Some (row.Target (record { place = p.0; pos = pos }))) else None)

-- where a definition stands
abbrev pub definition_of : Text → Option Row
definition_of text = option_map row.Definition (pos_of text)

-- where a function begins
abbrev pub function_of : Text → Option Row
function_of text = option_map row.Function (number_of text)

-- a position of the table of positions
abbrev pub position_of : Text → Option Row
position_of text = option_map row.Position (pos_of text)

-- an instruction behind its number
unfoldable pub instruction_of : Text → Text → Option Row
instruction_of first text = when (number_of first) (λ n. when (instr_of text) (λ i. Some (row.Instruction n i)))

-- a line in front of the instructions, behind its first word
abbrev pub row_of : RowKind → Text → Option Row
row_of kind.File rest = Some (row.File rest)
row_of kind.Structure rest = structure_of rest
row_of kind.Field rest = field_of rest
row_of kind.Enumeration rest = enumeration_of rest
row_of kind.Case rest = case_of rest
row_of kind.Scope rest = scope_of rest
row_of kind.Item rest = item rest
row_of kind.Target rest = target_of rest
row_of kind.Definition rest = definition_of rest
row_of kind.Function rest = function_of rest
row_of kind.Position rest = position_of rest
row_of kind.Constant rest = constant_of rest

-- a line of a kind, or of an instruction
abbrev pub row_by : Option RowKind → Text → Text → Option Row
row_by None word rest = instruction_of word rest
row_by (Some kind) word rest = row_of kind rest

-- the row of a line
unfoldable pub row_read : Text → Option Row
row_read line = when (cut 32 line) (λ p. row_by (look_up row_kinds p.0) p.0 p.1)
