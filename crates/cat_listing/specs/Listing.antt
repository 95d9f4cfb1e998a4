-- The listing of code, as the model format has it.
use Rattle.std.specs.Prelude.{ℕ, List, ◌++◌, codes, decimal}
use Rattle.cat_pos.specs.declared.pos.Pos.{Pos}
use Rattle.cat_value.specs.declared.decls.Decls.{Decls}
use Rattle.cat_answer.specs.Answer.{target_text}
use Rattle.cat_answer.specs.Writes.{value_bytes}
use Rattle.cat_code.specs.declared.code.TargetEntry.{TargetEntry}
use Rattle.cat_code.specs.declared.code.Constant.{Constant}
use Rattle.cat_code.specs.declared.code.Tables.{Tables}
use Rattle.cat_code.specs.declared.code.Code.{Code}
use Rattle.cat_listing.specs.Texts.{Text, lines_of, place_text, type_text}
use Rattle.cat_listing.specs.DeclarationLines.{declaration_lines}
use Rattle.cat_listing.specs.InstructionLines.{instructions_lines}

-- a file's name
unfoldable pub file_line : Text → Text
file_line name = codes "file " ++ (name ++ codes "\n")

-- ---- the tables behind the declarations

-- a target, with the position of the name that has no value where none of its definitions holds
unfoldable pub target_line : Decls → TargetEntry → Text
target_line ds entry =
    codes "target " ++ (target_text ds entry.target ++ (codes " " ++ (place_text entry.pos ++ codes "\n")))

-- a position behind a name
unfoldable pub place_line : Text → Pos → Text
place_line name p = name ++ (place_text p ++ codes "\n")

-- where a function begins
unfoldable pub function_line : ℕ → Text
function_line entry = codes "function " ++ (decimal entry ++ codes "\n")

-- a constant: its type, and its value as JSON
unfoldable pub constant_line : Decls → Constant → Text
constant_line ds c = codes "const " ++ (type_text ds c.ty ++ (codes " " ++ (value_bytes ds c.ty c.value ++ codes "\n")))

-- the tables, one behind the other
unfoldable pub table_lines : Tables → Text
table_lines tables =
    lines_of (target_line tables.decls) tables.targets
    ++ (lines_of (place_line (codes "definition ")) tables.definitions
    ++ (lines_of function_line tables.functions
    ++ (lines_of (place_line (codes "position ")) tables.positions
    ++ lines_of (constant_line tables.decls) tables.constants)))

-- ---- the whole

-- the listing of code whose sources have these names
unfoldable pub listing : Code → List Text → Text
listing code files =
    codes "catala-code 1\n"
    ++ (lines_of file_line files
    ++ (declaration_lines code.tables.decls code.tables.scopes
    ++ (table_lines code.tables ++ instructions_lines 0 code.instructions)))
