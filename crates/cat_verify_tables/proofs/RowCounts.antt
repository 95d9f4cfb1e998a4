-- Tables have no more rows than with instructions behind them.
use Rattle.std.proofs.Common.{◌≤◌, List, [], ◌∷◌, ◌++◌, length, map, arith}
use Rattle.std.specs.Prelude.{flat_map}
use Rattle.std.proofs.lemmas.List.{length-append}
use Rattle.cat_pos.specs.Limits.{most_input_bytes}
use Rattle.cat_code.specs.declared.instr.Instr.{Instr}
use Rattle.cat_image.specs.declared.row.Row.{Row}
use Rattle.cat_image.specs.declared.row.Row.TheVariants as row
use Rattle.cat_image.specs.declared.tables.ImageTables.{ImageTables}
use Rattle.cat_image.specs.Rows.{enumeration_rows, instruction_rows, joined, rows_of, scope_rows, structure_rows}
use Rattle.cat_verify_tables.specs.inside.DeclarationWords.{HasFewRows}

joined_less : (parts : List (List Row)) (one other : List Row) → length one ≤ length other
    → length (joined (parts ++ one ∷ [])) ≤ length (joined (parts ++ other ∷ []))
joined_less [] one other less =
    let a = length-append one [] in let b = length-append other [] in omega (arith, a, b, less)
joined_less (part ∷ parts) one other less =
    let rest = joined_less parts one other less in
    let a = length-append part (joined (parts ++ one ∷ [])) in
    let b = length-append part (joined (parts ++ other ∷ [])) in omega (arith, a, b, rest)

pub few_rows : (tables : ImageTables) (is : List Instr) → length (rows_of tables is) ≤ most_input_bytes
    → HasFewRows tables
few_rows tables is few =
    let parts = map row.File tables.files ∷ flat_map structure_rows tables.structures
    ∷ flat_map enumeration_rows tables.enumerations ∷ flat_map scope_rows tables.scopes
    ∷ map row.Target tables.targets ∷ map row.Definition tables.definitions ∷ map row.Function tables.functions
    ∷ map row.Position tables.positions ∷ map row.Constant tables.constants ∷ [] in
    let less = joined_less parts [] (instruction_rows 0 is) (omega arith) in omega (arith, less, few)
