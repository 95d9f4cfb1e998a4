-- A listing has a byte at least for each instruction.
use Rattle.std.proofs.Common.{◌≤◌, ◌+◌, ℕ, List, [], ◌∷◌, ◌++◌, length, decimal, codes, arith}
use Rattle.std.proofs.lemmas.List.{length-append}
use Rattle.cat_code.specs.declared.code.Code.{Code}
use Rattle.cat_code.specs.declared.instr.Instr.{Instr}
use Rattle.cat_listing.specs.Texts.{Text, lines_of}
use Rattle.cat_listing.specs.DeclarationLines.{declaration_lines}
use Rattle.cat_listing.specs.InstructionLines.{instr_text, instr_line, instructions_lines}
use Rattle.cat_listing.specs.Listing.{file_line, table_lines, listing}

behind : (before after : Text) (n : ℕ) → n ≤ length after → n ≤ length (before ++ after)
behind before after n few = let all = length-append before after in omega (arith, few, all)

line_long : (n : ℕ) (i : Instr) → 1 ≤ length (instr_line n i)
unfolding instr_line
line_long n i = behind (decimal n) (codes " " ++ instr_text i) 1 (omega arith)

lines_long : (n : ℕ) (is : List Instr) → length is ≤ length (instructions_lines n is)
lines_long n [] = omega arith
lines_long n (i ∷ is) =
    let all = length-append (instr_line n i) (instructions_lines (n + 1) is) in
    let first = line_long n i in
    let rest = lines_long (n + 1) is in
    omega (arith, all, first, rest)

pub listed_few : (code : Code) (files : List Text) → length code.instructions ≤ length (listing code files)
unfolding listing
listed_few code files =
    let lines = instructions_lines 0 code.instructions in
    let tables = table_lines code.tables ++ lines in
    let declared = declaration_lines code.tables.decls code.tables.scopes ++ tables in
    behind (codes "catala-code 1\n") (lines_of file_line files ++ declared) _
    (behind (lines_of file_line files) declared _
    (behind (declaration_lines code.tables.decls code.tables.scopes) tables _
    (behind (table_lines code.tables) lines _ (lines_long 0 code.instructions))))
