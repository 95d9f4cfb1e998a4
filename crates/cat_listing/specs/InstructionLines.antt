-- The lines of instructions.
use Rattle.std.specs.Prelude.{ℕ, ◌+◌, List, [], ◌∷◌, ◌++◌, codes, decimal}
use Rattle.cat_code.specs.declared.instr.Instr.{Instr}
use Rattle.cat_code.specs.declared.instr.Instr.TheVariants as instr
use Rattle.cat_listing.specs.Texts.{Text}

-- numbers, each behind a blank, up to the end of the line
abbrev pub numbers_text : List ℕ → Text
numbers_text [] = codes "\n"
numbers_text (n ∷ ns) = codes " " ++ (decimal n ++ numbers_text ns)

-- a name with its numbers
abbrev pub words : Text → List ℕ → Text
words name numbers = name ++ numbers_text numbers

-- an instruction, one line for each
abbrev pub instr_text : Instr → Text
instr_text (instr.Const a) = words (codes "const") (a ∷ [])
instr_text (instr.Slot a) = words (codes "slot") (a ∷ [])
instr_text (instr.Local a) = words (codes "local") (a ∷ [])
instr_text (instr.Store a) = words (codes "store") (a ∷ [])
instr_text instr.Bind = words (codes "bind") []
instr_text (instr.Drop a) = words (codes "drop") (a ∷ [])
instr_text (instr.Given a b) = words (codes "given") (a ∷ b ∷ [])
instr_text (instr.Jump a) = words (codes "jump") (a ∷ [])
instr_text (instr.JumpFalse a) = words (codes "jumpfalse") (a ∷ [])
instr_text (instr.Op a b c) = words (codes "op") (a ∷ b ∷ c ∷ [])
instr_text (instr.Pack a) = words (codes "pack") (a ∷ [])
instr_text (instr.List a) = words (codes "list") (a ∷ [])
instr_text (instr.Field a) = words (codes "field") (a ∷ [])
instr_text (instr.Tag a) = words (codes "tag") (a ∷ [])
instr_text (instr.TagNone a) = words (codes "tagnone") (a ∷ [])
instr_text (instr.IsCase a) = words (codes "iscase") (a ∷ [])
instr_text instr.Content = words (codes "content") []
instr_text instr.Length = words (codes "length") []
instr_text instr.Iter = words (codes "iter") []
instr_text (instr.IterList a) = words (codes "iterlist") (a ∷ [])
instr_text (instr.Next a) = words (codes "next") (a ∷ [])
instr_text instr.Collect = words (codes "collect") []
instr_text instr.Leave = words (codes "leave") []
instr_text (instr.Call a b) = words (codes "call") (a ∷ b ∷ [])
instr_text (instr.Scope a) = words (codes "scope") (a ∷ [])
instr_text (instr.Pass a) = words (codes "pass") (a ∷ [])
instr_text instr.Enter = words (codes "enter") []
instr_text instr.Return = words (codes "return") []
instr_text (instr.Begin a) = words (codes "begin") (a ∷ [])
instr_text (instr.Hold a) = words (codes "hold") (a ∷ [])
instr_text instr.Merge = words (codes "merge") []
instr_text (instr.Check a) = words (codes "check") (a ∷ [])
instr_text (instr.Held a) = words (codes "held") (a ∷ [])
instr_text (instr.Take a) = words (codes "take") (a ∷ [])
instr_text (instr.NoValue a) = words (codes "novalue") (a ∷ [])
instr_text (instr.Assert a) = words (codes "assert") (a ∷ [])

-- an instruction behind its own number
unfoldable pub instr_line : ℕ → Instr → Text
instr_line n i = decimal n ++ (codes " " ++ instr_text i)

-- the instructions from number n on
abbrev pub instructions_lines : ℕ → List Instr → Text
instructions_lines n [] = []
instructions_lines n (i ∷ is) = instr_line n i ++ instructions_lines (n + 1) is
