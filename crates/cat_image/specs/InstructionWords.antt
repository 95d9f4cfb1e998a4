-- The words of an instruction: its name, and its numbers.
use Rattle.std.specs.Prelude.{ℕ, List, [], ◌∷◌, ◌++◌, codes, decimal}
use Rattle.std.specs.List.{AllByRecursion}
use Rattle.cat_code.specs.declared.instr.Instr.{Instr}
use Rattle.cat_code.specs.declared.instr.Instr.TheVariants as instr
use Rattle.cat_image.specs.Words.{Text, IsSmall}

-- one line for each
abbrev pub instr_words : Instr → Text × List ℕ
instr_words (instr.Const a) = (codes "const", a ∷ [])
instr_words (instr.Slot a) = (codes "slot", a ∷ [])
instr_words (instr.Local a) = (codes "local", a ∷ [])
instr_words (instr.Store a) = (codes "store", a ∷ [])
instr_words instr.Bind = (codes "bind", [])
instr_words (instr.Drop a) = (codes "drop", a ∷ [])
instr_words (instr.Given a b) = (codes "given", a ∷ b ∷ [])
instr_words (instr.Jump a) = (codes "jump", a ∷ [])
instr_words (instr.JumpFalse a) = (codes "jumpfalse", a ∷ [])
instr_words (instr.Op a b c) = (codes "op", a ∷ b ∷ c ∷ [])
instr_words (instr.Pack a) = (codes "pack", a ∷ [])
instr_words (instr.List a) = (codes "list", a ∷ [])
instr_words (instr.Field a) = (codes "field", a ∷ [])
instr_words (instr.Tag a) = (codes "tag", a ∷ [])
instr_words (instr.TagNone a) = (codes "tagnone", a ∷ [])
instr_words (instr.IsCase a) = (codes "iscase", a ∷ [])
instr_words instr.Content = (codes "content", [])
instr_words instr.Length = (codes "length", [])
instr_words instr.Iter = (codes "iter", [])
instr_words (instr.IterList a) = (codes "iterlist", a ∷ [])
instr_words (instr.Next a) = (codes "next", a ∷ [])
instr_words instr.Collect = (codes "collect", [])
instr_words instr.Leave = (codes "leave", [])
instr_words (instr.Call a b) = (codes "call", a ∷ b ∷ [])
instr_words (instr.Scope a) = (codes "scope", a ∷ [])
instr_words (instr.Pass a) = (codes "pass", a ∷ [])
instr_words instr.Enter = (codes "enter", [])
instr_words instr.Return = (codes "return", [])
instr_words (instr.Begin a) = (codes "begin", a ∷ [])
instr_words (instr.Hold a) = (codes "hold", a ∷ [])
instr_words instr.Merge = (codes "merge", [])
instr_words (instr.Check a) = (codes "check", a ∷ [])
instr_words (instr.Held a) = (codes "held", a ∷ [])
instr_words (instr.Take a) = (codes "take", a ∷ [])
instr_words (instr.NoValue a) = (codes "novalue", a ∷ [])
instr_words (instr.Assert a) = (codes "assert", a ∷ [])

-- numbers, each behind a blank
abbrev pub numbers_text : List ℕ → Text
numbers_text [] = []
numbers_text (n ∷ ns) = codes " " ++ (decimal n ++ numbers_text ns)

-- the text of an instruction: its name, and its numbers behind blanks
abbrev pub instr_text : Instr → Text
instr_text i = (instr_words i).0 ++ numbers_text (instr_words i).1

-- 32 bits hold each of its numbers
abbrev pub IsSmallInstr : Instr → Type 0
IsSmallInstr i = AllByRecursion IsSmall (instr_words i).1
