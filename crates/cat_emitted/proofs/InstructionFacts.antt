-- Instructions are lines.
use Rattle.std.proofs.Common.{◌≡◌, ℕ, true, List, [], ◌∷◌, ◌++◌, refl, decimal}
use Rattle.std.specs.List.{AllByRecursion, list_all}
use Rattle.cat_code.specs.declared.instr.Instr.{Instr}
use Rattle.cat_code.specs.declared.instr.Instr.TheVariants as instr
use Rattle.cat_image.specs.Words.{IsSmall}
use Rattle.cat_image.specs.Listed.{is_line}
use Rattle.cat_image.specs.InstructionWords.{instr_words, numbers_text, instr_text, IsSmallInstr}
use Rattle.cat_emitted.proofs.WordFacts.{line_append}
use Rattle.cat_emitted.proofs.LineFacts.{is_plain, plain_line, small_line, blank_line}

numbers_line : (ns : List ℕ) → AllByRecursion IsSmall ns → is_line (numbers_text ns) ≡ true
numbers_line [] small = plain_line [] refl
numbers_line (n ∷ ns) small =
    blank_line (decimal n ++ numbers_text ns)
    (line_append (decimal n) (numbers_text ns) (small_line n small.0) (numbers_line ns small.1))

-- the name of an instruction is plain
name_plain : (i : Instr) → list_all is_plain (instr_words i).0 ≡ true
name_plain (instr.Const a) = refl
name_plain (instr.Slot a) = refl
name_plain (instr.Local a) = refl
name_plain (instr.Store a) = refl
name_plain instr.Bind = refl
name_plain (instr.Drop a) = refl
name_plain (instr.Given a b) = refl
name_plain (instr.Jump a) = refl
name_plain (instr.JumpFalse a) = refl
name_plain (instr.Op a b c) = refl
name_plain (instr.Pack a) = refl
name_plain (instr.List a) = refl
name_plain (instr.Field a) = refl
name_plain (instr.Tag a) = refl
name_plain (instr.TagNone a) = refl
name_plain (instr.IsCase a) = refl
name_plain instr.Content = refl
name_plain instr.Length = refl
name_plain instr.Iter = refl
name_plain (instr.IterList a) = refl
name_plain (instr.Next a) = refl
name_plain instr.Collect = refl
name_plain instr.Leave = refl
name_plain (instr.Call a b) = refl
name_plain (instr.Scope a) = refl
name_plain (instr.Pass a) = refl
name_plain instr.Enter = refl
name_plain instr.Return = refl
name_plain (instr.Begin a) = refl
name_plain (instr.Hold a) = refl
name_plain instr.Merge = refl
name_plain (instr.Check a) = refl
name_plain (instr.Held a) = refl
name_plain (instr.Take a) = refl
name_plain (instr.NoValue a) = refl
name_plain (instr.Assert a) = refl

pub instr_line : (i : Instr) → IsSmallInstr i → is_line (instr_text i) ≡ true
instr_line i small =
    line_append (instr_words i).0 (numbers_text (instr_words i).1) (plain_line (instr_words i).0 (name_plain i))
    (numbers_line (instr_words i).1 small)
