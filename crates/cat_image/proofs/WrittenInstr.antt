-- What an instruction spells is read as it.
use Rattle.std.proofs.Common.{◌≡◌, ℕ, ◌^◌, ◌<◌, inl, List, [], ◌∷◌, ◌++◌, Some}
use Rattle.std.proofs.Common.{None}
use Rattle.std.proofs.Common.{refl, arith, append-nil, codes, decimal}
use Rattle.cat_code.specs.declared.instr.Instr.{Instr}
use Rattle.cat_code.specs.declared.instr.Instr.TheVariants as instr
use Rattle.cat_image.specs.declared.names.OneNumber.TheVariants as one
use Rattle.cat_image.specs.declared.names.TwoNumbers.TheVariants as two
use Rattle.cat_image.specs.declared.instrs.Arguments.{Arguments}
use Rattle.cat_image.specs.declared.instrs.Arguments.TheVariants as arguments
use Rattle.cat_image.specs.Words.{Text, IsSmall}
use Rattle.cat_image.specs.InstructionWords.{instr_text, IsSmallInstr}
use Rattle.cat_image.specs.inside.Reads.{cut}
use Rattle.cat_image.specs.inside.Names.{alone, with_one, with_two}
use Rattle.cat_image.specs.inside.Instructions.{arguments_of}
use Rattle.cat_image.specs.inside.Instructions.{with_numbers, instr_of}
use Rattle.cat_image.proofs.CutLemmas.{cut_at}
use Rattle.cat_image.proofs.NumberLemmas.{number_written, cut_decimal}

-- ---- an instruction that is written

blank : (n : ℕ) → n < 2 ^ 32 → cut 32 (decimal n) ≡ None
blank n low = cut_decimal 32 n low (inl (omega arith))

one_number : (a : ℕ) → IsSmall a → arguments_of (decimal a ++ []) ≡ Some (arguments.One a)
unfolding arguments_of
one_number a low =
    let same : decimal a ++ [] ≡ decimal a = append-nil (decimal a) in
    rw (same, blank a low, number_written a low) refl

two_numbers : (a b : ℕ) → IsSmall a → IsSmall b
    → arguments_of (decimal a ++ 32 ∷ (decimal b ++ [])) ≡ Some (arguments.Two a b)
unfolding arguments_of
two_numbers a b one two =
    let same : decimal b ++ [] ≡ decimal b = append-nil (decimal b) in
    rw (
      same,
      cut_at 32 (decimal a) (decimal b)
          (blank a one),
      number_written a one,
      blank b two,
      number_written b two,
    ) refl

three_numbers : (a b c : ℕ) → IsSmall a → IsSmall b → IsSmall c
    → arguments_of (decimal a ++ 32 ∷ (decimal b ++ 32 ∷ (decimal c ++ []))) ≡ Some (arguments.Three a b c)
unfolding arguments_of
three_numbers a b c one two three =
    let same : decimal c ++ [] ≡ decimal c = append-nil (decimal c) in
    rw (
      same,
      cut_at 32 (decimal a) (decimal b ++ 32 ∷ decimal c) (blank a one),
      number_written a one,
      cut_at 32 (decimal b) (decimal c) (blank b two),
      number_written b two,
      number_written c three,
    ) refl

-- behind a name
named : (text name rest : Text) (a : Arguments) (i : Instr) → cut 32 text ≡ Some (name, rest)
    → arguments_of rest ≡ Some a
    → with_numbers name a ≡ Some i → instr_of text ≡ Some i
unfolding instr_of
named text name rest a i at numbers is = rw (at, numbers) is

pub instr_written : (i : Instr) → IsSmallInstr i → instr_of (instr_text i) ≡ Some i
unfolding instr_of cut alone with_one with_two
instr_written (instr.Const a) low =
    named (codes "const" ++ 32 ∷ (decimal a ++ [])) (codes "const") (decimal a ++ []) (arguments.One a)
    (instr.Const a) refl
    (one_number a low.0) refl
instr_written (instr.Slot a) low =
    named (codes "slot" ++ 32 ∷ (decimal a ++ [])) (codes "slot") (decimal a ++ []) (arguments.One a)
    (instr.Slot a) refl
    (one_number a low.0) refl
instr_written (instr.Local a) low =
    named (codes "local" ++ 32 ∷ (decimal a ++ [])) (codes "local") (decimal a ++ []) (arguments.One a)
    (instr.Local a) refl
    (one_number a low.0) refl
instr_written (instr.Store a) low =
    named (codes "store" ++ 32 ∷ (decimal a ++ [])) (codes "store") (decimal a ++ []) (arguments.One a)
    (instr.Store a) refl
    (one_number a low.0) refl
instr_written instr.Bind low = refl
instr_written (instr.Drop a) low =
    named (codes "drop" ++ 32 ∷ (decimal a ++ [])) (codes "drop") (decimal a ++ []) (arguments.One a)
    (instr.Drop a) refl
    (one_number a low.0) refl
instr_written (instr.Given a b) low =
    named (codes "given" ++ 32 ∷ (decimal a ++ 32 ∷ (decimal b ++ []))) (codes "given")
    (decimal a ++ 32 ∷ (decimal b ++ []))
    (arguments.Two a b) (instr.Given a b) refl (two_numbers a b low.0 low.1.0) refl
instr_written (instr.Jump a) low =
    named (codes "jump" ++ 32 ∷ (decimal a ++ [])) (codes "jump") (decimal a ++ []) (arguments.One a)
    (instr.Jump a) refl
    (one_number a low.0) refl
instr_written (instr.JumpFalse a) low =
    named (codes "jumpfalse" ++ 32 ∷ (decimal a ++ [])) (codes "jumpfalse") (decimal a ++ []) (arguments.One a)
    (instr.JumpFalse a) refl
    (one_number a low.0) refl
instr_written (instr.Op a b c) low =
    named (codes "op" ++ 32 ∷ (decimal a ++ 32 ∷ (decimal b ++ 32 ∷ (decimal c ++ [])))) (codes "op")
    (decimal a ++ 32 ∷ (decimal b ++ 32 ∷ (decimal c ++ []))) (arguments.Three a b c) (instr.Op a b c) refl
    (three_numbers a b c low.0 low.1.0 low.1.1.0) refl
instr_written (instr.Pack a) low =
    named (codes "pack" ++ 32 ∷ (decimal a ++ [])) (codes "pack") (decimal a ++ []) (arguments.One a)
    (instr.Pack a) refl
    (one_number a low.0) refl
instr_written (instr.List a) low =
    named (codes "list" ++ 32 ∷ (decimal a ++ [])) (codes "list") (decimal a ++ []) (arguments.One a)
    (instr.List a) refl
    (one_number a low.0) refl
instr_written (instr.Field a) low =
    named (codes "field" ++ 32 ∷ (decimal a ++ [])) (codes "field") (decimal a ++ []) (arguments.One a)
    (instr.Field a) refl
    (one_number a low.0) refl
instr_written (instr.Tag a) low =
    named (codes "tag" ++ 32 ∷ (decimal a ++ [])) (codes "tag") (decimal a ++ []) (arguments.One a) (instr.Tag a) refl
    (one_number a low.0) refl
instr_written (instr.TagNone a) low =
    named (codes "tagnone" ++ 32 ∷ (decimal a ++ [])) (codes "tagnone") (decimal a ++ []) (arguments.One a)
    (instr.TagNone a) refl
    (one_number a low.0) refl
instr_written (instr.IsCase a) low =
    named (codes "iscase" ++ 32 ∷ (decimal a ++ [])) (codes "iscase") (decimal a ++ []) (arguments.One a)
    (instr.IsCase a) refl
    (one_number a low.0) refl
instr_written instr.Content low = refl
instr_written instr.Length low = refl
instr_written instr.Iter low = refl
instr_written (instr.IterList a) low =
    named (codes "iterlist" ++ 32 ∷ (decimal a ++ [])) (codes "iterlist") (decimal a ++ []) (arguments.One a)
    (instr.IterList a) refl
    (one_number a low.0) refl
instr_written (instr.Next a) low =
    named (codes "next" ++ 32 ∷ (decimal a ++ [])) (codes "next") (decimal a ++ []) (arguments.One a)
    (instr.Next a) refl
    (one_number a low.0) refl
instr_written instr.Collect low = refl
instr_written instr.Leave low = refl
instr_written (instr.Call a b) low =
    named (codes "call" ++ 32 ∷ (decimal a ++ 32 ∷ (decimal b ++ []))) (codes "call")
    (decimal a ++ 32 ∷ (decimal b ++ []))
    (arguments.Two a b) (instr.Call a b) refl (two_numbers a b low.0 low.1.0) refl
instr_written (instr.Scope a) low =
    named (codes "scope" ++ 32 ∷ (decimal a ++ [])) (codes "scope") (decimal a ++ []) (arguments.One a)
    (instr.Scope a) refl
    (one_number a low.0) refl
instr_written (instr.Pass a) low =
    named (codes "pass" ++ 32 ∷ (decimal a ++ [])) (codes "pass") (decimal a ++ []) (arguments.One a)
    (instr.Pass a) refl
    (one_number a low.0) refl
instr_written instr.Enter low = refl
instr_written instr.Return low = refl
instr_written (instr.Begin a) low =
    named (codes "begin" ++ 32 ∷ (decimal a ++ [])) (codes "begin") (decimal a ++ []) (arguments.One a)
    (instr.Begin a) refl
    (one_number a low.0) refl
instr_written (instr.Hold a) low =
    named (codes "hold" ++ 32 ∷ (decimal a ++ [])) (codes "hold") (decimal a ++ []) (arguments.One a)
    (instr.Hold a) refl
    (one_number a low.0) refl
instr_written instr.Merge low = refl
instr_written (instr.Check a) low =
    named (codes "check" ++ 32 ∷ (decimal a ++ [])) (codes "check") (decimal a ++ []) (arguments.One a)
    (instr.Check a) refl
    (one_number a low.0) refl
instr_written (instr.Held a) low =
    named (codes "held" ++ 32 ∷ (decimal a ++ [])) (codes "held") (decimal a ++ []) (arguments.One a)
    (instr.Held a) refl
    (one_number a low.0) refl
instr_written (instr.Take a) low =
    named (codes "take" ++ 32 ∷ (decimal a ++ [])) (codes "take") (decimal a ++ []) (arguments.One a)
    (instr.Take a) refl
    (one_number a low.0) refl
instr_written (instr.NoValue a) low =
    named (codes "novalue" ++ 32 ∷ (decimal a ++ [])) (codes "novalue") (decimal a ++ []) (arguments.One a)
    (instr.NoValue a) refl
    (one_number a low.0) refl
instr_written (instr.Assert a) low =
    named (codes "assert" ++ 32 ∷ (decimal a ++ [])) (codes "assert") (decimal a ++ []) (arguments.One a)
    (instr.Assert a) refl
    (one_number a low.0) refl
