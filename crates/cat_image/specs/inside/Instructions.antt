-- What is read of an instruction's text.
use Rattle.std.specs.Prelude.{ℕ, if◌then◌else◌, Option, Some, None, codes}
use Rattle.std.specs.Option.{option_map}
use Rattle.std.specs.Str.{bytes_eq}
use Rattle.cat_code.specs.declared.instr.Instr.{Instr}
use Rattle.cat_code.specs.declared.instr.Instr.TheVariants as instr
use Rattle.cat_image.specs.declared.names.OneNumber.{OneNumber}
use Rattle.cat_image.specs.declared.names.OneNumber.TheVariants as one
use Rattle.cat_image.specs.declared.names.TwoNumbers.{TwoNumbers}
use Rattle.cat_image.specs.declared.names.TwoNumbers.TheVariants as two
use Rattle.cat_image.specs.declared.instrs.Arguments.{Arguments}
use Rattle.cat_image.specs.declared.instrs.Arguments.TheVariants as arguments
use Rattle.cat_image.specs.Words.{Text}
use Rattle.cat_image.specs.inside.Reads.{when, cut, number_of}
use Rattle.cat_image.specs.inside.Names.{look_up, alone, with_one, with_two}

-- numbers that are parted by blanks, behind the first one
abbrev pub more_numbers : ℕ → Text → Option (Text × Text) → Option Arguments
more_numbers a rest None = option_map (arguments.Two a) (number_of rest)
more_numbers a rest (Some p) = when (number_of p.0) (λ b. option_map (arguments.Three a b) (number_of p.1))

-- one number, or more where a blank parts the text
abbrev pub arguments_by : Text → Option (Text × Text) → Option Arguments
arguments_by text None = option_map arguments.One (number_of text)
arguments_by text (Some p) = when (number_of p.0) (λ a. more_numbers a p.1 (cut 32 p.1))

-- the numbers of a text
unfoldable pub arguments_of : Text → Option Arguments
arguments_of text = arguments_by text (cut 32 text)

-- an instruction of one number
abbrev pub of_one : OneNumber → ℕ → Instr
of_one one.Const a = instr.Const a
of_one one.Slot a = instr.Slot a
of_one one.Local a = instr.Local a
of_one one.Store a = instr.Store a
of_one one.Drop a = instr.Drop a
of_one one.Jump a = instr.Jump a
of_one one.JumpFalse a = instr.JumpFalse a
of_one one.Pack a = instr.Pack a
of_one one.List a = instr.List a
of_one one.Field a = instr.Field a
of_one one.Tag a = instr.Tag a
of_one one.TagNone a = instr.TagNone a
of_one one.IsCase a = instr.IsCase a
of_one one.IterList a = instr.IterList a
of_one one.Next a = instr.Next a
of_one one.Scope a = instr.Scope a
of_one one.Pass a = instr.Pass a
of_one one.Begin a = instr.Begin a
of_one one.Hold a = instr.Hold a
of_one one.Check a = instr.Check a
of_one one.Held a = instr.Held a
of_one one.Take a = instr.Take a
of_one one.NoValue a = instr.NoValue a
of_one one.Assert a = instr.Assert a

-- an instruction of two numbers
abbrev pub of_two : TwoNumbers → ℕ → ℕ → Instr
of_two two.Given a b = instr.Given a b
of_two two.Call a b = instr.Call a b

-- an instruction by its name and its numbers
abbrev pub with_numbers : Text → Arguments → Option Instr
with_numbers name (arguments.One a) = option_map (λ k. of_one k a) (look_up with_one name)
with_numbers name (arguments.Two a b) = option_map (λ k. of_two k a b) (look_up with_two name)
with_numbers name (arguments.Three a b c) = if bytes_eq name (codes "op") then Some (instr.Op a b c) else None

-- an instruction without numbers, or with those behind its name
abbrev pub instr_by : Text → Option (Text × Text) → Option Instr
instr_by text None = look_up alone text
instr_by text (Some p) = when (arguments_of p.1) (with_numbers p.0)

-- the instruction of a text
unfoldable pub instr_of : Text → Option Instr
instr_of text = instr_by text (cut 32 text)
