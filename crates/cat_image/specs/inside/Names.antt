-- The words that lines and instructions begin with.
use Rattle.std.specs.Prelude.{ℕ, Bool, false, if◌then◌else◌, List, [], ◌∷◌, Option, Some, None, codes}
use Rattle.std.specs.Char.{is_ascii_digit}
use Rattle.std.specs.Str.{bytes_eq}
use denote.Ref.{Bor}
use Rattle.cat_code.specs.declared.instr.Instr.{Instr}
use Rattle.cat_code.specs.declared.instr.Instr.TheVariants as instr
use Rattle.cat_image.specs.declared.tables.ImageKind.{ImageKind}
use Rattle.cat_image.specs.declared.tables.ImageKind.TheVariants as kind
use Rattle.cat_image.specs.declared.names.RowKind.{RowKind}
use Rattle.cat_image.specs.declared.names.RowKind.TheVariants as row
use Rattle.cat_image.specs.declared.names.OneNumber.{OneNumber}
use Rattle.cat_image.specs.declared.names.OneNumber.TheVariants as one
use Rattle.cat_image.specs.declared.names.TwoNumbers.{TwoNumbers}
use Rattle.cat_image.specs.declared.names.TwoNumbers.TheVariants as two
use Rattle.cat_image.specs.Words.{Text}

-- what the list has for this spelling
abbrev pub look_up : {K : Type 0} → List (Text × K) → Text → Option K
look_up [] text = None
look_up (entry ∷ entries) text = if bytes_eq text entry.0 then Some entry.1 else look_up entries text

-- the entries of a table, by the bytes that spell them
abbrev pub spelled : {K : Type 0} → List (Bor (List ℕ) × K) → List (Text × K)
spelled [] = []
spelled (entry ∷ entries) = (entry.0.now, entry.1) ∷ spelled entries

-- a digit stands first
abbrev pub begins_with_digit : Text → Bool
begins_with_digit [] = false
begins_with_digit (b ∷ bs) = is_ascii_digit b

-- kinds of lines in front of the instructions
unfoldable pub row_kinds : List (Text × RowKind)
row_kinds =
    (codes "file", row.File) ∷ (codes "structure", row.Structure) ∷ (codes "field", row.Field) ∷
    (codes "enumeration", row.Enumeration) ∷ (codes "case", row.Case) ∷ (codes "scope", row.Scope) ∷
    (codes "item", row.Item) ∷ (codes "target", row.Target) ∷ (codes "definition", row.Definition) ∷
    (codes "function", row.Function) ∷ (codes "position", row.Position) ∷ (codes "const", row.Constant) ∷ []

-- kinds of items
unfoldable pub item_kinds : List (Text × ImageKind)
item_kinds =
    (codes "input", kind.Input) ∷ (codes "output", kind.Output) ∷ (codes "internal", kind.Internal) ∷
    (codes "context", kind.Context) ∷ (codes "inputoutput", kind.InputOutput) ∷
    (codes "contextoutput", kind.ContextOutput) ∷ (codes "called", kind.Called) ∷ []

-- instructions that have no number
unfoldable pub alone : List (Text × Instr)
alone =
    (codes "bind", instr.Bind) ∷ (codes "content", instr.Content) ∷ (codes "length", instr.Length) ∷
    (codes "iter", instr.Iter) ∷ (codes "collect", instr.Collect) ∷ (codes "leave", instr.Leave) ∷
    (codes "enter", instr.Enter) ∷ (codes "return", instr.Return) ∷ (codes "merge", instr.Merge) ∷ []

-- instructions that have one number
unfoldable pub with_one : List (Text × OneNumber)
with_one =
    (codes "const", one.Const) ∷ (codes "slot", one.Slot) ∷ (codes "local", one.Local) ∷
    (codes "store", one.Store) ∷ (codes "drop", one.Drop) ∷ (codes "jump", one.Jump) ∷
    (codes "jumpfalse", one.JumpFalse) ∷ (codes "pack", one.Pack) ∷ (codes "list", one.List) ∷
    (codes "field", one.Field) ∷ (codes "tag", one.Tag) ∷ (codes "tagnone", one.TagNone) ∷
    (codes "iscase", one.IsCase) ∷ (codes "iterlist", one.IterList) ∷ (codes "next", one.Next) ∷
    (codes "scope", one.Scope) ∷ (codes "pass", one.Pass) ∷ (codes "begin", one.Begin) ∷
    (codes "hold", one.Hold) ∷ (codes "check", one.Check) ∷ (codes "held", one.Held) ∷
    (codes "take", one.Take) ∷ (codes "novalue", one.NoValue) ∷ (codes "assert", one.Assert) ∷ []

-- instructions that have two numbers
unfoldable pub with_two : List (Text × TwoNumbers)
with_two =
    (codes "given", two.Given) ∷ (codes "call", two.Call) ∷ []
