-- Where a text is read as what it was written of.
use Rattle.std.specs.Prelude.{◌≡◌, ℕ, ◌≤◌, IsTrue, List, Option, Ok}
use Rattle.cat_value.specs.declared.ty.Ty.{Ty}
use Rattle.cat_value.specs.declared.value.Value.{Value}
use Rattle.cat_value.specs.declared.decls.Decls.{Decls}
use Rattle.cat_value.specs.Declarations.{highest}
use Rattle.cat_value.specs.Inputs.{IsWellTyped}
use Rattle.cat_value.specs.Laws.{height_of}
use Rattle.cat_value.specs.Typing.{has_type}
use Rattle.cat_json.specs.InputsRead.{value_read, input_read}
use Rattle.cat_json.specs.Names.{names_are_distinct}

-- where each name stands for one thing, a text is read as that value of a type, if it is one and the type is at most 64
-- high
abbrev pub IsValueText : Decls → Ty → Value → List ℕ → Type 0
IsValueText ds t v text = IsTrue (names_are_distinct ds) → IsTrue (has_type ds v t) → height_of ds t ≤ highest
    → value_read ds t text ≡ Ok v

-- where each name stands for one thing, a text is read as that input of a scope, if it is a well-typed one
abbrev pub IsInputText : Decls → ℕ → List (Option Value) → List ℕ → Type 0
IsInputText ds scope input text = IsTrue (names_are_distinct ds) → IsWellTyped ds scope input
    → input_read ds scope text ≡ Ok input
