-- Calls of functions of other scopes, by the scopes that come to each instruction.
use Rattle.std.specs.Prelude.{◌≡◌, ℕ, nat_eq, not, Bool, true, false, List, Option, Some, None, slice_get}
use Rattle.cat_code.specs.declared.instr.Instr.{Instr}
use Rattle.cat_code.specs.declared.instr.Instr.TheVariants as instr
use Rattle.cat_verify_tables.specs.declared.places.FunctionPlace.{FunctionPlace}
use Rattle.cat_verify.specs.declared.stamps.Stamps.{Stamps}
use Rattle.cat_verify.specs.declared.stamps.Stamps.TheVariants.{Nobody, One, Two}
use Rattle.cat_verify.specs.declared.refusal.VerifyRefusal.{VerifyRefusal}
use Rattle.cat_verify.specs.declared.refusal.VerifyRefusal.TheVariants as refusal

-- whether one of the stamps is another one
abbrev pub is_abroad : Stamps → ℕ → Bool
is_abroad Nobody scope = false
is_abroad (One a) scope = not (nat_eq a scope)
is_abroad (Two a b) scope = true

-- whether one of them is another than the scope of a function
abbrev pub is_abroad_from : Stamps → Option FunctionPlace → Bool
is_abroad_from scopes None = false
is_abroad_from scopes (Some place) = is_abroad scopes place.scope

-- whether an instruction to which these scopes come calls a function of another one
abbrev pub calls_abroad : List FunctionPlace → Stamps → Instr → Bool
calls_abroad functions scopes (instr.Call f n) = is_abroad_from scopes (slice_get functions f)
calls_abroad functions scopes _ = false

-- an instruction that calls one
pub record IsAbroad (functions : List FunctionPlace) (code : List Instr) (marks : List Stamps) (k : ℕ) : Type 0 where
  pub instruction : Instr
  pub scopes : Stamps
  pub instruction_is : slice_get code k ≡ Some instruction
  pub scopes_are : slice_get marks k ≡ Some scopes
  pub abroad : calls_abroad functions scopes instruction ≡ true

abbrev pub NoneAbroad : List FunctionPlace → List Instr → List Stamps → Type 0
NoneAbroad functions code marks = (k : ℕ) → IsAbroad functions code marks k → ⊥

abbrev pub OneAbroad : List FunctionPlace → List Instr → List Stamps → VerifyRefusal → Type 0
OneAbroad functions code marks (refusal.BadNumber k) = IsAbroad functions code marks k
OneAbroad functions code marks _ = ⊥
