-- Tame code: what it takes that each run ends.
use Rattle.std.specs.Prelude.{◌≡◌, ℕ, ◌+◌, nat_lt, ◌||◌, Bool, true, false, IsTrue, List, [], ◌∷◌, Option, Some, None}
use Rattle.std.specs.Prelude.{slice_get}
use Rattle.cat_code.specs.declared.instr.Instr.{Instr}
use Rattle.cat_code.specs.declared.instr.Instr.TheVariants as instr
use Rattle.cat_code.specs.Shapes.{Owner, Shape}
use Rattle.cat_code.specs.Shaped.{Shapes}
use Rattle.cat_code.specs.Jumps.{jump_of, called_by}

-- whether the instruction at a place is a `next`
abbrev pub is_next : Option Instr → Bool
is_next (Some (instr.Next t)) = true
is_next _ = false

-- whether a jump may go back to a place: only `jump`, and to a `next`
abbrev pub may_go_back : List Instr → Instr → Bool
may_go_back code (instr.Jump t) = is_next (slice_get code t)
may_go_back code _ = false

-- whether a jump goes to a later instruction, or where it may go back to
abbrev pub is_forward : List Instr → ℕ → Instr → Option ℕ → Bool
is_forward code p i None = true
is_forward code p i (Some t) = nat_lt p t || may_go_back code i

-- each jump from place p on goes forward, or back to a `next`
abbrev pub AreForward : List Instr → ℕ → List Instr → Type 0
AreForward code p [] = Unit {0}
AreForward code p (i ∷ is) = IsTrue (is_forward code p i (jump_of i)) × AreForward code (p + 1) is

-- an instruction that belongs to one function or scope calls another one
pub record IsCallOf (code : List Instr) (shapes : Shapes) (caller called : Owner) : Type 0 where
  pub place : ℕ
  pub shape : Shape
  pub instruction : Instr
  pub shape_is : slice_get shapes place ≡ Some (Some shape)
  pub owner_is : shape.owner ≡ caller
  pub instruction_is : slice_get code place ≡ Some instruction
  pub calls : called_by caller instruction ≡ Some called

-- a chain of calls leads from one function or scope to another one
pub data LeadTo (code : List Instr) (shapes : Shapes) : Owner → Owner → Type 0 where
  call : {a b : Owner} → IsCallOf code shapes a b → LeadTo code shapes a b
  chain : {a b c : Owner} → IsCallOf code shapes a b → LeadTo code shapes b c → LeadTo code shapes a c

-- jumps go forward but to a `next`, and no chain of calls leads from a function or scope to itself
pub record IsTame (code : List Instr) (shapes : Shapes) : Type 0 where
  pub forward : AreForward code 0 code
  pub acyclic : (owner : Owner) → LeadTo code shapes owner owner → ⊥
