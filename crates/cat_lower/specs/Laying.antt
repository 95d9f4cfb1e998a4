-- Code is laid behind what stands in front of it, part by part.
use Rattle.std.specs.Prelude.{ℕ, ◌+◌, List, [], ◌∷◌, ◌++◌}
use Rattle.cat_pos.specs.declared.pos.Pos.{Pos}
use Rattle.cat_code.specs.declared.instr.Instr.{Instr}
use Rattle.cat_code.specs.declared.instr.Instr.TheVariants as instr
use Rattle.cat_code.specs.declared.code.Constant.{Constant}
use Rattle.cat_code.specs.declared.code.TargetEntry.{TargetEntry}

-- what a part of the code adds to each table
pub record Parts : Type 0 where
  pub instructions : List Instr
  pub constants : List Constant
  pub positions : List Pos
  pub targets : List TargetEntry

-- how many entries of each table stand in front
pub record Ends : Type 0 where
  pub place : ℕ
  pub constants : ℕ
  pub positions : ℕ
  pub targets : ℕ

-- code, by what stands in front of it
abbrev pub Coded : Type 0
Coded = Ends → Parts

-- the number behind some entries
abbrev pub past : {A : Type 0} → ℕ → List A → ℕ
past n [] = n
past n (x ∷ xs) = past (n + 1) xs

-- what stands in front of what follows some parts
abbrev pub after : Ends → Parts → Ends
after ends parts = record {
  place = past ends.place parts.instructions;
  constants = past ends.constants parts.constants;
  positions = past ends.positions parts.positions;
  targets = past ends.targets parts.targets;
}

-- two parts, one behind the other
abbrev pub joined : Parts → Parts → Parts
joined one other = record {
  instructions = one.instructions ++ other.instructions;
  constants = one.constants ++ other.constants;
  positions = one.positions ++ other.positions;
  targets = one.targets ++ other.targets;
}

-- no code
abbrev pub nothing : Coded
nothing ends = record { instructions = []; constants = []; positions = []; targets = [] }

-- one instruction
abbrev pub one : Instr → Coded
one i ends = record { instructions = i ∷ []; constants = []; positions = []; targets = [] }

-- an instruction that names a constant of its own
abbrev pub with_constant : (ℕ → Instr) → Constant → Coded
with_constant i c ends =
    record { instructions = i ends.constants ∷ []; constants = c ∷ []; positions = []; targets = [] }

-- an instruction that names a position of its own
abbrev pub with_position : (ℕ → Instr) → Pos → Coded
with_position i p ends =
    record { instructions = i ends.positions ∷ []; constants = []; positions = p ∷ []; targets = [] }

-- an entry of a target
abbrev pub entry : TargetEntry → Coded
entry target ends = record { instructions = []; constants = []; positions = []; targets = target ∷ [] }

-- one behind the other
abbrev pub then_code : Coded → Coded → Coded
then_code a b ends = joined (a ends) (b (after ends (a ends)))

-- an instruction in front
abbrev pub led : Instr → Coded → Coded
led i a = then_code (one i) a

-- what stands in front of what follows a part
abbrev pub end_of : Coded → Ends → Ends
end_of a ends = after ends (a ends)

-- what stands in front of what follows one instruction
abbrev pub skip : Ends → Ends
skip ends = record ends { place = ends.place + 1 }

-- some parts, one behind the other
abbrev pub all_code : List Coded → Coded
all_code [] = nothing
all_code (a ∷ rest) = then_code a (all_code rest)

-- a jump over a part
abbrev pub over : (ℕ → Instr) → Coded → Coded
over jump a ends = led (jump (end_of a (skip ends)).place) a ends

-- two sides: a jump to the second one, and behind the first one a jump over the second
abbrev pub branch : (ℕ → Instr) → Coded → Coded → Coded
branch jump a b ends =
    led (jump (skip (end_of a (skip ends))).place)
    (then_code a (over (λ t. instr.Jump t) b)) ends

-- the rest of a loop that was begun: its body, and a jump back
abbrev pub loop : Coded → Coded
loop body ends =
    led (instr.Next (skip (end_of body (skip ends))).place) (then_code body (one (instr.Jump ends.place))) ends

-- code for a target, by the number of an entry of its own
abbrev pub targeted : TargetEntry → (ℕ → Coded) → Coded
targeted target a ends = then_code (entry target) (a ends.targets) ends
