-- What a part of the lowering adds to the tables.
use Rattle.std.specs.Prelude.{◌≡◌, ℕ, ◌++◌, List, [], ◌∷◌, length, slice_set}
use Rattle.cat_lower.specs.declared.growing.Growing.{Growing}
use Rattle.cat_code.specs.declared.instr.Instr.{Instr}
use Rattle.cat_code.specs.declared.instr.Instr.TheVariants as instr
use Rattle.cat_lower.specs.Laying.{Ends, Coded, led, branch}

-- how much stands in the tables
abbrev pub ends_of : Growing → Ends
ends_of tables = record {
  place = length tables.instructions;
  constants = length tables.constants;
  positions = length tables.positions;
  targets = length tables.targets;
}

-- the tables grew by this code
pub record Grown (old new : Growing) (a : Coded) : Type 0 where
  pub instructions : new.instructions ≡ old.instructions ++ (a (ends_of old)).instructions
  pub constants : new.constants ≡ old.constants ++ (a (ends_of old)).constants
  pub positions : new.positions ≡ old.positions ++ (a (ends_of old)).positions
  pub targets : new.targets ≡ old.targets ++ (a (ends_of old)).targets

-- another instruction in the place of one
pub record Patched (old new : Growing) (at : ℕ) (i : Instr) : Type 0 where
  pub instructions : new.instructions ≡ slice_set old.instructions at i
  pub constants : new.constants ≡ old.constants
  pub positions : new.positions ≡ old.positions
  pub targets : new.targets ≡ old.targets

-- behind an instruction at a place, and a part, it is patched, and more is laid: with the part this is now other code
pub record Closes (start : ℕ) (x : Instr) (old new : Growing) (whole : Coded → Coded) : Type 0 where
  pub closed : (before : Growing) (part : Coded) → start ≡ length before.instructions → Grown before old (led x part)
      → Grown before new (whole part)

-- behind two sides, the jumps in front of them are patched
pub record ClosesSides (test first : ℕ) (old new : Growing) : Type 0 where
  pub closed : (before middle : Growing) (a b : Coded) → test ≡ length before.instructions
      → first ≡ length middle.instructions
      → Grown before middle (led (instr.JumpFalse 0) a) → Grown middle old (led (instr.Jump 0) b)
      → Grown before new (branch (λ t. instr.JumpFalse t) a b)

-- one instruction at a place
abbrev pub patched_at : ℕ → Instr → Growing → Growing
patched_at at i tables = record tables { instructions = slice_set tables.instructions at i }

-- one instruction at several places
abbrev pub all_patched : List ℕ → Instr → Growing → Growing
all_patched [] i tables = tables
all_patched (at ∷ places) i tables = patched_at at i (all_patched places i tables)
