-- Code in which parts stand at their places.
use Rattle.std.specs.Prelude.{◌≡◌, ℕ, ◌+◌, List, [], ◌∷◌, Some, slice_get}
use Rattle.cat_code.specs.declared.instr.Instr.{Instr}
use Rattle.cat_code.specs.declared.code.Tables.{Tables}
use Rattle.cat_lower.specs.Laying.{Parts, Ends}

-- these stand in a list from number n on
abbrev pub HasAt : {A : Type 0} → List A → ℕ → List A → Type 0
HasAt all n [] = Unit {0}
HasAt all n (x ∷ xs) = (slice_get all n ≡ Some x) × HasAt all (n + 1) xs

-- what is laid behind these ends stands in the code
pub record Has (tables : Tables) (code : List Instr) (ends : Ends) (parts : Parts) : Type 0 where
  pub instructions : HasAt code ends.place parts.instructions
  pub constants : HasAt tables.constants ends.constants parts.constants
  pub positions : HasAt tables.positions ends.positions parts.positions
  pub targets : HasAt tables.targets ends.targets parts.targets
