-- Code of scopes that grows.
use Rattle.std.specs.Prelude.{◌≡◌, ◌++◌, [], ◌∷◌}
use Rattle.cat_lower.specs.declared.calculus.Draft.{Draft}
use Rattle.cat_lower.specs.Laying.{end_of}
use Rattle.cat_lower.specs.Grown.{ends_of, Grown}
use Rattle.cat_lower.specs.Scopes.{ScopeStanding, functions_code, function_entries}
use Rattle.cat_lower.specs.Definitions.{definitions_of}
use Rattle.cat_lower.specs.Lowered.{Laid, scope_code}

-- a scope is laid behind what stands there
pub record Lays (old new : Draft) (at : ScopeStanding) : Type 0 where
  pub growing : Grown old.growing new.growing (scope_code at)
  pub functions : new.functions ≡ old.functions ++ function_entries at 0 at.here.names.items (ends_of old.growing)
  pub scopes : new.scopes ≡ old.scopes ++ (end_of (functions_code at 0 at.here.names.items) (ends_of old.growing)).place
      ∷ []
  pub definitions : new.definitions ≡ old.definitions ++ definitions_of at.scope.terms []

-- what stands there is all that was to be laid
pub record Holds (draft : Draft) (laid : Laid) : Type 0 where
  pub instructions : draft.growing.instructions ≡ laid.code.instructions
  pub constants : draft.growing.constants ≡ laid.code.constants
  pub positions : draft.growing.positions ≡ laid.code.positions
  pub targets : draft.growing.targets ≡ laid.code.targets
  pub functions : draft.functions ≡ laid.functions
  pub scopes : draft.scopes ≡ laid.scopes
  pub definitions : draft.definitions ≡ laid.definitions
