-- The forests of the scopes in front of one, or the refusal that is named first of them.
use Rattle.std.specs.Prelude.{◌≡◌, ◌<◌, ℕ, nat_lt, List, length, slice_get, IfSome, if◌then◌else◌}
use Rattle.cat_scope.specs.declared.forest.Forest.{Forest}
use Rattle.cat_scope.specs.declared.programs.Program.{Program}
use Rattle.cat_scope.specs.Forests.{StandsFor}
use Rattle.cat_except.specs.declared.refusal.ExceptRefusal.{ExceptRefusal}
use Rattle.cat_except.specs.declared.refusal.ExceptRefusal.TheVariants as exception
use Rattle.cat_except.specs.Causes as exceptions
use Rattle.cat_except.specs.Faults.{groups_in}
use Rattle.cat_build.specs.Accepted.{MakeForestsTo}
use Rattle.cat_build.specs.Causes.{HasNoEarlier}

-- a forest for each scope before one of that number
pub record AreForestsTo (bound : ℕ) (program : Program) (forests : List Forest) : Type 0 where
  pub counted : length forests ≡ bound
  pub stand : (scope : ℕ) → IfSome (slice_get forests scope) (λ forest. StandsFor program scope forest.targets)
  pub make : MakeForestsTo bound program

-- a refusal stands in a scope before one of that number, and none of an earlier kind in any of them
pub record StandsFirst (bound : ℕ) (program : Program) (refusal : ExceptRefusal) : Type 0 where
  pub scope : ℕ
  pub within : scope < bound
  pub refused : exceptions.HasCause (groups_in program scope) refusal
  pub first : (other : ℕ) → other < bound → HasNoEarlier refusal (groups_in program other)

-- the place of a refusal's kind in their order, behind want of memory
abbrev pub kind_place : ExceptRefusal → ℕ
kind_place exception.Memory = 0
kind_place (exception.LabelUnknown p) = 1
kind_place (exception.LabelSplit p) = 2
kind_place (exception.ExceptionAmbiguous p) = 3
kind_place (exception.ExceptionCycle p) = 4
kind_place (exception.TooMany p) = 5

-- of two refusals the one whose kind is named first
abbrev pub first_named : ExceptRefusal → ExceptRefusal → ExceptRefusal
first_named one other = if nat_lt (kind_place other) (kind_place one) then other else one
