-- The forests of all scopes of a program.
use Rattle.std.specs.Prelude.{◌≡◌, ℕ, IfSome, List, length, slice_get}
use Rattle.cat_scope.specs.declared.forest.Forest.{Forest}
use Rattle.cat_scope.specs.declared.programs.Program.{Program}
use Rattle.cat_scope.specs.Forests.{StandsFor}

-- one forest for each scope of a program, which stands for the labels of its definitions
pub record AreForestsOf (program : Program) (forests : List Forest) : Type 0 where
  pub counted : length forests ≡ length program.bodies
  pub stand : (scope : ℕ) → IfSome (slice_get forests scope) (λ forest. StandsFor program scope forest.targets)
