-- What the runs of a program's code tell of its scopes.
use Rattle.std.proofs.Common.{◌≡◌, ◌∙◌, ℕ, Some, sym}
use Rattle.std.proofs.Math.Logic.{∥∥₁_elim, ∥∥₁_map}
use Rattle.std.specs.Coded.{Coded-set, coded_option}
use Rattle.cat_value.specs.contracts.outcome.Outcome.{the_row}
use Rattle.cat_value.specs.declared.outcome.Outcome.{Outcome}
use Rattle.cat_value.specs.Inputs.{IsWellTyped}
use Rattle.cat_scope.specs.declared.programs.Program.{Program}
use Rattle.cat_scope.specs.Calls.{Items}
use Rattle.cat_scope.specs.Outcomes.{scope_outcome}
use Rattle.cat_code.specs.declared.code.Code.{Code}
use Rattle.cat_machine.specs.Running.{GivesOutcome, IsGiven}
use Rattle.cat_machine.specs.ForPrograms.{IsCodeFor, RunsScope}

module _ (program : Program) (code : Code) (scope : ℕ) (input : Items) (runs : RunsScope program code scope input) where
  -- it may be executed
  given_by : IsGiven code scope input
  given_by = record { run = runs.run; gives = runs.gives; has_outcome = runs.has_outcome }

  -- to the scope's outcome
  outcome_by : (made : Outcome) → GivesOutcome code scope input made → scope_outcome program scope input ≡ Some made
  outcome_by made gives = sym runs.outcome ∙ gives runs.run runs.gives

-- the code of a program, on a well-typed input
module _ (program : Program) (code : Code) (is : ∥ IsCodeFor program code ∥₁) (scope : ℕ) (input : Items)
    (typed : IsWellTyped program.decls scope input) where
  -- it may be executed
  pub is_given : ∥ IsGiven code scope input ∥₁
  is_given = ∥∥₁_map is (λ runs. given_by program code scope input (runs.runs scope input typed))

  -- to the outcome of the scope
  pub comes_to : (made : Outcome) → GivesOutcome code scope input made → scope_outcome program scope input ≡ Some made
  comes_to made gives =
      ∥∥₁_elim is (Coded-set (coded_option the_row.coded) (scope_outcome program scope input) (Some made))
      (λ runs. outcome_by program code scope input (runs.runs scope input typed) made gives)
