-- The code of a calculus comes to the outcomes of the calculus.
use Rattle.std.proofs.Common.{◌≡◌, ℕ, Some, Result, Ok, Err}
use Rattle.std.specs.Prelude.{IfOk}
use Rattle.std.proofs.Math.Logic.{∥∥₁_elim, ∥∥₁_map}
use Rattle.std.specs.Coded.{Coded-set, coded_option}
use Rattle.cat_value.specs.contracts.outcome.Outcome.{the_row}
use Rattle.cat_value.specs.declared.outcome.Outcome.{Outcome}
use Rattle.cat_value.specs.Inputs.{IsWellTyped}
use Rattle.cat_scope.specs.Calls.{Items}
use Rattle.cat_calc.specs.declared.calcs.Calc.{Calc}
use Rattle.cat_calc.specs.Calculus.{calc_outcome, calc_run}
use Rattle.cat_calc.proofs.Exported.{has_outcome}
use Rattle.cat_code.specs.declared.code.Code.{Code}
use Rattle.cat_lower.specs.Lowered.{IsCodeOf}
use Rattle.cat_lower.proofs.Exported.{lowered_gives}
use Rattle.cat_machine.specs.Running.{GivesOutcome, IsGiven}

module _ (calc : Calc) (code : Code) (low : IsCodeOf calc code) (scope : ℕ) (input : Items)
    (typed : IsWellTyped calc.decls scope input) where
  -- it may be executed
  pub is_given : ∥ IsGiven code scope input ∥₁
  is_given =
      ∥∥₁_map calc.well_formed (λ formed. record {
        run = calc_run calc scope input;
        gives = lowered_gives calc code low formed scope input typed;
        has_outcome = has_outcome calc scope input typed;
      })

  -- to the outcome of the terms
  pub comes_to : {E : Type 0} (result : Result Outcome E) → IfOk result (GivesOutcome code scope input)
      → IfOk result (λ o. calc_outcome calc scope input ≡ Some o)
  comes_to (Ok o) gives =
      ∥∥₁_elim calc.well_formed (Coded-set (coded_option the_row.coded) (calc_outcome calc scope input) (Some o))
      (λ formed. gives (calc_run calc scope input) (lowered_gives calc code low formed scope input typed))
  comes_to (Err e) gives = tt
