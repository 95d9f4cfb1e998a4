-- Valid code is given an outcome on each well-typed input, and what is executed is what it gives.
use Rattle.std.proofs.Common.{◌≡◌, ℕ, List, refl, sym, ap, subst}
use Rattle.std.specs.Prelude.{Option, Some, Result, Ok, Err, IsSome}
use Rattle.std.proofs.Math.Logic.{∥∥₁_map}
use Rattle.cat_value.specs.declared.value.Value.{Value}
use Rattle.cat_value.specs.declared.outcome.Outcome.{Outcome}
use Rattle.cat_value.specs.Inputs.{IsWellTyped}
use Rattle.cat_scope.specs.Calls.{Items}
use Rattle.cat_scope.specs.Outcomes.{outcome_of}
use Rattle.cat_scope.specs.declared.stop.Stop.{Stop}
use Rattle.cat_scope.specs.declared.stop.Stop.TheVariants as stop
use Rattle.cat_code.specs.declared.code.Code.{Code}
use Rattle.cat_code.specs.declared.code.Tables.{Tables}
use Rattle.cat_code.specs.declared.instr.Instr.{Instr}
use Rattle.cat_code.specs.Valid.{IsValid}
use Rattle.cat_code_sound.specs.Ending.{RunsToAnEnd}
use Rattle.cat_machine.specs.Running.{GivesOutcome, IsGiven}
use Rattle.cat_app.specs.Executed.{GivesAlone}

-- valid code runs to an end
abbrev pub AllEnd : Type 0
AllEnd = (tables : Tables) (code : List Instr) → IsValid tables code → (scope : ℕ) (input : Items)
    → IsWellTyped tables.decls scope input → RunsToAnEnd tables code scope input

-- an end that isn't stuck has an outcome
has_outcome : (end : Result (List Value) Stop) → (end ≡ Err stop.Stuck → ⊥) → IsSome (outcome_of end)
has_outcome (Ok outputs) goes_on = refl
has_outcome (Err (stop.Conflict target positions)) goes_on = refl
has_outcome (Err (stop.NoValue target pos)) goes_on = refl
has_outcome (Err (stop.Fault fault pos)) goes_on = refl
has_outcome (Err stop.Stuck) goes_on = absurd (goes_on refl)

pub given_by : AllEnd → (code : Code) (scope : ℕ) (input : Items) → ∥ IsValid code.tables code.instructions ∥₁
    → IsWellTyped code.tables.decls scope input → ∥ IsGiven code scope input ∥₁
given_by all code scope input is typed = ∥∥₁_map is (λ valid.
    let ends = all code.tables code.instructions valid scope input typed in record {
      run = ends.run;
      gives = ends.gives;
      has_outcome = has_outcome ends.run.end ends.goes_on;
    })

pub gives_alone : (code : Code) (scope : ℕ) (input : Items) (made : Outcome) → ∥ IsGiven code scope input ∥₁
    → GivesOutcome code scope input made → GivesAlone code.tables code.instructions scope input made
gives_alone code scope input made is gives =
    record { some = ∥∥₁_map is (λ given. (given.run, given.gives)); alone = gives }
