-- One run of a drill.
use Rattle.std.specs.Prelude.{◌≡◌, ◌≢◌, ℕ, ℤ, Option, None, Some, Result, Ok, Err}
use Rattle.cat_value.specs.declared.outcome.Outcome.{Outcome}
use Rattle.cat_value.specs.declared.outcome.Outcome.TheVariants as outcome
use Rattle.cat_scope.specs.declared.programs.Program.{Program}
use Rattle.cat_json.specs.declared.refusal.InputRefusal.{InputRefusal}
use Rattle.cat_json.specs.declared.refusal.InputRefusal.TheVariants.{Memory}
use Rattle.cat_json.specs.InputsRead.{input_read}
use Rattle.cat_app.specs.Texts.{income_text}
use Rattle.cat_app.specs.Runs.{ComesTo, rate_of}

-- the rate of an outcome that is a value
abbrev pub rate_in : Outcome → Option ℤ
rate_in (outcome.Value outputs) = Some (rate_of outputs)
rate_in o = None

-- what a run on an income of so many units comes to, or why its input isn't read
abbrev pub RunsOnce : Program → ℕ → ℕ → Result Outcome InputRefusal → Type 0
RunsOnce program scope units (Ok o) = ComesTo program scope units o
RunsOnce program scope units (Err refusal) =
    (input_read program.decls scope (income_text units) ≡ Err refusal) × (refusal ≢ Memory)
