-- The runs of a drill, and the sum of their rates.
use Rattle.std.specs.Prelude.{◌≡◌, ◌≢◌, ◌<◌, ℕ, ◌+◌, ◌*◌, ℤ, pos, ◌+ℤ◌, List, [], ◌∷◌, Option, Some, Ok, Err}
use Rattle.cat_value.specs.declared.value.Value.{Value}
use Rattle.cat_value.specs.declared.value.Value.TheVariants as value
use Rattle.cat_value.specs.declared.outcome.Outcome.{Outcome}
use Rattle.cat_value.specs.declared.outcome.Outcome.TheVariants as outcome
use Rattle.cat_scope.specs.declared.programs.Program.{Program}
use Rattle.cat_scope.specs.Outcomes.{scope_outcome}
use Rattle.cat_json.specs.declared.refusal.InputRefusal.{InputRefusal}
use Rattle.cat_json.specs.declared.refusal.InputRefusal.TheVariants.{Memory}
use Rattle.cat_json.specs.InputsRead.{input_read}
use Rattle.cat_app.specs.Limits.{runs}
use Rattle.cat_app.specs.Texts.{income_text}
use Rattle.cat_app.specs.declared.runs.Ran.{Ran}
use Rattle.cat_app.specs.declared.runs.Ran.TheVariants as ran

-- what a scope comes to on an income of so many units
pub record ComesTo (program : Program) (scope units : ℕ) (o : Outcome) : Type 0 where
  pub input : List (Option Value)
  pub input_is : input_read program.decls scope (income_text units) ≡ Ok input
  pub outcome_is : scope_outcome program scope input ≡ Some o

-- the rate that outputs tell: that of one whole number alone, and else nothing
abbrev pub rate_of : List Value → ℤ
rate_of (value.Integer n ∷ []) = n
rate_of outputs = pos 0

-- the first runs each have a value, and their rates have this sum. Run j, from 0, has an income of j times the number
-- of bands
pub data HaveSum (program : Program) (scope bands : ℕ) : ℕ → ℤ → Type 0 where
  none : HaveSum program scope bands 0 (pos 0)
  one_more : (j : ℕ) (sum : ℤ) (outputs : List Value) → HaveSum program scope bands j sum
      → ComesTo program scope (j * bands) (outcome.Value outputs)
      → HaveSum program scope bands (j + 1) (sum +ℤ rate_of outputs)

-- the outcome is a value
abbrev pub IsValue : Outcome → Type 0
IsValue (outcome.Value outputs) = Unit {0}
IsValue o = ⊥

-- a run of the thousand is the first that has no value, and it comes to this outcome
pub record IsFirstStop (program : Program) (scope bands : ℕ) (o : Outcome) : Type 0 where
  pub run : ℕ
  pub sum : ℤ
  pub within : run < runs
  pub before : HaveSum program scope bands run sum
  pub comes_to : ComesTo program scope (run * bands) o
  pub stops : IsValue o → ⊥

-- a run of the thousand is the first whose input isn't read, and all before it have a value
pub record IsFirstRefused (program : Program) (scope bands : ℕ) (refusal : InputRefusal) : Type 0 where
  pub run : ℕ
  pub sum : ℤ
  pub within : run < runs
  pub before : HaveSum program scope bands run sum
  pub refused : input_read program.decls scope (income_text (run * bands)) ≡ Err refusal
  pub real : refusal ≢ Memory

-- what the thousand runs come to
abbrev pub AreRunsOf : Program → ℕ → ℕ → Ran → Type 0
AreRunsOf program scope bands (ran.Sum sum) = HaveSum program scope bands runs sum
AreRunsOf program scope bands (ran.Stopped o) = IsFirstStop program scope bands o
AreRunsOf program scope bands (ran.Refused refusal) = IsFirstRefused program scope bands refusal
