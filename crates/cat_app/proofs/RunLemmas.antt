-- The runs of a drill, one after the other.
use Rattle.std.proofs.Common.{◌≡◌, ◌∙◌, ◌+◌, ◌*◌, ℕ, ℤ, ◌+ℤ◌, sym, ap, subst}
use Rattle.std.specs.Prelude.{Some}
use Rattle.cat_value.specs.declared.outcome.Outcome.{Outcome}
use Rattle.cat_value.specs.declared.outcome.Outcome.TheVariants as outcome
use Rattle.cat_scope.specs.declared.programs.Program.{Program}
use Rattle.cat_sound.proofs.Exported.{same_some}
use Rattle.cat_app.specs.Runs.{ComesTo, HaveSum, rate_of}
use Rattle.cat_app.specs.Runs as runs
use Rattle.cat_app.specs.inside.Once.{rate_in}

module _ (program : Program) (scope bands j : ℕ) (sum : ℤ) (before : HaveSum program scope bands j sum) where
  pub one_run_more : (o : Outcome) (rate more : ℤ) → ComesTo program scope (j * bands) o → Some rate ≡ rate_in o
      → more ≡ sum +ℤ rate → HaveSum program scope bands (j + 1) more
  one_run_more (outcome.Value outputs) rate more comes is added =
      let same : rate_of outputs ≡ rate = same_some (rate_of outputs) rate (sym is) in
      subst (λ (z : ℤ). HaveSum program scope bands (j + 1) z)
      (sym (added ∙ ap (λ (r : ℤ). sum +ℤ r) (sym same))) (runs.one_more j sum outputs before comes)
  one_run_more (outcome.Conflict target positions) rate more comes is added = cc is
  one_run_more (outcome.NoValue target pos) rate more comes is added = cc is
  one_run_more (outcome.Fault kind pos) rate more comes is added = cc is
