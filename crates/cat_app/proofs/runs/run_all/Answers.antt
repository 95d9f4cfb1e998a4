use Rattle.std.proofs.Common.{rules, ◌≡◌, ◌∙◌, ◌+◌, ◌*◌, ◌+ℤ◌, ℤ, FitsSigned, of_z, refl, subst, sym, to_z}
use Rattle.std.proofs.Common.{to_z-of_z, w64}
use Rattle.std.specs.Prelude.{Result, Some}
use Rattle.cat_value.specs.declared.outcome.Outcome.{Outcome}
use Rattle.cat_json.specs.declared.refusal.InputRefusal.{InputRefusal}
use Rattle.cat_app.specs.Runs.{ComesTo, HaveSum}
use Rattle.cat_app.specs.Runs as runs
use Rattle.cat_app.specs.inside.Once.{RunsOnce, rate_in}
use Rattle.cat_app.proofs.RunLemmas.{one_run_more}
use Rattle.cat_app.proofs.runs.run_all.Goals as goal

pub loop-run-init : goal.loop-run-init
loop-run-init c = (runs.none, c.in_ok-loaded.ensures)

pub loop-run-preserved : goal.loop-run-preserved
loop-run-preserved c =
    let program = c.args.program.now in
    let scope = c.args.scope in
    let bands = c.args.bands in
    let run = c.loop-run.run in
    let more = c.in-Some-checked_add.more in
    let fits : FitsSigned w64 more = search rules in
    let back : to_z w64 (of_z w64 more) ≡ more = simp to_z-of_z refl in
    let comes : ComesTo program scope (run * bands) c.in-Ok.outcome =
    subst (λ (r : Result Outcome InputRefusal). RunsOnce program scope (run * bands) r) c.in-Ok.is
    c.in_ok-outcome.ensures.ran in
    let rate_is : Some c.in-Some.rate ≡ rate_in c.in-Ok.outcome = cc (c.in-Some.is, c.rate_in.ensures) in
    let added : more ≡ c.loop-run.sum +ℤ c.in-Some.rate = search rules in
    let sum_is : to_z w64 c.loop-run.sum-bits ≡ c.loop-run.sum = cc (c.loop-run.sum-is) in
    let before = subst (λ (z : ℤ). HaveSum program scope bands run z) sum_is c.loop-run.invariant.0 in (
      subst (λ (z : ℤ). HaveSum program scope bands (run + 1) z) (sym back)
          (one_run_more program scope bands run c.loop-run.sum before c.in-Ok.outcome c.in-Some.rate more comes rate_is
          added),
      c.run_once.ensures.clean ∙ c.loop-run.invariant.1,
    )
