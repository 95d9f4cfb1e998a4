use Rattle.std.proofs.Common.{rules, ◌≡◌, subst, sym}
use Rattle.std.specs.Prelude.{IfOk}
use Rattle.cat_machine.specs.declared.machine.Machine.{Machine}
use Rattle.cat_machine.specs.inside.Begun.{GivesEnd, HasEnd}
use Rattle.cat_machine.proofs.Faces.{has_end, ran_in}
use Rattle.cat_machine.proofs.executing.run_in.Goals as goal

pub outcome_at-outcome-requires : goal.outcome_at-outcome-requires
outcome_at-outcome-requires c =
    let same : c.deref.result.now ≡ c.run_machine-count.result.machine.value = search rules in
    subst (λ (m : Machine). HasEnd c.args.code.now.tables m c.run_machine-count.result.end) (sym same)
    (has_end c.args.code.now c.args.scope c.args.input.now c.args.machine.value.pool
    c.run_machine-count.result.machine.value c.run_machine-count.result.count c.run_machine-count.result.end
    c.run_machine-count.ensures c.requires.given)

pub returns-clause-ran : goal.returns-clause-ran
returns-clause-ran c =
    let same : c.deref.result.now ≡ c.run_machine-count.result.machine.value = search rules in
    ran_in c.args.code.now c.args.scope c.args.input.now c.args.machine.value.pool
    c.run_machine-count.result.machine.value c.run_machine-count.result.count c.run_machine-count.result.end
    c.outcome_at-outcome.result c.run_machine-count.ensures
    (subst (λ (m : Machine). IfOk c.outcome_at-outcome.result
    (GivesEnd c.args.code.now.tables m c.run_machine-count.result.end)) same c.outcome_at-outcome.ensures)
