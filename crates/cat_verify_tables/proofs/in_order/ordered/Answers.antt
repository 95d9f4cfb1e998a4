use Rattle.std.proofs.Common.{◌∙◌, ℕ, List, subst}
use Rattle.cat_depend.specs.CycleWays.{IsNextOnCycle}
use Rattle.cat_verify_tables.proofs.in_order.ordered.Goals as goal

pub returns-in-Err-Cycle-clause-cause : goal.returns-in-Err-Cycle-clause-cause
returns-in-Err-Cycle-clause-cause c = record {
  number = c.in-Err-Cycle.number;
  part = c.in_ok-part-in-Err-Cycle.part;
  round = subst (λ (deps : List (List ℕ)). IsNextOnCycle deps c.in-Err-Cycle.number c.in_ok-part-in-Err-Cycle.part)
      (c.as_slice-in-Err-Cycle.ensures ∙ c.in_ok-deps.ensures) c.in_ok-part-in-Err-Cycle.ensures;
  at = c.in_ok-line-in-Err-Cycle.ensures;
}
