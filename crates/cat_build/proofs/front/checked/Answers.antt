use Rattle.std.proofs.Common.{sym, subst}
use Rattle.cat_build.specs.Causes.{HasCause}
use Rattle.cat_build.proofs.FrontSteps.{tree_cause}
use Rattle.cat_build.proofs.front.checked.Goals as goal

pub returns-in-Err-Refused-clause-cause : goal.returns-in-Err-Refused-clause-cause
returns-in-Err-Refused-clause-cause c =
    subst (HasCause c.args.pieces.now) (sym c.fault_refusal.ensures)
    (tree_cause c.args.pieces.now c.args.tree c.requires.spelled c.in-Err-Refused.fault
    (rw c.in-Err-Refused.field-0-is at c.in-Err-Refused.ensures.cause))
