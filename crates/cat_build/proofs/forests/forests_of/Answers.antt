use Rattle.std.proofs.Common.{sym, subst}
use Rattle.cat_build.specs.Causes.{HasCause}
use Rattle.cat_build.proofs.ForestSteps.{forest_cause}
use Rattle.cat_build.proofs.forests.forests_of.Goals as goal

pub returns-in-Err-clause-cause : goal.returns-in-Err-clause-cause
returns-in-Err-clause-cause c =
    subst (HasCause c.args.pieces.now) (sym c.refusal_of.ensures)
    (forest_cause c.args.pieces.now c.args.program.now c.in-Err.refusal c.requires.program
    c.in-Err.ensures.cause)
