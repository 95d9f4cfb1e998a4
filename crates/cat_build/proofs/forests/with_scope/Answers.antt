use Rattle.std.proofs.Common.{sym, subst, ◌+◌}
use Rattle.cat_build.specs.inside.Forests.{StandsFirst}
use Rattle.cat_build.proofs.ForestSteps.{stands_still, stands_then}
use Rattle.cat_build.proofs.forests.with_scope.Goals as goal

pub returns-in-Ok : goal.returns-in-Ok
returns-in-Ok c =
    stands_still c.args.scope c.args.program.now c.args.refusal c.requires.first c.in-Ok.ensures.faultless

pub returns-in-Err : goal.returns-in-Err
returns-in-Err c =
    subst (StandsFirst (c.args.scope + 1) c.args.program.now) (sym c.first_named.ensures)
    (stands_then c.args.scope c.args.program.now c.args.refusal c.in-Err.other c.requires.first
    c.in-Err.ensures.cause)
