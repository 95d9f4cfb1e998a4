use Rattle.std.proofs.Common.{rules}
use Rattle.cat_build.proofs.ForestSteps.{one_more, stands_here}
use Rattle.cat_build.proofs.forests.forests_in.Goals as goal

pub loop-scope-preserved : goal.loop-scope-preserved
loop-scope-preserved c =
    one_more c.loop-scope.scope c.args.program.now c.loop-scope.forests c.push.new.self c.in-Ok.forest
    c.loop-scope.invariant c.in-Ok.ensures.stands c.in-Ok.ensures.faultless (search rules)

pub first_of_all-requires-clause-first : goal.first_of_all-requires-clause-first
first_of_all-requires-clause-first c =
    stands_here c.loop-scope.scope c.args.program.now c.in-Err.refusal c.loop-scope.invariant.make
    c.in-Err.ensures.cause
