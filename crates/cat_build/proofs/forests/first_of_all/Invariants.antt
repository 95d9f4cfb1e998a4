use Rattle.cat_build.specs.inside.Forests.{StandsFirst}
use Rattle.cat_build.proofs.forests.first_of_all.Given as goal

abbrev pub invariant-loop-scope : goal.invariant-loop-scope
invariant-loop-scope l = StandsFirst l.scope l.program l.first
