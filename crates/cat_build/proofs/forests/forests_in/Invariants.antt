use Rattle.cat_build.specs.inside.Forests.{AreForestsTo}
use Rattle.cat_build.proofs.forests.forests_in.Given as goal

abbrev pub invariant-loop-scope : goal.invariant-loop-scope
invariant-loop-scope l = AreForestsTo l.scope l.program l.forests
