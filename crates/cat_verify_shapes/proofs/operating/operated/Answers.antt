use Rattle.std.proofs.Common.{subst}
use Rattle.cat_verify_shapes.specs.declared.operators.Operator.{Operator}
use Rattle.cat_verify_shapes.specs.inside.Operators.{IsOf}
use Rattle.cat_verify_shapes.proofs.operating.operated.Goals as goal

pub returns-in-Before : goal.returns-in-Before
returns-in-Before c =
    λ o of. c.before-in-Before.ensures o (subst (λ (x : Operator). IsOf x o) c.in-Before.is of)

pub returns-in-Between : goal.returns-in-Between
returns-in-Between c =
    λ o of. c.between.ensures o (subst (λ (x : Operator). IsOf x o) c.in-Between.is of)
