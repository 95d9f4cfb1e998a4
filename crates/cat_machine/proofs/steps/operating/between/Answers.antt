use Rattle.std.proofs.Common.{sym}
use Rattle.cat_machine.proofs.steps.operating.between.Goals as goal

pub returns-in-Some : goal.returns-in-Some
returns-in-Some c =
    λ p v w first second. sym (c.in-Some.ensures c.args.rounding p v w first second)
