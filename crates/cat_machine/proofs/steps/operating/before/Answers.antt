use Rattle.std.proofs.Common.{◌∙◌, sym}
use Rattle.cat_machine.proofs.steps.operating.before.Goals as goal

pub returns : goal.returns
returns c = λ p v is. c.convert.ensures p v (is ∙ sym c.scalar_at.ensures)
