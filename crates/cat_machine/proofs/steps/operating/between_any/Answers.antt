use Rattle.std.proofs.Common.{◌∙◌, sym}
use Rattle.cat_machine.proofs.steps.operating.between_any.Goals as goal

pub returns : goal.returns
returns c = λ p v w first second.
    c.operate.ensures p v w (first ∙ sym c.scalar_at.ensures) (second ∙ sym c.scalar_at-2.ensures)
