use Rattle.cat_verify_tables.proofs.PlainValues.{truth_value}
use Rattle.cat_verify_tables.proofs.plain_values.plain_boolean.Goals as goal

pub returns : goal.returns
returns c = λ ds. rw c.in_ok-truth.ensures (truth_value c.in_ok-truth.truth ds)
