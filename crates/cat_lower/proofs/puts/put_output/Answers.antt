use Rattle.cat_lower.proofs.Grows.{then_ok}
use Rattle.cat_lower.proofs.puts.put_output.Goals as goal

pub returns : goal.returns
returns c = then_ok _ _ _ _ _ _ c.in_ok-put.ensures c.put-2.ensures
