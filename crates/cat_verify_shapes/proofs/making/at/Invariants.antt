use Rattle.cat_verify_shapes.proofs.RowLemmas.{IsBehind}
use Rattle.cat_verify_shapes.proofs.making.at.Given as goal

abbrev pub invariant-loop : goal.invariant-loop
invariant-loop l = IsBehind l.tables l.forms l.row l.rest l.counter
