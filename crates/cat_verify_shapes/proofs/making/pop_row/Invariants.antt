use Rattle.cat_verify_shapes.proofs.RowLemmas.{IsRow}
use Rattle.cat_verify_shapes.proofs.making.pop_row.Given as goal

abbrev pub invariant-loop : goal.invariant-loop
invariant-loop l = IsRow l.tables l.forms l.fn.shape l.shape l.count l.counter l.row
