use Rattle.cat_cert.proofs.TableLemmas.{IsUnderWay}
use Rattle.cat_cert.proofs.checking.check_table.Given as goal

abbrev pub invariant-loop-at : goal.invariant-loop-at
invariant-loop-at l = IsUnderWay l.table l.trees l.at l.region
