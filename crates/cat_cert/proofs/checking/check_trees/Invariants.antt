use Rattle.cat_cert.proofs.TableLemmas.{IsOnWay}
use Rattle.cat_cert.proofs.checking.check_trees.Given as goal

abbrev pub invariant-loop-table : goal.invariant-loop-table
invariant-loop-table l = IsOnWay l.tables l.trees l.table-index l.at
