use Rattle.std.proofs.Common.{◌≡◌, drop}
use Rattle.cat_lex.specs.Words.{look_up_pair}
use Rattle.cat_lex.specs.inside.Tables.{spelled_pairs}
use Rattle.cat_lex.proofs.tables.look_up_pair.Given as goal

abbrev pub invariant-loop-one : goal.invariant-loop-one
invariant-loop-one g l = look_up_pair (spelled_pairs (drop l.one-index l.table)) l.first l.second ≡ look_up_pair
    (spelled_pairs l.table) l.first l.second
