use Rattle.std.proofs.Common.{◌≡◌, drop}
use Rattle.cat_lex.specs.inside.Tables.{begins_pair, spelled_pairs}
use Rattle.cat_lex.proofs.tables.has_first.Given as goal

abbrev pub invariant-loop-one : goal.invariant-loop-one
invariant-loop-one g l = begins_pair (spelled_pairs (drop l.one-index l.table)) l.word
    ≡ begins_pair (spelled_pairs l.table) l.word
