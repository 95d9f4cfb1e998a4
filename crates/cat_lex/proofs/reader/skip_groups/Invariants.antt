use Rattle.std.proofs.Common.{◌≡◌, length}
use Rattle.cat_lex.specs.inside.Reading.{skip_groups}
use Rattle.cat_lex.proofs.reader.skip_groups.Given as goal

abbrev pub invariant-loop-rest : goal.invariant-loop-rest
invariant-loop-rest l = skip_groups l.rest ≡ skip_groups l.text

abbrev pub decreases-loop-rest : goal.decreases-loop-rest
decreases-loop-rest l = length l.rest
