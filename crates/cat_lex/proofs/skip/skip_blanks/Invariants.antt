use Rattle.std.proofs.Common.{◌≡◌, drop}
use Rattle.cat_pos.specs.Bytes.{is_blank}
use Rattle.cat_lex.specs.inside.Reading.{skip}
use Rattle.cat_lex.proofs.skip.skip_blanks.Given as goal

abbrev pub invariant-loop-at : goal.invariant-loop-at
invariant-loop-at l = skip is_blank (drop l.at l.text) ≡ skip is_blank l.text
