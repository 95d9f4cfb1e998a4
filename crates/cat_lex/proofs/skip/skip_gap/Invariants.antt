use Rattle.std.proofs.Common.{◌≡◌, false, drop}
use Rattle.cat_lex.specs.inside.Reading.{skip_gap}
use Rattle.cat_lex.proofs.skip.skip_gap.Given as goal

abbrev pub invariant-loop-at : goal.invariant-loop-at
invariant-loop-at l = skip_gap l.inside (drop l.at l.text) ≡ skip_gap false l.text
