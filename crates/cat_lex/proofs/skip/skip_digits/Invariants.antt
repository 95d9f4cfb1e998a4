use Rattle.std.proofs.Common.{◌≡◌, drop}
use Rattle.std.specs.Char.{is_ascii_digit}
use Rattle.cat_lex.specs.inside.Reading.{skip}
use Rattle.cat_lex.proofs.skip.skip_digits.Given as goal

abbrev pub invariant-loop-at : goal.invariant-loop-at
invariant-loop-at l = skip is_ascii_digit (drop l.at l.text) ≡ skip is_ascii_digit l.text
