use Rattle.std.proofs.Common.{◌≡◌, length}
use Rattle.std.specs.Str.{IsUtf8}
use Rattle.cat_lex.specs.Gaps.{is_white_space}
use Rattle.cat_lex.specs.inside.Reading.{after}
use Rattle.cat_lex.proofs.skip.after_white_space.Given as goal

abbrev pub invariant-loop-c : goal.invariant-loop-c
invariant-loop-c l = record {
  utf8 : IsUtf8 l.rest;
  after : after is_white_space l.rest ≡ after is_white_space l.text;
}

abbrev pub decreases-loop-c : goal.decreases-loop-c
decreases-loop-c l = length l.rest
