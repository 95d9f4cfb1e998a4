use Rattle.std.proofs.Common.{◌≡◌, length}
use Rattle.std.specs.Str.{IsUtf8}
use Rattle.cat_image.specs.Words.{is_type}
use Rattle.cat_image.proofs.words.is_type.Given as goal

abbrev pub invariant-loop-element : goal.invariant-loop-element
invariant-loop-element l = record {
  utf8 : IsUtf8 l.rest;
  type : is_type l.rest ≡ is_type l.text;
}

abbrev pub decreases-loop-element : goal.decreases-loop-element
decreases-loop-element l = length l.rest
