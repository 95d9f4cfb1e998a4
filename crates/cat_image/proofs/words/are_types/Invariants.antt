use Rattle.std.proofs.Common.{◌≡◌, length}
use Rattle.std.specs.Str.{IsUtf8}
use Rattle.cat_image.specs.Words.{words, are_types_of}
use Rattle.cat_image.proofs.words.are_types.Given as goal

abbrev pub invariant-loop-more : goal.invariant-loop-more
invariant-loop-more l = record {
  utf8 : IsUtf8 l.rest;
  types : are_types_of (words l.rest) ≡ are_types_of (words l.text);
}

abbrev pub decreases-loop-more : goal.decreases-loop-more
decreases-loop-more l = length l.rest
