use Rattle.std.proofs.Common.{◌≡◌, ◌&&◌, ◌||◌, length}
use Rattle.std.specs.Str.{IsUtf8}
use Rattle.cat_image.specs.Words.{words, are_types_of, is_what}
use Rattle.cat_image.proofs.words.is_what.Given as goal

abbrev pub invariant-loop-element : goal.invariant-loop-element
invariant-loop-element l = record {
  utf8 : IsUtf8 l.rest;
  what : ((l.is_list && are_types_of (words l.rest)) || is_what l.rest) ≡ is_what l.text;
}

abbrev pub decreases-loop-element : goal.decreases-loop-element
decreases-loop-element l = length l.rest
