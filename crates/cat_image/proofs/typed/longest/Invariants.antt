use Rattle.std.proofs.Common.{◌≡◌, ◌+◌, ◌≤◌, length}
use Rattle.std.specs.Str.{IsUtf8}
use Rattle.cat_image.specs.Words.{words}
use Rattle.cat_image.specs.inside.Typed.{typed_of}
use Rattle.cat_image.proofs.ListedLemmas.{behind_lists, IsLast}
use Rattle.cat_image.proofs.typed.longest.Given as goal

abbrev pub invariant-loop-element : goal.invariant-loop-element
invariant-loop-element l = record {
  utf8 : IsUtf8 l.rest;
  last_utf8 : IsUtf8 l.last;
  typed : behind_lists l.lists (words l.rest) (typed_of (words l.rest)) ≡ typed_of (words l.text);
  last : IsLast l.lists l.last l.rest;
  counted : l.lists + length l.rest ≤ length l.text;
}

abbrev pub decreases-loop-element : goal.decreases-loop-element
decreases-loop-element l = length l.rest
