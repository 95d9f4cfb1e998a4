use Rattle.std.proofs.Common.{◌≡◌, drop}
use Rattle.cat_image.specs.inside.Reads.{digits_after}
use Rattle.cat_image.proofs.words.digits.Given as goal

abbrev pub invariant-loop-byte : goal.invariant-loop-byte
invariant-loop-byte l = digits_after (drop l.byte-index l.text) l.number ≡ digits_after l.text 0
