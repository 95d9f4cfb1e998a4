use Rattle.std.proofs.Common.{◌≡◌, drop}
use Rattle.cat_cert.specs.inside.LineForms.{digits_after}
use Rattle.cat_cert.proofs.line.digits.Given as goal

abbrev pub invariant-loop-byte : goal.invariant-loop-byte
invariant-loop-byte l = digits_after (drop l.byte-index l.text) l.number ≡ digits_after l.text 0
