use Rattle.std.proofs.Common.{◌≡◌, drop}
use Rattle.cat_verify.specs.inside.Marks.{marked}
use Rattle.cat_verify.proofs.numbers.mark_all.Given as goal

abbrev pub invariant-loop-place : goal.invariant-loop-place
invariant-loop-place l = marked l.marks (drop l.place-index l.places) ≡ marked l.fn.marks l.places
