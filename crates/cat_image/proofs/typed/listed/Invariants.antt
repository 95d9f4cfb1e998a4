use Rattle.std.proofs.Common.{◌≡◌}
use Rattle.std.specs.Prelude.{string_bytes}
use Rattle.cat_image.proofs.ListedLemmas.{fronts}
use Rattle.cat_image.proofs.typed.listed.Given as goal

abbrev pub invariant-loop : goal.invariant-loop
invariant-loop l = string_bytes l.text ≡ fronts l.counter
