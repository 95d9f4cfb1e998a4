use Rattle.std.proofs.Common.{◌≡◌, take, map}
use Rattle.cat_audit_table.specs.inside.Placed.{place_in}
use Rattle.cat_audit_table.proofs.groups.places_in.Given as goal

abbrev pub invariant-loop-number : goal.invariant-loop-number
invariant-loop-number l = l.places ≡ map (λ n. place_in n l.numbers) (take l.number-index l.of)
