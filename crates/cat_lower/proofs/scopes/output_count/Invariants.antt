use Rattle.std.proofs.Common.{◌≡◌, ◌+◌, drop}
use Rattle.cat_lower.specs.Scopes as words
use Rattle.cat_lower.proofs.scopes.output_count.Given as goal

abbrev pub invariant-loop-item : goal.invariant-loop-item
invariant-loop-item l = l.count + words.output_count (drop l.item-index l.items) ≡ words.output_count l.items
