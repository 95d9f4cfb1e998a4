use Rattle.std.proofs.Common.{◌≡◌, [], drop}
use Rattle.cat_lower.specs.Definitions as words
use Rattle.cat_lower.proofs.definitions.definitions_of.Given as goal

abbrev pub invariant-loop-item : goal.invariant-loop-item
invariant-loop-item l = words.definitions_of (drop l.item-index l.terms) l.positions ≡ words.definitions_of l.terms []
