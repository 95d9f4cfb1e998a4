use Rattle.std.proofs.Common.{◌≡◌, max, drop}
use Rattle.cat_depend.specs.inside.Chains.{longest_of}
use Rattle.cat_depend.proofs.chains.longest.Given as goal

abbrev pub invariant-loop-number : goal.invariant-loop-number
invariant-loop-number l =
    max l.longest (longest_of l.lengths (drop l.number-index l.numbers)) ≡ longest_of l.lengths l.numbers
