use Rattle.std.proofs.Common.{◌≡◌, ◌++◌, drop}
use Rattle.cat_lower.specs.Starts as words
use Rattle.cat_lower.proofs.starts.output_numbers.Given as goal

abbrev pub invariant-loop-number : goal.invariant-loop-number
invariant-loop-number l =
    l.numbers ++ words.output_numbers l.number (drop l.number l.items) ≡ words.output_numbers 0 l.items
