use Rattle.std.proofs.Common.{◌≡◌, drop, map}
use Rattle.cat_lower.specs.Pieces as words
use Rattle.cat_lower.proofs.fields.are_counted.Given as goal

abbrev pub invariant-loop-number : goal.invariant-loop-number
invariant-loop-number l =
    words.are_counted l.number (map (λ f. f.field) (drop l.number l.fields))
    ≡ words.are_counted 0 (map (λ f. f.field) l.fields)
