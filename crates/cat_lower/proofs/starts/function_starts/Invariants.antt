use Rattle.std.proofs.Common.{◌≡◌, ◌++◌, drop}
use Rattle.cat_lower.specs.Starts as words
use Rattle.cat_lower.proofs.starts.function_starts.Given as goal

abbrev pub invariant-loop-item : goal.invariant-loop-item
invariant-loop-item l =
    l.starts ++ words.function_starts l.total (drop l.item-index l.items) ≡ words.function_starts 0 l.items
