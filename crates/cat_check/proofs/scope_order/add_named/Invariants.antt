use Rattle.std.proofs.Common.{◌≡◌, ◌++◌, take}
use Rattle.std.specs.Prelude.{flat_map}
use Rattle.cat_check.specs.inside.Calling.{of_word}
use Rattle.cat_check.proofs.scope_order.add_named.Given as goal

abbrev pub invariant-loop-word : goal.invariant-loop-word
invariant-loop-word l =
    l.positions ≡ l.fn.positions ++ flat_map (of_word l.table l.called) (take l.word-index l.words)
