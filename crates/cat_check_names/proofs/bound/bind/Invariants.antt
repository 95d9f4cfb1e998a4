use Rattle.std.proofs.Common.{◌≡◌, ◌++◌, map, take}
use Rattle.cat_check_names.proofs.bound.bind.Given as goal

abbrev pub invariant-loop-name : goal.invariant-loop-name
invariant-loop-name l = l.bound ≡ l.fn.bound ++ map (λ w. w.now.text) (take l.name-index l.names)
