use Rattle.std.proofs.Common.{◌≡◌, take}
use Rattle.cat_depend.specs.inside.Wanted.{lists_from}
use Rattle.cat_depend.proofs.items.named_by_items.Given as goal

-- what the definitions passed so far name
abbrev pub invariant-loop-def : goal.invariant-loop-def
invariant-loop-def l = l.lists.items ≡ lists_from l.wanted (take l.def-index l.defs) 0 l.items
