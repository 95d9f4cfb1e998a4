use Rattle.std.proofs.Common.{◌≡◌, ◌++◌, drop}
use Rattle.cat_calc.specs.inside.Items.{terms_of_items}
use Rattle.cat_calc.proofs.items.terms_of_items.Given as goal

abbrev pub invariant-loop-number : goal.invariant-loop-number
invariant-loop-number l =
    l.terms ++ terms_of_items l.decls l.defs l.number (drop l.number l.items)
    ≡ terms_of_items l.decls l.defs 0 l.items
