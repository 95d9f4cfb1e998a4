use Rattle.std.proofs.Common.{◌≡◌, ◌++◌, drop}
use Rattle.cat_audit.specs.Called.{item_lines}
use Rattle.cat_audit.specs.inside.Underway.{verdict_at}
use Rattle.cat_audit.proofs.called.add_items.Given as goal

abbrev pub invariant-loop-item : goal.invariant-loop-item
invariant-loop-item l = l.lines ++ item_lines (verdict_at l.verdicts) (drop l.item-index l.items)
    ≡ l.fn.lines ++ item_lines (verdict_at l.verdicts) l.items
