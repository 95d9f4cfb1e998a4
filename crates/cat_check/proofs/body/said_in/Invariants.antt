use Rattle.std.proofs.Common.{◌≡◌}
use Rattle.std.specs.Vec.Iter.{into_iter_items}
use Rattle.cat_names.specs.Lines.{all_lines, item_lines}
use Rattle.cat_check_forms.specs.Tabled.{names_at}
use Rattle.cat_check_exprs.specs.Saying.{behind, nothing_said}
use Rattle.cat_check.proofs.body.said_in.Given as goal

-- what is said so far, and behind it what those say that are left
abbrev pub invariant-loop-item : goal.invariant-loop-item
invariant-loop-item l =
    behind l.said (all_lines (item_lines (names_at l.here) l.here.scope) (into_iter_items l.item-iterator))
    ≡ behind nothing_said (all_lines (item_lines (names_at l.here) l.here.scope) l.fn.items)
