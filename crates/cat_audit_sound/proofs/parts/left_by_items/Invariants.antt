use Rattle.std.proofs.Common.{◌≡◌, ◌-◌, drop}
use Rattle.cat_audit_sound.specs.Parts.{parts_given}
use Rattle.cat_audit_sound.proofs.parts.left_by_items.Given as goal

abbrev pub invariant-loop-item : goal.invariant-loop-item
invariant-loop-item l =
    l.left - parts_given l.decls (drop l.item-index l.items) ≡ l.fn.left - parts_given l.decls l.items
