use Rattle.std.proofs.Common.{◌≡◌, ◌++◌, drop, string_bytes}
use Rattle.cat_listing.specs.Texts.{lines_of}
use Rattle.cat_listing.specs.DeclarationLines.{item_line}
use Rattle.cat_listing.proofs.decls.push_items.Given as goal

abbrev pub invariant-loop-item : goal.invariant-loop-item
invariant-loop-item l =
    string_bytes l.text ++ lines_of (item_line l.decls) (drop l.item-index l.items)
    ≡ string_bytes l.initial.text ++ lines_of (item_line l.decls) l.items
