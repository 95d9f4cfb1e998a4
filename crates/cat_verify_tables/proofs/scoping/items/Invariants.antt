use Rattle.std.proofs.Common.{◌≡◌, ◌≤◌, [], take}
use Rattle.cat_names.specs.Limits.{most_items}
use Rattle.cat_verify_tables.specs.inside.Entries.{AreTold}
use Rattle.cat_verify_tables.specs.inside.NamedWords.{names_in}
use Rattle.cat_verify_tables.specs.inside.ItemWords.{IsItemOf, item_names}
use Rattle.cat_verify_tables.proofs.scoping.items.Given as goal

abbrev pub invariant-loop-at : goal.invariant-loop-at
invariant-loop-at l = record {
  names : names_in l.names ≡ item_names (take l.at l.lines);
  told : AreTold (λ front. IsItemOf l.known (item_names front)) [] (take l.at l.lines) l.items;
  few : l.at ≤ most_items;
}
