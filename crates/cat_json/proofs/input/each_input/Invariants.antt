use Rattle.std.proofs.Common.{◌≡◌, ◌≤◌, ◌++◌}
use Rattle.std.specs.Vec.Iter.{into_iter_items}
use Rattle.serde_json.specs.Data.{items_depth}
use Rattle.serde_json.specs.View.{items_view}
use Rattle.cat_json.specs.InputsRead.{each_input}
use Rattle.cat_json.proofs.input.each_input.Given as goal

abbrev pub invariant-loop-element : goal.invariant-loop-element
invariant-loop-element l = record {
  nests : items_depth (items_view (into_iter_items l.element-iterator)) ≤ 127;
  made : l.inputs ++ each_input l.decls l.items (items_view (into_iter_items l.element-iterator)) ≡ each_input l.decls
      l.items (items_view (into_iter_items l.initial.element-iterator));
}
