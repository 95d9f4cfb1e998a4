use Rattle.std.proofs.Common.{◌≡◌, ◌≤◌, ◌++◌, ℕ, [], IsTrue, drop, take, length, slice_get, string_bytes}
use Rattle.std.specs.Prelude.{IfSome}
use Rattle.cat_search.specs.Searched.{everything}
use Rattle.cat_search.specs.Ways.{ask_below, way_from}
use Rattle.cat_table.specs.inside.Here.{naming_at}
use Rattle.cat_table.specs.inside.Nodes.{nodes_text}
use Rattle.cat_table.specs.inside.Walking.{AreReached, IsOn}
use Rattle.cat_table.proofs.leaves.push_rows.Given as goal

-- what is written and the lines of the nodes that are left are the lines of all nodes, and the walk is on its way
abbrev pub invariant-loop-node : goal.invariant-loop-node
invariant-loop-node l = record {
  text_is : IfSome (slice_get l.here.table.now.targets l.target) (λ t. string_bytes l.text
      ++ nodes_text (naming_at l.here) l.here.table.now t l.way (drop l.node-index l.nodes)
      ≡ string_bytes l.fn.text ++ nodes_text (naming_at l.here) l.here.table.now t [] l.nodes);
  asked : (n : ℕ)
      → IsTrue (ask_below (length l.here.table.now.atoms) (way_from l.way (take n (drop l.node-index l.nodes))));
  reached : AreReached l.here.table.now.atoms (everything l.here.table.now.terms) l.way (drop l.node-index l.nodes);
  few : length l.way ≤ l.node-index;
  on : IsOn l.here.table.now l.target (length l.nodes) l.way l.region l.levels;
}
