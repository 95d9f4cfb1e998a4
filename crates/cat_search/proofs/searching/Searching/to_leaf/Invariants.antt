use Rattle.std.proofs.Common.{◌≡◌, slice_get}
use Rattle.std.specs.Prelude.{IfSome, true}
use Rattle.cat_guard.specs.Levels.{AreLiveTo}
use Rattle.cat_search.specs.inside.Underway.{IsUnderway}
use Rattle.cat_search.specs.inside.ToCome.{leaf_nodes, rest_nodes}
use Rattle.cat_search.proofs.searching.Searching.to_leaf.Given as goal

-- the splits so far
abbrev pub invariant-loop-live : goal.invariant-loop-live
invariant-loop-live l = record {
  underway : IfSome (slice_get l.table.targets l.target)
      (λ t. IsUnderway l.table.terms l.table.atoms t true l.self);
  live : IfSome (slice_get l.table.targets l.target) (λ t. AreLiveTo l.table.atoms t l.self.region l.levels);
  leaves : leaf_nodes l.self.nodes ≡ leaf_nodes l.fn.self.nodes;
  rests : rest_nodes l.self.nodes ≡ rest_nodes l.fn.self.nodes;
}

-- each split takes room
abbrev pub decreases-loop-live : goal.decreases-loop-live
decreases-loop-live l = l.self.region.room
