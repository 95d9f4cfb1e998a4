use Rattle.std.proofs.Common.{◌≡◌, ◌<◌, slice_get}
use Rattle.std.specs.Prelude.{IfSome, false}
use Rattle.cat_region.specs.Sides.{true_sides}
use Rattle.cat_search.specs.inside.Underway.{IsUnderway}
use Rattle.cat_search.specs.inside.ToCome.{leaf_nodes, rest_nodes}
use Rattle.cat_search.proofs.searching.Searching.rests.Given as goal

-- the rests so far, of which there is one
abbrev pub invariant-loop-self : goal.invariant-loop-self
invariant-loop-self l = record {
  underway : IfSome (slice_get l.table.targets l.target)
      (λ t. IsUnderway l.table.terms l.table.atoms t false l.self);
  leaves : leaf_nodes l.self.nodes ≡ leaf_nodes l.fn.self.nodes;
  rests : rest_nodes l.fn.self.nodes < rest_nodes l.self.nodes;
}

-- each turn leaves a true side
abbrev pub decreases-loop-self : goal.decreases-loop-self
decreases-loop-self l = true_sides l.self.region.narrowings
