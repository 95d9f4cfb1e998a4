use Rattle.std.proofs.Common.{◌≡◌, slice_get}
use Rattle.std.specs.Prelude.{IfSome, true}
use Rattle.cat_guard.specs.Levels.{AreLiveTo}
use Rattle.cat_search.specs.inside.Underway.{IsUnderway}
use Rattle.cat_search.specs.inside.ToCome.{leaf_nodes, rest_nodes}
use Rattle.cat_search.proofs.searched.search_in.Given as goal

-- the leaves so far
abbrev pub invariant-loop : goal.invariant-loop
invariant-loop l = record {
  underway : IfSome (slice_get l.table.targets l.target)
      (λ t. IsUnderway l.table.terms l.table.atoms t true l.searching);
  live : IfSome (slice_get l.table.targets l.target) (λ t. AreLiveTo l.table.atoms t l.searching.region l.levels);
  leaves : leaf_nodes l.searching.nodes ≡ l.counter;
  rests : rest_nodes l.searching.nodes ≡ 0;
}
