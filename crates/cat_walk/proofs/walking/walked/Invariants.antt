use Rattle.std.proofs.Common.{slice_get, length}
use Rattle.std.specs.Prelude.{IfSome}
use Rattle.cat_guard.specs.Levels.{AreLiveTo}
use Rattle.cat_guard.specs.Trees.{expanded}
use Rattle.cat_walk.specs.LeafPlaces.{lists_of, leaf_places}
use Rattle.cat_walk.specs.Coverage.{AnswersOf}
use Rattle.cat_walk.specs.inside.Meetings.{to_come}
use Rattle.cat_walk.specs.inside.Walking.{uncovered_at, IsUnderWay}
use Rattle.cat_walk.proofs.walking.walked.Given as goal

abbrev pub invariant-loop-levels : goal.invariant-loop-levels
invariant-loop-levels l = record {
  walk : IsUnderWay l.table.atoms (uncovered_at l.table.atoms (slice_get l.table.targets l.target)) l.fn.region
      (AnswersOf (uncovered_at l.table.atoms (slice_get l.table.targets l.target)) l.table.atoms l.fn.region
      (leaf_places l.tree) (expanded l.tree)) l.region (to_come (lists_of l.tree) l.places);
  live : IfSome (slice_get l.table.targets l.target) (λ t. AreLiveTo l.table.atoms t l.region l.levels);
}

abbrev pub decreases-loop-levels : goal.decreases-loop-levels
decreases-loop-levels l = length (to_come (lists_of l.tree) l.places)
