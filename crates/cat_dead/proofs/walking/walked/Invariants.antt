use Rattle.std.proofs.Common.{slice_get, drop}
use Rattle.std.specs.Prelude.{IfSome}
use Rattle.cat_guard.specs.Levels.{AreLiveTo}
use Rattle.cat_dead.specs.inside.Walking.{IsUnderWay}
use Rattle.cat_dead.proofs.StepLemmas.{wanted_of}
use Rattle.cat_dead.proofs.walking.walked.Given as goal

abbrev pub invariant-loop-place : goal.invariant-loop-place
invariant-loop-place l = record {
  walk : IsUnderWay l.table.atoms (slice_get l.table.targets l.target) l.fn.region
      (wanted_of l.table.atoms (slice_get l.table.targets l.target) l.fn.region l.nodes) l.region l.place
      (drop l.place l.nodes) l.leaves;
  live : IfSome (slice_get l.table.targets l.target) (λ t. AreLiveTo l.table.atoms t l.region l.levels);
}
