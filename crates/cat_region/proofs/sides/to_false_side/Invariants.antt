use Rattle.std.proofs.Common.{◌≡◌, List, length}
use Rattle.cat_region.specs.declared.narrowing.Narrowing.{Narrowing}
use Rattle.cat_region.specs.Regions.{Constraints}
use Rattle.cat_region.specs.Sides.{IsAt, true_sides}
use Rattle.cat_region.proofs.SideLemmas.{IsBack}
use Rattle.cat_region.proofs.sides.to_false_side.Given as goal

abbrev pub invariant-loop-dim : goal.invariant-loop-dim
invariant-loop-dim l = record {
  back : (base : Constraints) (path : List Narrowing) → base.room ≡ l.room → IsAt base path l.fn.region
      → IsBack base path l.region;
  dims : l.region.dims ≡ l.fn.region.dims;
  sides : true_sides l.region.narrowings ≡ true_sides l.fn.region.narrowings;
}

abbrev pub decreases-loop-dim : goal.decreases-loop-dim
decreases-loop-dim l = length l.region.narrowings
