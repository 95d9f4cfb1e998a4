use Rattle.std.proofs.Common.{◌≡◌, List, length}
use Rattle.cat_region.specs.declared.narrowing.Narrowing.{Narrowing}
use Rattle.cat_region.specs.Regions.{Constraints}
use Rattle.cat_region.specs.Sides.{IsAt}
use Rattle.cat_region.proofs.SideLemmas.{IsOnWay}
use Rattle.cat_region.proofs.sides.undo_all.Given as goal

abbrev pub invariant-loop : goal.invariant-loop
invariant-loop l =
    (base : Constraints) (path : List Narrowing) → base.room ≡ l.room → IsAt base path l.fn.region
    → IsOnWay base l.region

abbrev pub decreases-loop : goal.decreases-loop
decreases-loop l = length l.region.narrowings
