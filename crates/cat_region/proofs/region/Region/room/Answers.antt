use Rattle.std.proofs.Common.{subst}
use Rattle.cat_region.specs.Regions.{IsRegion}
use Rattle.cat_region.proofs.region.Region.room.Goals as goal

pub returns-clause-sound : goal.returns-clause-sound
returns-clause-sound c = subst (λ r. IsRegion r) c.self.view_is c.self.invariant.sound
