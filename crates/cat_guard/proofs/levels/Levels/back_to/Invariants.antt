use Rattle.std.proofs.Common.{List, length}
use Rattle.cat_region.specs.Regions.{Constraints}
use Rattle.cat_guard.specs.declared.table.Atom.{Atom}
use Rattle.cat_guard.specs.declared.table.TableTarget.{TableTarget}
use Rattle.cat_guard.specs.Levels.{AreLiveTo}
use Rattle.cat_guard.proofs.levels.Levels.back_to.Given as goal

-- what was live on the way still is
abbrev pub invariant-loop-self : goal.invariant-loop-self
invariant-loop-self l = (atoms : List Atom) (t : TableTarget) (region : Constraints)
    → AreLiveTo atoms t region l.fn.self → AreLiveTo atoms t region l.self

abbrev pub decreases-loop-self : goal.decreases-loop-self
decreases-loop-self l = length l.self.levels
