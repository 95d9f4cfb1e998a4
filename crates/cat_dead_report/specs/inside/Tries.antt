-- What a run more says of a place.
use Rattle.std.specs.Prelude.{◌≡◌, ◌≤◌, ◌⊎◌, Bool, true, if◌then◌else◌, List, map, set, slice_get, Option, None, Some}
use Rattle.cat_pos.specs.declared.pos.Pos.{Pos}
use Rattle.cat_region.specs.Regions.{Constraints}
use Rattle.cat_scope.specs.declared.programs.Program.{Program}
use Rattle.cat_guard.specs.declared.table.Table.{Table}
use Rattle.cat_guard.specs.declared.table.TableTarget.{TableTarget}
use Rattle.cat_dead_report.specs.declared.found.Known.{Known}
use Rattle.cat_dead_report.specs.declared.found.Won.{Won}
use Rattle.cat_dead_report.specs.declared.line.DeadLine.{DeadLine}
use Rattle.cat_dead_report.specs.declared.line.DeadLine.TheVariants as line
use Rattle.cat_dead_report.specs.RunLines.{line_in, weight_of}
use Rattle.cat_dead_report.specs.inside.Knowing.{default_weight}

-- the input of a region was tried: what is known is what was known or what that run says, something is, and no less
-- than either or than what the run on the default input says, if there was one
pub record HasTried (program : Program) (table : Table) (t : TableTarget) (p : Pos) (region : Constraints)
    (old new : Known) : Type 0 where
  pub line : (new.line ≡ old.line) ⊎ (new.line ≡ line_in program table t p region)
  pub some : 1 ≤ weight_of new.line
  pub grown : weight_of old.line ≤ weight_of new.line
  pub covers : weight_of (line_in program table t p region) ≤ weight_of new.line
  pub default : new.on_default ≡ true → default_weight program table t p ≤ weight_of new.line

-- it was tried for a place
pub record HasTriedAt (program : Program) (table : Table) (t : TableTarget) (won : Won) (region : Constraints)
    (olds news : List Known) : Type 0 where
  pub old : Known
  pub old_is : slice_get olds won.place ≡ Some old
  pub new : Known
  pub tried : HasTried program table t won.pos region old new
  pub news_are : news ≡ set olds won.place new

-- the line of a place at last: what is known, or that its definitions never decide, where nothing is left to explore,
-- or that the leaves were spent
abbrev pub last_line : Bool → Option DeadLine → DeadLine
last_line whole (Some l) = l
last_line whole None = if whole then line.Never else line.Budget

-- the lines of all places
abbrev pub last_lines : Bool → List Known → List DeadLine
last_lines whole known = map (λ k. last_line whole k.line) known
