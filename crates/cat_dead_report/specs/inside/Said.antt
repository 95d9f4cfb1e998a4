-- The lines that runs on the inputs of leaves give.
use Rattle.std.specs.Prelude.{◌≡◌, List, [], ◌∷◌, Some}
use Rattle.cat_pos.specs.declared.pos.Pos.{Pos}
use Rattle.cat_region.specs.Regions.{Constraints, IsRegion, IsInhabited}
use Rattle.cat_scope.specs.declared.programs.Program.{Program}
use Rattle.cat_scope.specs.Names.{IsOneOf}
use Rattle.cat_guard.specs.declared.table.Table.{Table}
use Rattle.cat_guard.specs.declared.table.TableTarget.{TableTarget}
use Rattle.cat_guard.specs.declared.tree.TreeNode.{TreeNode}
use Rattle.cat_guard.specs.Valuations.{dims_of}
use Rattle.cat_dead_report.specs.declared.line.DeadLine.{DeadLine}
use Rattle.cat_dead_report.specs.Causes.{leaves_of}
use Rattle.cat_dead_report.specs.RunLines.{line_in}
use Rattle.cat_dead.specs.Winners.{winner_in}

-- a definition that stands there wins in a region
pub record IsWonIn (table : Table) (t : TableTarget) (p : Pos) (region : Constraints) : Type 0 where
  pub wins : winner_in table.atoms t region ≡ p ∷ []
  pub region_is : IsRegion region
  pub dims : region.dims ≡ dims_of table.terms
  pub inhabited : IsInhabited region

-- a definition that stands there wins in the region of a leaf
pub record IsWon (table : Table) (t : TableTarget) (nodes : List TreeNode) (p : Pos) (region : Constraints) : Type 0
  where
    pub leaf : IsOneOf region (leaves_of table nodes)
    pub wins : winner_in table.atoms t region ≡ p ∷ []
    pub region_is : IsRegion region
    pub dims : region.dims ≡ dims_of table.terms
    pub inhabited : IsInhabited region

-- a line is what the run on the input of such a leaf says
pub record IsLineOf (program : Program) (table : Table) (t : TableTarget) (nodes : List TreeNode) (p : Pos)
    (l : DeadLine) : Type 0 where
  pub region : Constraints
  pub won : IsWon table t nodes p region
  pub says : line_in program table t p region ≡ Some l
