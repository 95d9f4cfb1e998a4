-- Leaves in which definitions win, and what is known of these.
use Rattle.std.specs.Prelude.{◌≡◌, ◌≤◌, ◌<◌, ℕ, suc, Bool, false, List, [], ◌∷◌, length, take, Option, None, Some}
use Rattle.std.specs.Prelude.{slice_get}
use Rattle.cat_region.specs.Regions.{Constraints, IsRegion, IsInhabited}
use Rattle.cat_scope.specs.declared.programs.Program.{Program}
use Rattle.cat_scope.specs.Names.{IsOneOf}
use Rattle.cat_guard.specs.declared.guard.GuardDef.{GuardDef}
use Rattle.cat_guard.specs.declared.table.Table.{Table}
use Rattle.cat_guard.specs.declared.table.TableTarget.{TableTarget}
use Rattle.cat_guard.specs.declared.tree.TreeNode.{TreeNode}
use Rattle.cat_guard.specs.Valuations.{dims_of}
use Rattle.cat_search.specs.declared.way.Answer.{Answer}
use Rattle.cat_search.specs.Searched.{everything}
use Rattle.cat_search.specs.Ways.{led_to, way_from}
use Rattle.cat_dead_report.specs.declared.found.Known.{Known}
use Rattle.cat_dead_report.specs.declared.found.Won.{Won}
use Rattle.cat_dead.specs.declared.judged.JudgedLeaf.{JudgedLeaf}
use Rattle.cat_dead.specs.declared.judged.LeafJudgement.{LeafJudgement}
use Rattle.cat_dead.specs.declared.judged.LeafJudgement.TheVariants as leaf
use Rattle.cat_dead_report.specs.Causes.{leaves_of}
use Rattle.cat_dead_report.specs.RunLines.{line_in, weight_of}
use Rattle.cat_dead_report.specs.inside.Hanging.{hang_somewhere}
use Rattle.cat_dead_report.specs.inside.Knowing.{known_weight}
use Rattle.cat_dead.specs.Leaves.{judged_at}

-- a definition by its place and its position, where it has both
abbrev pub won_of : Option ℕ → Option GuardDef → Option Won
won_of None o = None
won_of (Some n) None = None
won_of (Some n) (Some d) = Some (record { place = n; pos = d.pos })

-- the definition that wins, where one does
abbrev pub won_by : List ℕ → List GuardDef → LeafJudgement → Option Won
won_by numbers defs leaf.Nothing = None
won_by numbers defs (leaf.Wins d) = won_of (slice_get numbers d) (slice_get defs d)
won_by numbers defs leaf.NoWinner = None
won_by numbers defs leaf.Open = None

-- the way to the node of a leaf
abbrev pub way_of : List TreeNode → JudgedLeaf → List Answer
way_of nodes l = way_from [] (take l.node nodes)

-- the region to which answers lead
abbrev pub led : Table → List Answer → Constraints
led table way = led_to table.atoms (everything table.terms) way

-- a judged leaf stands among the nodes, and is judged in its region, which admits something
pub record IsJudgedLeaf (table : Table) (t : TableTarget) (nodes : List TreeNode) (l : JudgedLeaf) : Type 0 where
  pub within : l.node < length nodes
  pub leaf : IsOneOf (led table (way_of nodes l)) (leaves_of table nodes)
  pub judged : l.judged ≡ judged_at table.atoms t (led table (way_of nodes l))
  pub region_is : IsRegion (led table (way_of nodes l))
  pub dims : (led table (way_of nodes l)).dims ≡ dims_of table.terms
  pub inhabited : IsInhabited (led table (way_of nodes l))

-- so it is with each of some leaves, which stand one behind the other from that place on
abbrev pub AreJudgedLeaves : Table → TableTarget → List TreeNode → ℕ → List JudgedLeaf → Type 0
AreJudgedLeaves table t nodes from [] = Unit {0}
AreJudgedLeaves table t nodes from (l ∷ ls) =
    (from ≤ l.node) × IsJudgedLeaf table t nodes l × AreJudgedLeaves table t nodes (suc l.node) ls

-- something is known of a definition, and no less than what the run on the input of a leaf says of it. Of a definition
-- of a function no run says more than another
pub record Covers (program : Program) (table : Table) (t : TableTarget) (nodes : List TreeNode) (known : List Known)
    (l : JudgedLeaf) (w : Won) : Type 0 where
  pub some : 1 ≤ known_weight (slice_get known w.place)
  pub most : t.function ≡ false → weight_of (line_in program table t w.pos (led table (way_of nodes l)))
      ≤ known_weight (slice_get known w.place)

-- so it is with the definition that wins at a leaf, where one does
abbrev pub IsTold : Program → Table → TableTarget → List TreeNode → List ℕ → List Known → JudgedLeaf → Type 0
IsTold program table t nodes numbers known l =
    (w : Won) → won_by numbers t.defs l.judged ≡ Some w → Covers program table t nodes known l w

-- the leaves of one of the two passes: those that hang on what a run computes, or those that don't
abbrev pub IsToldIf : Program → Table → TableTarget → List TreeNode → Bool → List ℕ → List Known → JudgedLeaf → Type 0
IsToldIf program table t nodes derived numbers known l =
    hang_somewhere table (way_of nodes l) ≡ derived → IsTold program table t nodes numbers known l
