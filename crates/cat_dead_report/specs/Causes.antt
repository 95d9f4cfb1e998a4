-- Why a definition has its line in a report.
use Rattle.std.specs.Prelude.{◌≡◌, ◌<◌, ℕ, false, IsTrue, List, [], ◌∷◌, Option, Some}
use Rattle.cat_pos.specs.declared.pos.Pos.{Pos}
use Rattle.cat_value.specs.declared.value.Value.{Value}
use Rattle.cat_value.specs.declared.outcome.Outcome.{Outcome}
use Rattle.cat_value.specs.Inputs.{IsWellTyped}
use Rattle.cat_region.specs.Chosen.{point_at}
use Rattle.cat_region.specs.Regions.{Constraints, Admits}
use Rattle.cat_scope.specs.declared.programs.Program.{Program}
use Rattle.cat_scope.specs.Names.{IsOneOf}
use Rattle.cat_scope.specs.Outcomes.{deciders, scope_outcome}
use Rattle.cat_guard.specs.declared.table.Table.{Table}
use Rattle.cat_guard.specs.declared.table.TableTarget.{TableTarget}
use Rattle.cat_guard.specs.declared.tree.TreeNode.{TreeNode}
use Rattle.cat_guard.specs.Trees.{Tree, tree_of, is_whole, leaves}
use Rattle.cat_cert.specs.Uncovered.{regions_of}
use Rattle.std.specs.List.{list_any}
use Rattle.cat_audit_sound.specs.Failing.{IsOfFreeTerms}
use Rattle.cat_audit.specs.Findings.{undecided_at, shown_input}
use Rattle.cat_search.specs.Cells.{cells}
use Rattle.cat_search.specs.Searched.{everything, IsSearched}
use Rattle.cat_dead_report.specs.declared.line.DeadLine.{DeadLine}
use Rattle.cat_dead_report.specs.declared.line.DeadLine.TheVariants as line
use Rattle.cat_dead.specs.NeverDecides.{NeverDecides}
use Rattle.cat_dead.specs.Winners.{is_same, winner_in, winners_in}

-- ---- runs

-- a definition of a target, by where it stands, is a decider of the run of a scope on an input
abbrev pub Decides : Program → ℕ → List (Option Value) → TableTarget → Pos → Type 0
Decides program scope input t p = IsOneOf (record { target = t.target; by = Some p }) (deciders program scope input)

-- the regions of the leaves of the tree that nodes are
abbrev pub leaves_of : Table → List TreeNode → List Constraints
leaves_of table nodes = regions_of table.atoms (everything table.terms) (tree_of nodes)

-- in the region of a leaf a definition wins, by where it stands; the input of the points of that region is one of it,
-- and on this the scope comes to an outcome without that decider
pub record IsTried (program : Program) (table : Table) (t : TableTarget) (p : Pos) (nodes : List TreeNode)
    (input : List (Option Value)) (o : Outcome) (region : Constraints) : Type 0 where
  pub leaf : IsOneOf region (leaves_of table nodes)
  pub wins : winner_in table.atoms t region ≡ p ∷ []
  pub admits : Admits region (point_at region)
  pub input_is : input ≡ shown_input program table region
  pub typed : IsWellTyped program.decls table.scope input
  pub comes_to : scope_outcome program table.scope input ≡ Some o
  pub no_decider : ¬ Decides program table.scope input t p

-- ---- trees

-- no definition that stands there wins in a leaf of the tree that nodes are
abbrev pub WinsInNone : Table → TableTarget → Pos → List TreeNode → Type 0
WinsInNone table t p nodes = list_any (is_same p) (winners_in table.atoms t (leaves_of table nodes)) ≡ false

-- nodes are a tree that was searched
pub record IsSearchedTree (table : Table) (t : TableTarget) (nodes : List TreeNode) : Type 0 where
  pub tree : Tree
  pub tree_is : tree_of nodes ≡ Some tree
  pub searched : IsSearched table.atoms t (everything table.terms) tree

-- the leaves were spent: there are more cells, and the tree has just so many leaves and leaves something unexplored
pub record IsSpent (table : Table) (t : TableTarget) (budget : ℕ) (nodes : List TreeNode) : Type 0 where
  pub more_cells : budget < cells table.terms table.atoms t
  pub made : IsSearchedTree table t nodes
  pub rest : is_whole made.tree ≡ false
  pub leaves_are : leaves made.tree ≡ budget

-- nothing is left to explore
pub record IsWholeTree (table : Table) (t : TableTarget) (nodes : List TreeNode) : Type 0 where
  pub made : IsSearchedTree table t nodes
  pub whole : IsTrue (is_whole made.tree)

-- ---- lines

-- why a definition of a target, by where it stands, has a line: it decides on that input; where it wins in a leaf that
-- constrains free terms alone, it doesn't, and the target is no function; it doesn't where a leaf constrains derived
-- terms, or where it is a definition of a function; the leaves were spent, and it wins in none of them; or it wins in
-- no leaf of a whole tree, and so decides in no run
abbrev pub HasDeadLine : Program → Table → TableTarget → ℕ → List TreeNode → Pos → DeadLine → Type 0
HasDeadLine program table t budget nodes p (line.Decides input) =
    IsWellTyped program.decls table.scope input × Decides program table.scope input t p
HasDeadLine program table t budget nodes p (line.Masked input o) =
    (t.function ≡ false)
    × ((region : Constraints) × IsTried program table t p nodes input o region × IsOfFreeTerms table.terms region)
HasDeadLine program table t budget nodes p (line.Derived at input o) =
    (region : Constraints) × IsTried program table t p nodes input o region
    × (undecided_at table.terms t region ≡ Some at)
HasDeadLine program table t budget nodes p line.Budget = IsSpent table t budget nodes × WinsInNone table t p nodes
HasDeadLine program table t budget nodes p line.Never =
    IsWholeTree table t nodes × WinsInNone table t p nodes × NeverDecides program table t p
