-- Why a target has its line.
use Rattle.std.specs.Prelude.{◌≡◌, ◌<◌, ℕ, Bool, true, false, IsTrue, List, [], Option, Some}
use Rattle.cat_value.specs.declared.value.Value.{Value}
use Rattle.cat_value.specs.declared.outcome.Outcome.{Outcome}
use Rattle.cat_value.specs.declared.outcome.Outcome.TheVariants as outcome
use Rattle.cat_value.specs.Inputs.{IsWellTyped}
use Rattle.cat_region.specs.Chosen.{point_at}
use Rattle.cat_region.specs.Regions.{Constraints, Admits}
use Rattle.cat_scope.specs.declared.programs.Program.{Program}
use Rattle.cat_scope.specs.Names.{IsOneOf}
use Rattle.cat_scope.specs.Outcomes.{scope_outcome}
use Rattle.cat_guard.specs.declared.table.Table.{Table}
use Rattle.cat_guard.specs.declared.table.TableTarget.{TableTarget}
use Rattle.cat_guard.specs.declared.tree.TreeNode.{TreeNode}
use Rattle.cat_guard.specs.Judged.{judged_in}
use Rattle.cat_guard.specs.Trees.{Tree, tree_of, is_whole, leaves, AreClosed}
use Rattle.cat_guard.specs.Judgements.{is_bad}
use Rattle.cat_audit_sound.specs.Failing.{IsOfFreeTerms}
use Rattle.cat_search.specs.Cells.{cells}
use Rattle.cat_search.specs.Searched.{everything, IsSearched}
use Rattle.cat_audit.specs.declared.finding.Finding.TheVariants as finding
use Rattle.cat_audit.specs.declared.finding.Line.{Line}
use Rattle.cat_audit.specs.declared.finding.Line.TheVariants as line
use Rattle.cat_audit.specs.Findings.{shown_input, undecided_at}
use Rattle.cat_audit.specs.Lines.{bad_in}

-- an outcome that is a Conflict or a NoValue
abbrev pub is_failure : Outcome → Bool
is_failure (outcome.Conflict target positions) = true
is_failure (outcome.NoValue target pos) = true
is_failure o = false

-- a well-typed input on which the scope comes to an outcome: that of a leaf of the tree whose region admits it and is
-- judged a conflict, or empty where that isn't allowed
pub record IsShown (program : Program) (table : Table) (t : TableTarget) (nodes : List TreeNode)
    (region : Constraints) (input : List (Option Value)) (o : Outcome) : Type 0 where
  pub leaf : IsOneOf region (bad_in table t nodes)
  pub bad : IsTrue (is_bad t.may_be_empty (judged_in table.atoms region t))
  pub admits : Admits region (point_at region)
  pub input_is : input ≡ shown_input program table region
  pub typed : IsWellTyped program.decls table.scope input
  pub comes_to : scope_outcome program table.scope input ≡ Some o

-- some leaf shows it of which this holds too
abbrev pub Shows : Program → Table → TableTarget → List TreeNode → List (Option Value) → Outcome
    → (Constraints → Type 0) → Type 0
Shows program table t nodes input o Also =
    (region : Constraints) × IsShown program table t nodes region input o × Also region

-- the leaves were spent: there are more cells, the tree has just so many leaves and leaves something unexplored, and
-- none of its leaves is bad
pub record IsSpent (table : Table) (t : TableTarget) (budget : ℕ) (nodes : List TreeNode) : Type 0 where
  pub more_cells : budget < cells table.terms table.atoms t
  pub tree : Tree
  pub tree_is : tree_of nodes ≡ Some tree
  pub searched : IsSearched table.atoms t (everything table.terms) tree
  pub rest : is_whole tree ≡ false
  pub leaves_are : leaves tree ≡ budget
  pub good : bad_in table t nodes ≡ []

-- why a target has a line
abbrev pub HasCause : Program → Table → TableTarget → ℕ → List TreeNode → Line → Type 0
HasCause program table t budget nodes line.Covered = AreClosed table.atoms t (everything table.terms) nodes
HasCause program table t budget nodes line.Budget = IsSpent table t budget nodes
HasCause program table t budget nodes (line.Bad (finding.Found o input)) =
    IsTrue (is_failure o) × Shows program table t nodes input o (λ region. Unit {0})
HasCause program table t budget nodes (line.Bad (finding.Masked kind pos input)) =
    (t.function ≡ false)
    × Shows program table t nodes input (outcome.Fault kind pos) (IsOfFreeTerms table.terms)
HasCause program table t budget nodes (line.Bad (finding.Derived at input o)) =
    (is_failure o ≡ false)
    × Shows program table t nodes input o (λ region. undecided_at table.terms t region ≡ Some at)
