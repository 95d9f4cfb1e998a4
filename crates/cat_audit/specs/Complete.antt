-- What a complete report says.
use Rattle.std.specs.Prelude.{◌≡◌, ◌≤◌, ℕ, IsTrue, List, [], ◌∷◌, ◌++◌, map, Some}
use Rattle.cat_value.specs.Inputs.{IsWellTyped}
use Rattle.cat_scope.specs.declared.programs.Program.{Program}
use Rattle.cat_scope.specs.Calls.{Items}
use Rattle.cat_scope.specs.Outcomes.{scope_outcome}
use Rattle.cat_guard.specs.declared.table.Table.{Table}
use Rattle.cat_guard.specs.declared.table.TableTarget.{TableTarget}
use Rattle.cat_guard.specs.declared.tree.CaseTree.{CaseTree}
use Rattle.cat_guard.specs.declared.tree.TreeNode.{TreeNode}
use Rattle.cat_guard.specs.Trees.{Tree, tree_of, is_whole, leaves, Closed}
use Rattle.cat_search.specs.Searched.{everything, IsSearched}
use Rattle.cat_audit_sound.specs.Audited.{IsValueOrFault}
use Rattle.cat_audit.specs.declared.report.Verdict.TheVariants as verdict
use Rattle.cat_audit.specs.declared.report.Section.{Section}
use Rattle.cat_audit_sound.specs.Audited.{HasNoGap}

-- the scope of a section that is complete
abbrev pub HasNoGapWhereComplete : Program → Section → Type 0
HasNoGapWhereComplete program section = section.verdict ≡ verdict.Complete → HasNoGap program section.scope

-- a whole tree of a target, of at most so many leaves, whose splits are searched ones; each valuation is covered by it
pub record IsClosedTree (table : Table) (t : TableTarget) (budget : ℕ) (nodes : List TreeNode) : Type 0 where
  pub tree : Tree
  pub tree_is : tree_of nodes ≡ Some tree
  pub whole : IsTrue (is_whole tree)
  pub leaves_are : leaves tree ≤ budget
  pub searched : IsSearched table.atoms t (everything table.terms) tree
  pub closed : Closed table.atoms t (everything table.terms) tree

-- each target of tables, with its table
abbrev pub targets_in : List Table → List (Table × TableTarget)
targets_in [] = []
targets_in (table ∷ tables) = map (λ t. (table, t)) table.targets ++ targets_in tables

-- one closed tree for each
abbrev pub AreClosedTrees : ℕ → List (Table × TableTarget) → List CaseTree → Type 0
AreClosedTrees budget [] [] = Unit {0}
AreClosedTrees budget [] (c ∷ trees) = ⊥
AreClosedTrees budget (t ∷ targets) [] = ⊥
AreClosedTrees budget (t ∷ targets) (c ∷ trees) =
    IsClosedTree t.0 t.1 budget c.nodes × AreClosedTrees budget targets trees
