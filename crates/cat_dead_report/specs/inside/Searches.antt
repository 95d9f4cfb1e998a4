-- The tree that a search made.
use Rattle.std.specs.Prelude.{◌≡◌, ◌≤◌, ◌<◌, ℕ, Bool, true, false}
use Rattle.cat_scope.specs.Names.{has_none}
use Rattle.cat_guard.specs.declared.table.Table.{Table}
use Rattle.cat_guard.specs.declared.table.TableTarget.{TableTarget}
use Rattle.cat_guard.specs.declared.tree.CaseTree.{CaseTree}
use Rattle.cat_guard.specs.Trees.{is_whole, leaves}
use Rattle.cat_search.specs.declared.found.Search.{Search}
use Rattle.cat_search.specs.declared.found.Search.TheVariants as search
use Rattle.cat_search.specs.Cells.{cells}
use Rattle.cat_dead_report.specs.Causes.{IsSearchedTree}

-- the tree
abbrev pub tree_in : Search → CaseTree
tree_in (search.Closed tree bad) = tree
tree_in (search.Spent tree bad) = tree

-- nothing of it is left to explore
abbrev pub is_closed : Search → Bool
is_closed (search.Closed tree bad) = true
is_closed (search.Spent tree bad) = false

-- and no leaf is bad
abbrev pub is_covered : Search → Bool
is_covered (search.Closed tree bad) = has_none bad
is_covered (search.Spent tree bad) = false

-- a tree was searched with at most so many leaves, which were spent where it isn't whole
pub record IsSearchedBy (table : Table) (t : TableTarget) (budget : ℕ) (tree : CaseTree) (whole : Bool) : Type 0 where
  pub made : IsSearchedTree table t tree.nodes
  pub few : leaves made.tree ≤ budget
  pub whole_is : whole ≡ is_whole made.tree
  pub spent : whole ≡ false → (leaves made.tree ≡ budget)
  pub more_cells : whole ≡ false → budget < cells table.terms table.atoms t
