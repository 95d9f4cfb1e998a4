-- How many leaves trees have.
use Rattle.std.specs.Prelude.{ℕ, ◌+◌, List, [], ◌∷◌}
use Rattle.cat_guard.specs.declared.tree.CaseTree.{CaseTree}
use Rattle.cat_table.specs.Leaves.{leaves_among}

-- the leaves of trees
abbrev pub leaf_count : List CaseTree → ℕ
leaf_count [] = 0
leaf_count (tree ∷ trees) = leaves_among tree.nodes + leaf_count trees
