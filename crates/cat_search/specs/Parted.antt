-- The regions of a tree's leaves and rests.
use Rattle.std.specs.Prelude.{◌⊎◌, true, false, List, [], ◌∷◌, ◌++◌}
use Rattle.cat_region.specs.Regions.{Constraints, Valuation, Admits}
use Rattle.cat_scope.specs.Names.{AllHave}
use Rattle.cat_guard.specs.declared.table.Atom.{Atom}
use Rattle.cat_guard.specs.Trees.{Tree, answering}
use Rattle.cat_guard.specs.Trees as tree

-- the regions of the leaves and rests of a tree, in preorder
abbrev pub ends : List Atom → Constraints → Tree → List Constraints
ends atoms region tree.Leaf = region ∷ []
ends atoms region tree.Rest = region ∷ []
ends atoms region (tree.Split a left right) =
    ends atoms (answering atoms region a true) left ++ ends atoms (answering atoms region a false) right

-- a valuation is admitted by exactly one of some regions
abbrev pub IsInOne : Valuation → List Constraints → Type 0
IsInOne v [] = ⊥
IsInOne v (r ∷ rs) = (Admits r v × AllHave (λ s. ¬ Admits s v) rs) ⊎ ((¬ Admits r v) × IsInOne v rs)
