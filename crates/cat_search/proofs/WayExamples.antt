-- The ways through a tree of three leaves and a rest.
use Rattle.std.proofs.Common.{◌≡◌, true, false, List, [], ◌∷◌, take, refl}
use Rattle.cat_guard.specs.declared.tree.TreeNode.{TreeNode}
use Rattle.cat_guard.specs.declared.tree.TreeNode.TheVariants as node
use Rattle.cat_search.specs.Ways.{way_from}

abbrev nodes : List TreeNode
nodes = node.Split 7 ∷ node.Leaf ∷ node.Split 4 ∷ node.Split 5 ∷ node.Leaf ∷ node.Leaf ∷ node.Rest ∷ []

to_the_first_leaf : way_from [] (take 1 nodes) ≡ record { atom = 7; yes = true } ∷ []
to_the_first_leaf = refl

to_the_second_leaf : way_from [] (take 4 nodes)
    ≡ record { atom = 5; yes = true } ∷ record { atom = 4; yes = true } ∷ record { atom = 7; yes = false } ∷ []
to_the_second_leaf = refl

to_the_rest : way_from [] (take 6 nodes)
    ≡ record { atom = 4; yes = false } ∷ record { atom = 7; yes = false } ∷ []
to_the_rest = refl
