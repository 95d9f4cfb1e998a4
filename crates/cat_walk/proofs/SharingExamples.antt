-- Worked examples: which parts get names, and how a tree is written.
use Rattle.std.proofs.Common.{◌≡◌, [], ◌∷◌, refl}
use Rattle.cat_guard.specs.declared.tree.CitedNode.TheVariants as cited
use Rattle.cat_guard.specs.Trees.{Tree}
use Rattle.cat_guard.specs.Trees as tree
use Rattle.cat_walk.specs.Sharing.{shared}

abbrev leaf_pair : Tree
leaf_pair = tree.Split 1 tree.Leaf tree.Leaf

-- a tree whose sides are equal
twice : shared (tree.Split 0 leaf_pair leaf_pair) ≡ record {
  names = (cited.Split 1 ∷ cited.Leaf ∷ cited.Leaf ∷ []) ∷ [];
  main = cited.Split 0 ∷ cited.Cite 0 ∷ cited.Cite 0 ∷ [];
}
twice = refl

abbrev over_pair : Tree
over_pair = tree.Split 2 leaf_pair tree.Leaf

-- a named tree cites one that is named before it
nested : shared (tree.Split 0 over_pair over_pair) ≡ record {
  names = (cited.Split 1 ∷ cited.Leaf ∷ cited.Leaf ∷ []) ∷ (cited.Split 2 ∷ cited.Cite 0 ∷ cited.Leaf ∷ []) ∷ [];
  main = cited.Split 0 ∷ cited.Cite 1 ∷ cited.Cite 1 ∷ [];
}
nested = refl

-- leaves get no name
alone : shared leaf_pair ≡ record { names = []; main = cited.Split 1 ∷ cited.Leaf ∷ cited.Leaf ∷ [] }
alone = refl
