-- Worked examples: the leaves of a tree with citations, by where they are written and by their regions.
use Rattle.std.proofs.Common.{◌≡◌, ℕ, true, false, List, [], ◌∷◌, Some, None, nat_lt, refl, ap}
use Rattle.cat_region.specs.declared.narrowing.Narrowing.{Narrowing}
use Rattle.cat_region.specs.declared.cut.Cut.TheVariants as cut
use Rattle.cat_region.specs.declared.dim.Dim.TheVariants as dim
use Rattle.cat_region.specs.Regions.{Constraints}
use Rattle.cat_guard.specs.declared.table.Atom.{Atom}
use Rattle.cat_guard.specs.declared.tree.CitedNode.TheVariants as cited
use Rattle.cat_guard.specs.declared.tree.CitedTree.{CitedTree}
use Rattle.cat_guard.specs.Trees.{expanded}
use Rattle.cat_guard.specs.Trees as tree
use Rattle.cat_walk.specs.declared.place.NodePlace.{NodePlace}
use Rattle.cat_walk.specs.LeafPlaces.{leaf_places}
use Rattle.cat_walk.specs.Coverage.{leaf_regions, first_place}
use Rattle.cat_walk.specs.Sizes.{past_most, is_small}

-- name 0 splits on atom 1, and the tree on atom 0, with name 0 on its true side and a leaf on its false side
abbrev cited_once : CitedTree
cited_once = record {
  names = (cited.Split 1 ∷ cited.Leaf ∷ cited.Leaf ∷ []) ∷ [];
  main = cited.Split 0 ∷ cited.Cite 0 ∷ cited.Leaf ∷ [];
}

whole_tree : expanded cited_once ≡ Some (tree.Split 0 (tree.Split 1 tree.Leaf tree.Leaf) tree.Leaf)
whole_tree = refl

abbrev at : ℕ → ℕ → NodePlace
at list node = record { list = list; node = node }

-- the first two leaves are written in list 0, which is name 0, and the last one in list 1, which is the tree
first_leaves : leaf_places cited_once ≡ at 0 1 ∷ at 0 2 ∷ at 1 2 ∷ []
first_leaves = refl

-- name 1 cites name 0 twice, and the tree cites name 1 alone: each leaf of name 0 is met twice
abbrev cited_twice : CitedTree
cited_twice = record {
  names = (cited.Split 1 ∷ cited.Leaf ∷ cited.Leaf ∷ []) ∷ (cited.Split 0 ∷ cited.Cite 0 ∷ cited.Cite 0 ∷ []) ∷ [];
  main = cited.Cite 1 ∷ [];
}

leaves_twice : leaf_places cited_twice ≡ at 0 1 ∷ at 0 2 ∷ at 0 1 ∷ at 0 2 ∷ []
leaves_twice = refl

-- the regions of the leaves, over two terms that are true or false
abbrev terms : Constraints
terms = record { dims = dim.Truth ∷ dim.Truth ∷ []; narrowings = []; room = 2 }

abbrev atoms : List Atom
atoms = record { term = 0; cut = cut.IsTrue } ∷ record { term = 1; cut = cut.IsTrue } ∷ []

abbrev with : List Narrowing → Constraints
with ns = record { dims = dim.Truth ∷ dim.Truth ∷ []; narrowings = ns; room = 2 }

abbrev first_true : Narrowing
first_true = record { dim = 0; cut = cut.IsTrue; yes = true }

abbrev first_false : Narrowing
first_false = record { dim = 0; cut = cut.IsTrue; yes = false }

abbrev second_true : Narrowing
second_true = record { dim = 1; cut = cut.IsTrue; yes = true }

abbrev second_false : Narrowing
second_false = record { dim = 1; cut = cut.IsTrue; yes = false }

regions : leaf_regions atoms terms (tree.Split 0 (tree.Split 1 tree.Leaf tree.Leaf) tree.Leaf)
    ≡ with (first_true ∷ second_true ∷ []) ∷ with (first_true ∷ second_false ∷ []) ∷ with (first_false ∷ []) ∷ []
regions = refl

-- of leaves that pass a test the first one is named, also where the same leaf is met again
first_of_two : first_place (λ r. true) (at 0 1 ∷ at 0 2 ∷ []) (with [] ∷ with [] ∷ []) ≡ Some (at 0 1)
first_of_two = refl

none_passes : first_place (λ r. false) (at 0 1 ∷ at 0 2 ∷ []) (with [] ∷ with [] ∷ []) ≡ None
none_passes = refl

-- a tree of as many leaves as one may have, and one of one more
as_many_leaves_as_may_be : (t : tree.Tree) → tree.leaves t ≡ 16777216 → is_small (Some t) ≡ true
as_many_leaves_as_may_be t is = ap (λ (n : ℕ). nat_lt n past_most) is

one_leaf_too_many : (t : tree.Tree) → tree.leaves t ≡ 16777217 → is_small (Some t) ≡ false
one_leaf_too_many t is = ap (λ (n : ℕ). nat_lt n past_most) is
