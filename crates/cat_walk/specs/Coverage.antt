-- Which leaf of a tree is the first that isn't covered.
use Rattle.std.specs.Prelude.{◌≡◌, Bool, true, false, not, ◌||◌, if◌then◌else◌}
use Rattle.std.specs.Prelude.{List, [], ◌∷◌, ◌++◌, Option, None, Some, Result, Ok, Err}
use Rattle.std.specs.List.{list_any}
use Rattle.cat_region.specs.Regions.{Constraints}
use Rattle.cat_region.specs.Decided.{admits_none}
use Rattle.cat_guard.specs.declared.table.Atom.{Atom}
use Rattle.cat_guard.specs.declared.table.TableTarget.{TableTarget}
use Rattle.cat_guard.specs.declared.tree.CitedTree.{CitedTree}
use Rattle.cat_guard.specs.Judged.{judged_in, covers}
use Rattle.cat_guard.specs.Trees.{Tree, answering, expanded}
use Rattle.cat_guard.specs.Trees as tree
use Rattle.cat_walk.specs.declared.place.NodePlace.{NodePlace}
use Rattle.cat_walk.specs.declared.refusal.WalkRefusal.{WalkRefusal}
use Rattle.cat_walk.specs.declared.refusal.WalkRefusal.TheVariants as why
use Rattle.cat_walk.specs.LeafPlaces.{leaf_places}

-- the regions of a tree's leaves, in preorder
abbrev pub leaf_regions : List Atom → Constraints → Tree → List Constraints
leaf_regions atoms region tree.Leaf = region ∷ []
leaf_regions atoms region tree.Rest = []
leaf_regions atoms region (tree.Split a left right) =
    leaf_regions atoms (answering atoms region a true) left ++ leaf_regions atoms (answering atoms region a false) right

-- a target is uncovered in a region that admits something and in which it isn't judged covered
abbrev pub is_uncovered : List Atom → TableTarget → Constraints → Bool
is_uncovered atoms t region = not (admits_none region || covers t.may_be_empty (judged_in atoms region t))

-- where the first leaf is written whose region passes a test, of leaves by their places and their regions
abbrev pub first_place : (Constraints → Bool) → List NodePlace → List Constraints → Option NodePlace
first_place test [] regions = None
first_place test (place ∷ places) [] = None
first_place test (place ∷ places) (region ∷ regions) =
    if test region then Some place else first_place test places regions

-- what a walk over leaves answers: yes where no region passes the test, and else the place of the first that does
abbrev pub Answers : (Constraints → Bool) → List NodePlace → List Constraints → Result (Unit {0}) WalkRefusal → Type 0
Answers test places regions (Ok u) = list_any test regions ≡ false
Answers test places regions (Err (why.NotCovered place)) = first_place test places regions ≡ Some place
Answers test places regions (Err why.Memory) = Unit {0}

-- the same of the leaves of a tree, where there is one
abbrev pub AnswersOf : (Constraints → Bool) → List Atom → Constraints → List NodePlace → Option Tree
    → Result (Unit {0}) WalkRefusal → Type 0
AnswersOf test atoms region places None answer = ⊥
AnswersOf test atoms region places (Some tree) answer = Answers test places (leaf_regions atoms region tree) answer

-- what a walk through a tree with citations answers of a target, from a region on
abbrev pub IsWalked : List Atom → TableTarget → Constraints → CitedTree → Result (Unit {0}) WalkRefusal → Type 0
IsWalked atoms t region tree answer =
    AnswersOf (is_uncovered atoms t) atoms region (leaf_places tree) (expanded tree) answer
