-- Worked examples: the leaves of a tree, what is still to come on the way through it, and cells.
use Rattle.std.proofs.Common.{◌≡◌, ℕ, ℤ, pos, Bool, true, false, List, [], ◌∷◌, Some, refl}
use Rattle.cat_region.specs.declared.cut.Cut.{Cut}
use Rattle.cat_region.specs.declared.cut.Cut.TheVariants as cut
use Rattle.cat_region.specs.declared.cut.Threshold.TheVariants as threshold
use Rattle.cat_region.specs.declared.dim.Dim.TheVariants as dim
use Rattle.cat_region.specs.declared.narrowing.Narrowing.{Narrowing}
use Rattle.cat_region.specs.Regions.{Constraints}
use Rattle.cat_guard.specs.declared.table.Atom.{Atom}
use Rattle.cat_guard.specs.declared.tree.TreeNode.TheVariants as node
use Rattle.cat_guard.specs.Trees.{Tree}
use Rattle.cat_guard.specs.Trees as tree
use Rattle.cat_guard.specs.Verdicts as verdict
use Rattle.cat_search.specs.declared.bad.Flaw.TheVariants as flaw
use Rattle.cat_search.specs.Cells.{cells_from}
use Rattle.cat_search.specs.Parted.{ends}
use Rattle.cat_search.specs.Searched.{leaves_from, flaw_of, is_known, size, rests}
use Rattle.cat_region.specs.Sides.{turns}
use Rattle.cat_search.specs.inside.ToCome.{in_front, leaf_nodes}
use Rattle.cat_search.specs.inside.Underway.{to_come}

-- below 1, below 5 and below 1 once more of term 0, the truth of term 1, and case 2 of term 2
abbrev below : ℤ → Cut
below n = cut.Below (threshold.Whole n)

abbrev atoms : List Atom
atoms =
    record { term = 0; cut = below (pos 1) } ∷ record { term = 0; cut = below (pos 5) }
    ∷ record { term = 0; cut = below (pos 1) } ∷ record { term = 1; cut = cut.IsTrue }
    ∷ record { term = 2; cut = cut.IsCase 2 } ∷ []

abbrev region : List Narrowing → Constraints
region ns = record { dims = dim.Whole ∷ dim.Truth ∷ dim.Cases 3 ∷ []; narrowings = ns; room = 0 }

abbrev answer : ℕ → Cut → Bool → Narrowing
answer i c b = record { dim = i; cut = c; yes = b }

-- a split on atom 0 whose false side splits on atom 3
abbrev some_tree : Tree
some_tree = tree.Split 0 tree.Leaf (tree.Split 3 tree.Rest tree.Leaf)

its_size : size some_tree ≡ 5
its_size = refl

its_rests : rests some_tree ≡ 1
its_rests = refl

-- its leaves are the second and the fifth node
its_leaves : leaves_from atoms 0 (region []) some_tree
    ≡ record { leaf = 1; region = region (answer 0 (below (pos 1)) true ∷ []) }
    ∷ record {
      leaf = 4;
      region = region (answer 0 (below (pos 1)) false ∷ answer 1 cut.IsTrue false ∷ []);
    } ∷ []
its_leaves = refl

its_ends : ends atoms (region []) some_tree
    ≡ region (answer 0 (below (pos 1)) true ∷ [])
    ∷ region (answer 0 (below (pos 1)) false ∷ answer 1 cut.IsTrue true ∷ [])
    ∷ region (answer 0 (below (pos 1)) false ∷ answer 1 cut.IsTrue false ∷ []) ∷ []
its_ends = refl

-- the first nodes, in front of the trees that are still to come
its_beginning : in_front (node.Split 0 ∷ node.Leaf ∷ node.Split 3 ∷ []) (tree.Rest ∷ tree.Leaf ∷ [])
    ≡ Some (some_tree ∷ [])
its_beginning = refl

counted : leaf_nodes (node.Split 0 ∷ node.Leaf ∷ node.Split 3 ∷ node.Rest ∷ node.Leaf ∷ []) ≡ 2
counted = refl

-- on the true side of atom 3, its false side is to come; that of atom 0 is where the way is
its_turns : to_come true (answer 1 cut.IsTrue true ∷ answer 0 (below (pos 1)) false ∷ [])
    ≡ (answer 1 cut.IsTrue true ∷ answer 0 (below (pos 1)) false ∷ [])
    ∷ (answer 1 cut.IsTrue false ∷ answer 0 (below (pos 1)) false ∷ []) ∷ []
its_turns = refl

no_turns : turns (answer 1 cut.IsTrue false ∷ answer 0 (below (pos 1)) false ∷ []) ≡ []
no_turns = refl

two_hold : flaw_of verdict.Conflict ≡ flaw.Conflict
two_hold = refl

none_holds : flaw_of verdict.Empty ≡ flaw.NoValue
none_holds = refl

open_is_unknown : is_known verdict.Open ≡ false
open_is_unknown = refl

-- two distinct cuts, a truth value and three cases
all_cells : cells_from atoms (0 ∷ 1 ∷ 2 ∷ 3 ∷ 4 ∷ []) 0 (dim.Whole ∷ dim.Truth ∷ dim.Cases 3 ∷ []) ≡ 18
all_cells = refl

-- terms that aren't asked part nothing
number_cells : cells_from atoms (1 ∷ 1 ∷ []) 0 (dim.Whole ∷ dim.Truth ∷ dim.Cases 3 ∷ []) ≡ 2
number_cells = refl

no_cells : cells_from atoms [] 0 (dim.Whole ∷ dim.Truth ∷ dim.Cases 3 ∷ []) ≡ 1
no_cells = refl
