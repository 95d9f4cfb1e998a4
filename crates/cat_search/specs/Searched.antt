-- Which trees a search makes of a target, and which of their leaves aren't covered.
use Rattle.std.specs.Prelude.{nat_lt, ◌≡◌, ℕ, ◌+◌, ◌≤◌, Bool, true, false, IsTrue, if◌then◌else◌, List, [], ◌∷◌, ◌++◌}
use Rattle.std.specs.Prelude.{Some, None, length}
use Rattle.cat_region.specs.declared.dim.Dim.{Dim}
use Rattle.cat_region.specs.declared.dim.Dim.TheVariants as dim
use Rattle.cat_region.specs.Regions.{Constraints, IsInhabited}
use Rattle.cat_scope.specs.Names.{IsOneOf}
use Rattle.cat_guard.specs.declared.table.Term.{Term}
use Rattle.cat_guard.specs.declared.table.Atom.{Atom}
use Rattle.cat_guard.specs.declared.table.TableTarget.{TableTarget}
use Rattle.cat_guard.specs.declared.tree.TreeNode.{TreeNode}
use Rattle.cat_guard.specs.Judged.{answers_in, judged_in, covers}
use Rattle.cat_guard.specs.Trees.{Tree, tree_of, answering, is_whole, leaves, AreClosed}
use Rattle.cat_guard.specs.Trees as tree
use Rattle.cat_guard.specs.Valuations.{dims_of}
use Rattle.cat_guard.specs.Verdicts.{Verdict, Conflict, Open}
use Rattle.cat_guard.specs.Judgements.{atoms_in}
use Rattle.cat_search.specs.declared.bad.BadLeaf.{BadLeaf}
use Rattle.cat_search.specs.declared.bad.Flaw.{Flaw}
use Rattle.cat_search.specs.declared.bad.Flaw.TheVariants as flaw
use Rattle.cat_search.specs.declared.found.Search.{Search}
use Rattle.cat_search.specs.declared.found.Search.TheVariants as search

-- the region that admits every valuation of some terms
abbrev pub everything : List Term → Constraints
everything terms = record { dims = dims_of terms; narrowings = []; room = 0 }

-- the same, with room for an answer to each atom
abbrev pub roomy : List Term → List Atom → Constraints
roomy terms atoms = record { dims = dims_of terms; narrowings = []; room = length atoms }

-- whether a dimension has a value: all do but that of no cases
abbrev pub has_value : Dim → Bool
has_value (dim.Cases n) = nat_lt 0 n
has_value d = true

-- ---- trees that are searched

-- an atom may be split on in a region: the target is open there, and this is one of its atoms that isn't decided
pub record IsSplit (atoms : List Atom) (t : TableTarget) (region : Constraints) (a : ℕ) : Type 0 where
  pub unknown : judged_in atoms region t ≡ Open
  pub asked : IsOneOf a (atoms_in t)
  pub undecided : answers_in atoms region a ≡ None

-- a verdict that isn't open
abbrev pub is_known : Verdict → Bool
is_known Open = false
is_known v = true

-- a tree is searched in a region where each of its splits may be made, each leaf and each rest has a region that admits
-- something, and that of a leaf isn't judged open
abbrev pub IsSearched : List Atom → TableTarget → Constraints → Tree → Type 0
IsSearched atoms t region tree.Leaf = IsInhabited region × IsTrue (is_known (judged_in atoms region t))
IsSearched atoms t region tree.Rest = IsInhabited region
IsSearched atoms t region (tree.Split a left right) =
    IsSplit atoms t region a
    × IsSearched atoms t (answering atoms region a true) left
    × IsSearched atoms t (answering atoms region a false) right

-- the number of rests
abbrev pub rests : Tree → ℕ
rests tree.Leaf = 0
rests tree.Rest = 1
rests (tree.Split a left right) = rests left + rests right

-- ---- leaves

-- a leaf, by its place among the nodes, with its region
pub record Reached : Type 0 where
  pub leaf : ℕ
  pub region : Constraints

-- the number of nodes
abbrev pub size : Tree → ℕ
size tree.Leaf = 1
size tree.Rest = 1
size (tree.Split a left right) = 1 + (size left + size right)

-- the leaves of a tree in preorder, where its first node has that place and that region
abbrev pub leaves_from : List Atom → ℕ → Constraints → Tree → List Reached
leaves_from atoms place region tree.Leaf = record { leaf = place; region = region } ∷ []
leaves_from atoms place region tree.Rest = []
leaves_from atoms place region (tree.Split a left right) =
    leaves_from atoms (place + 1) (answering atoms region a true) left
    ++ leaves_from atoms (place + 1 + size left) (answering atoms region a false) right

-- what is wrong where a target isn't covered
abbrev pub flaw_of : Verdict → Flaw
flaw_of Conflict = flaw.Conflict
flaw_of v = flaw.NoValue

-- a leaf that isn't covered, in front of the others
abbrev pub bad_before : TableTarget → ℕ → Verdict → List BadLeaf → List BadLeaf
bad_before t leaf v bad = if covers t.may_be_empty v then bad else record { leaf = leaf; flaw = flaw_of v } ∷ bad

-- those of some leaves whose region isn't judged covered
abbrev pub bad_among : List Atom → TableTarget → List Reached → List BadLeaf
bad_among atoms t [] = []
bad_among atoms t (l ∷ ls) = bad_before t l.leaf (judged_in atoms l.region t) (bad_among atoms t ls)

-- ---- what a search finds

-- nodes are a tree that is searched from the whole on, and these are its leaves that aren't covered
pub record IsFound (terms : List Term) (atoms : List Atom) (t : TableTarget) (nodes : List TreeNode)
    (bad : List BadLeaf) (tree : Tree) : Type 0 where
  pub nodes_are : tree_of nodes ≡ Some tree
  pub searched : IsSearched atoms t (everything terms) tree
  pub bad_are : bad ≡ bad_among atoms t (leaves_from atoms 0 (everything terms) tree)

-- a search of at most `budget` leaves: a whole tree, or one that has just so many leaves and a rest
abbrev pub IsSearchOf : List Term → List Atom → TableTarget → ℕ → Search → Type 0
IsSearchOf terms atoms t budget (search.Closed tree bad) =
    (found : Tree) × IsFound terms atoms t tree.nodes bad found × IsTrue (is_whole found) × (leaves found ≤ budget)
IsSearchOf terms atoms t budget (search.Spent tree bad) =
    (found : Tree) × IsFound terms atoms t tree.nodes bad found × (is_whole found ≡ false) × (leaves found ≡ budget)

-- a whole tree none of whose leaves is bad is closed in the whole
abbrev pub IsClosedSearch : List Term → List Atom → TableTarget → Search → Type 0
IsClosedSearch terms atoms t (search.Closed tree bad) = bad ≡ [] → AreClosed atoms t (everything terms) tree.nodes
IsClosedSearch terms atoms t (search.Spent tree bad) = Unit {0}
