-- A search on its way: the nodes written so far, and the regions for which nodes are still to come.
use Rattle.std.specs.Prelude.{◌≡◌, ℕ, ◌-◌, max, Bool, true, false, IsTrue, if◌then◌else◌, List, [], ◌∷◌, ◌++◌, length}
use Rattle.std.specs.Prelude.{Option, Some, None, slice_get}
use Rattle.cat_region.specs.declared.narrowing.Narrowing.{Narrowing}
use Rattle.cat_region.specs.Regions.{Constraints, IsInhabited}
use Rattle.cat_region.specs.Decided.{decided_at}
use Rattle.cat_region.specs.Sides.{along, IsAt, turns}
use Rattle.cat_guard.specs.declared.table.Term.{Term}
use Rattle.cat_guard.specs.declared.table.Atom.{Atom}
use Rattle.cat_guard.specs.declared.table.TableTarget.{TableTarget}
use Rattle.cat_guard.specs.declared.tree.TreeNode.{TreeNode}
use Rattle.cat_guard.specs.Judged.{judged_in, covers}
use Rattle.cat_guard.specs.Trees.{Tree, height}
use Rattle.cat_guard.specs.Verdicts.{Verdict}
use Rattle.cat_search.specs.declared.bad.BadLeaf.{BadLeaf}
use Rattle.cat_search.specs.declared.bad.Flaw.{Flaw}
use Rattle.cat_search.specs.declared.node.NextNode.{NextNode}
use Rattle.cat_search.specs.declared.node.NextNode.TheVariants as next
use Rattle.cat_search.specs.declared.searching.Searching.{Searching}
use Rattle.cat_search.specs.Searched.{everything, roomy, IsSplit, IsSearched, is_known, flaw_of, leaves_from, bad_among}
use Rattle.cat_search.specs.inside.ToCome.{in_front, AreSearched, highest, leaves_along}

-- ---- one node

-- what is wrong with a verdict, where it doesn't cover
abbrev pub flaw_at : TableTarget → Verdict → Option Flaw
flaw_at t v = if covers t.may_be_empty v then None else Some (flaw_of v)

-- the node for a region: a split that may be made, or a leaf where the target isn't open, with what is wrong there
abbrev pub IsMadeOf : List Atom → TableTarget → Constraints → NextNode → Type 0
IsMadeOf atoms t region (next.Split a) = IsSplit atoms t region a
IsMadeOf atoms t region (next.Leaf flaw) =
    IsTrue (is_known (judged_in atoms region t)) × (flaw ≡ flaw_at t (judged_in atoms region t))

-- a leaf among the bad ones, where something is wrong with it
abbrev pub bad_one : ℕ → Option Flaw → List BadLeaf
bad_one leaf None = []
bad_one leaf (Some flaw) = record { leaf = leaf; flaw = flaw } ∷ []

-- ---- the way down

-- a narrowing answers an atom that the region before it doesn't decide
pub record IsAsked (atoms : List Atom) (region : Constraints) (n : Narrowing) : Type 0 where
  pub number : ℕ
  pub atom_is : slice_get atoms number ≡ Some (record { term = n.dim; cut = n.cut })
  pub undecided : decided_at region n.dim n.cut ≡ None

-- each narrowing of a path does
abbrev pub AreAsked : List Atom → Constraints → List Narrowing → Type 0
AreAsked atoms base [] = Unit {0}
AreAsked atoms base (n ∷ path) = IsAsked atoms (along base path) n × AreAsked atoms base path

-- ---- a search

-- what is written and these trees make one tree, which is searched; the depth and the bad leaves are those of this tree
pub record Completes (atoms : List Atom) (t : TableTarget) (base : Constraints) (s : Searching)
    (paths : List (List Narrowing)) (trees : List Tree) : Type 0 where
  pub tree : Tree
  pub tree_is : in_front s.nodes trees ≡ Some (tree ∷ [])
  pub searched : IsSearched atoms t base tree
  pub height_is : height tree ≡ highest s.depth paths trees
  pub bad_are : bad_among atoms t (leaves_from atoms 0 base tree)
      ≡ s.bad ++ bad_among atoms t (leaves_along atoms base (length s.nodes) paths trees)

-- the regions for which nodes are to come: that where a search is, if its node isn't written yet, and those at the
-- turns of the way to it
abbrev pub to_come : Bool → List Narrowing → List (List Narrowing)
to_come here path = if here then path ∷ turns path else turns path

-- a search is under way: whichever searched trees are to come, they complete it
pub record IsUnderway (terms : List Term) (atoms : List Atom) (t : TableTarget) (here : Bool) (s : Searching) : Type 0
  where
    pub some : IsInhabited (everything terms)
    pub path : List Narrowing
    pub at : IsAt (roomy terms atoms) path s.region
    pub asked : AreAsked atoms (everything terms) path
    pub rest : (trees : List Tree) → AreSearched atoms t (everything terms) (to_come here path) trees
        → Completes atoms t (everything terms) s (to_come here path) trees

-- a search is at its end: what is written is a tree, which is searched, and it is back in the region where it began
pub record IsComplete (terms : List Term) (atoms : List Atom) (t : TableTarget) (s : Searching) : Type 0 where
  pub written : Completes atoms t (everything terms) s [] []
  pub back : IsAt (roomy terms atoms) [] s.region

-- after the way back: under way in another region, or at the end
abbrev pub IsTurned : List Term → List Atom → TableTarget → Bool → Searching → Type 0
IsTurned terms atoms t true s = IsUnderway terms atoms t true s
IsTurned terms atoms t false s = IsComplete terms atoms t s

-- the state of a search that begins in a region
abbrev pub begun : Constraints → Searching
begun region = record { region = region; nodes = []; depth = 0; bad = [] }

-- of one that begins with everything
abbrev pub start : List Term → List Atom → Searching
start terms atoms = begun (roomy terms atoms)

-- a region ends in that node
abbrev pub ended : TreeNode → ℕ → Searching → Searching
ended n most s = record {
  region = s.region;
  nodes = s.nodes ++ n ∷ [];
  depth = max s.depth (most - s.region.room);
  bad = s.bad;
}
