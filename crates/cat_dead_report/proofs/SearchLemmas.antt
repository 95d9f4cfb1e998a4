-- The tree that a search makes of a target, and what is said by it.
use Rattle.std.proofs.Common.{◌≡◌, ℕ, ◌<◌, ◌≤◌, nat_lt, nat_eq, Bool, true, false, ◌&&◌, IsTrue}
use Rattle.std.proofs.Common.{List, []}
use Rattle.std.proofs.Common.{◌∷◌, length, Option, Some, None, slice_get, refl, sym, ap, ◌∙◌, subst, arith}
use Rattle.std.proofs.Common.{true≢false}
use Rattle.std.specs.Prelude.{Result, IfOk, IfSome}
use Rattle.std.proofs.lemmas.Bool.Decides.{nat_tests}
use Rattle.cat_region.proofs.Exported.{and-both}
use Rattle.cat_region.specs.declared.dim.Dim.{Dim}
use Rattle.cat_region.specs.Regions.{Constraints, Valuation, IsValuation}
use Rattle.cat_scope.specs.Names.{IsOneOf, has_none}
use Rattle.cat_guard.specs.declared.table.Atom.{Atom}
use Rattle.cat_guard.specs.declared.table.Table.{Table}
use Rattle.cat_guard.specs.declared.table.TableTarget.{TableTarget}
use Rattle.cat_guard.specs.declared.tree.CaseTree.{CaseTree}
use Rattle.cat_guard.specs.declared.tree.TreeNode.{TreeNode}
use Rattle.cat_guard.specs.Judgements.{atoms_in}
use Rattle.cat_guard.specs.TableJudging.{Covers}
use Rattle.cat_guard.specs.Trees.{AreClosed, Tree, answering, tree_of, height, is_tree}
use Rattle.cat_guard.specs.Trees as tree
use Rattle.cat_guard.specs.Valuations.{dims_of, holds_at}
use Rattle.cat_walk.specs.Walkable.{splits_below, IsWalkable}
use Rattle.cat_search.specs.declared.found.Search.{Search}
use Rattle.cat_search.specs.declared.found.Search.TheVariants as search
use Rattle.cat_search.specs.Cells.{IsSpentWithin}
use Rattle.cat_search.proofs.Exported.{asked_below}
use Rattle.cat_search.specs.Searched.{everything, IsClosedSearch, IsSearched, IsSearchOf}
use Rattle.cat_dead_report.specs.inside.Faultless.{IsCoveredByEach}
use Rattle.cat_dead_report.specs.inside.Searches.{tree_in, is_closed, is_covered, IsSearchedBy}

-- ---- a search

pub searched_by : (table : Table) (t : TableTarget) (budget : ℕ) (s : Search)
    → IsSearchOf table.terms table.atoms t budget s → IsSpentWithin table.terms table.atoms t budget s
    → IsSearchedBy table t budget (tree_in s) (is_closed s)
searched_by table t budget (search.Closed tree bad) of within = record {
  made = record { tree = of.0; tree_is = of.1.nodes_are; searched = of.1.searched };
  few = of.3;
  whole_is = sym of.2;
  spent = λ unexplored. absurd (true≢false unexplored);
  more_cells = λ unexplored. absurd (true≢false unexplored);
}
searched_by table t budget (search.Spent tree bad) of within = record {
  made = record { tree = of.0; tree_is = of.1.nodes_are; searched = of.1.searched };
  few = let all = of.3 in omega (arith, all);
  whole_is = sym of.2;
  spent = λ unexplored. of.3;
  more_cells = λ unexplored. within;
}

-- ---- it can be walked

searched_splits : (atoms : List Atom) (t : TableTarget) (bound : ℕ) → ((a : ℕ) → IsOneOf a (atoms_in t) → a < bound)
    → (region : Constraints) (w : Tree) → IsSearched atoms t region w → splits_below bound w ≡ true
searched_splits atoms t bound below region tree.Leaf searched = refl
searched_splits atoms t bound below region tree.Rest searched = refl
searched_splits atoms t bound below region (tree.Split a left right) searched =
    let less = below a searched.0.asked in
    let own : nat_lt a bound ≡ true = grind (arith, nat_tests, less) in
    and-both (nat_lt a bound && splits_below bound left) (splits_below bound right)
    (and-both (nat_lt a bound) (splits_below bound left) own
    (searched_splits atoms t bound below (answering atoms region a true) left searched.1))
    (searched_splits atoms t bound below (answering atoms region a false) right searched.2)

height_is : (nodes : List TreeNode) (depth : ℕ) (w : Tree) → tree_of nodes ≡ Some w → IsTrue (is_tree nodes depth)
    → height w ≡ depth
unfolding is_tree
height_is nodes depth w is high =
    let same : nat_eq (height w) depth ≡ true = sym (ap (tree.has_height depth) is) ∙ high in
    grind (arith, nat_tests, same)

pub walkable : (table : Table) (t : TableTarget) (budget : ℕ) (n : ℕ) → slice_get table.targets n ≡ Some t
    → (found : CaseTree) (whole : Bool) → IsSearchedBy table t budget found whole
    → IsWalkable (length table.atoms) found.depth (tree_of found.nodes)
walkable table t budget n at found whole by_search =
    let made = by_search.made in
    let deep = height_is found.nodes found.depth made.tree made.tree_is found.sound in
    subst (IsWalkable (length table.atoms) found.depth) (sym made.tree_is) (
      searched_splits table.atoms t (length table.atoms)
          (asked_below table.terms table.atoms table.targets table.sound n t at)
          (everything table.terms) made.tree made.searched,
      omega (arith, deep),
    )

-- with more room too
pub roomier : (atoms room more : ℕ) (o : Option Tree) → room ≤ more → IsWalkable atoms room o → IsWalkable atoms more o
roomier atoms room more None less can = can
roomier atoms room more (Some w) less can = let low = can.1 in (can.0, omega (arith, low, less))

-- what a result says of the target of a number it says of that target
pub told_at : {A E : Type 0} (P : TableTarget → A → Type 0) (o : Option TableTarget) (t : TableTarget) → o ≡ Some t
    → (r : Result A E) → IfSome o (λ u. IfOk r (P u)) → IfOk r (P t)
told_at P None t is r h = absurd (cc)
told_at P (Some u) t is r h = let same : u ≡ t = cc in subst (λ (x : TableTarget). IfOk r (P x)) same h

-- ---- what covers

none_there : {A : Type 0} (xs : List A) → has_none xs ≡ true → xs ≡ []
none_there [] is = refl
none_there (x ∷ xs) is = absurd (true≢false (sym is))

-- a search without bad leaves shows that each valuation covers its target
pub covered_by : (table : Table) (t : TableTarget) (s : Search) → IsClosedSearch table.terms table.atoms t s
    → is_covered s ≡ true
    → ((atoms : List Atom) (u : TableTarget) (dims : List Dim) (room : ℕ) (nodes : List TreeNode)
    → AreClosed atoms u (record { dims = dims; narrowings = []; room = room }) nodes
    → (v : Valuation) → IsValuation dims v → Covers u (holds_at atoms v)) → IsCoveredByEach table t
covered_by table t (search.Closed found bad) closed is law v valid =
    law table.atoms t (dims_of table.terms) 0 found.nodes (closed (none_there bad is)) v valid
covered_by table t (search.Spent found bad) closed is law v valid = absurd (true≢false (sym is))
