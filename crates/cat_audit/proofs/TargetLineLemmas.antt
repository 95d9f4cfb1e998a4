-- The line of a target, by the search for its tree and the finding that counts.
use Rattle.std.proofs.Common.{◌≡◌, ℕ, ◌<◌, false, IsTrue, List, [], length, map, take, Option, Some, None, refl, sym}
use Rattle.std.proofs.Common.{ap}
use Rattle.std.proofs.Common.{◌∙◌, subst}
use Rattle.cat_region.specs.Chosen.{point_at}
use Rattle.cat_region.specs.Regions.{Constraints, Valuation, IsRegion, IsInhabited, IsValuation, Admits}
use Rattle.cat_value.specs.Inputs.{IsWellTyped}
use Rattle.cat_scope.specs.declared.programs.Program.{Program}
use Rattle.cat_scope.specs.Names.{AllHave}
use Rattle.cat_guard.specs.declared.table.Atom.{Atom}
use Rattle.cat_guard.specs.declared.table.Term.{Term}
use Rattle.cat_guard.specs.declared.table.Table.{Table}
use Rattle.cat_guard.specs.declared.table.TableTarget.{TableTarget}
use Rattle.cat_guard.specs.declared.tree.CaseTree.{CaseTree}
use Rattle.cat_guard.specs.declared.tree.TreeNode.{TreeNode}
use Rattle.cat_guard.specs.Soundness.{is_sound}
use Rattle.cat_guard.specs.Trees.{Tree, tree_of, is_whole, leaves}
use Rattle.cat_guard.specs.Valuations.{dims_of}
use Rattle.cat_search.specs.declared.bad.BadLeaf.{BadLeaf}
use Rattle.cat_search.specs.declared.found.Search.{Search}
use Rattle.cat_search.specs.declared.found.Search.TheVariants as search
use Rattle.cat_search.specs.Cells.{cells, IsSpentWithin}
use Rattle.cat_search.specs.Searched.{everything, leaves_from, IsFound, IsSearched, IsSearchOf, IsClosedSearch}
use Rattle.cat_search.specs.OnWays.{AreOnWays}
use Rattle.cat_search.specs.Ways.{ask_below, way_from}
use Rattle.cat_audit_sound.specs.PointInputs.{input_at}
use Rattle.cat_audit.specs.declared.finding.Finding.{Finding}
use Rattle.cat_audit.specs.declared.finding.TargetLine.{TargetLine}
use Rattle.cat_audit.specs.Causes.{HasCause, IsSpent}
use Rattle.cat_audit.specs.Lines.{bad_in, findings, counting, good_line, line_by, tree_in, IsLineOf}
use Rattle.cat_audit.specs.inside.Tried.{leaves_bad, region_at, AreBadFrom}
use Rattle.cat_audit.proofs.CauseLemmas.{cause_of}
use Rattle.cat_audit.proofs.SearchedLemmas.{IsBadRegion, AreTold, tree_good, regions_bad, told, bad_in_tree}

module _ (program : Program) (table : Table) (t : TableTarget) (budget : ℕ)
    (sound : IsTrue (is_sound table.terms table.atoms table.targets)) (nodes : List TreeNode) (bad : List BadLeaf)
    (found : Tree) (is : IsFound table.terms table.atoms t nodes bad found)
    (ways : AreOnWays table.atoms (everything table.terms) nodes 0
    (leaves_from table.atoms 0 (everything table.terms) found)) where
  pub told_is : AreTold table t nodes 0 bad (bad_in table t nodes)
  told_is =
      let leaves_told = told table t nodes 0 (leaves_from table.atoms 0 (everything table.terms) found) ways
      (tree_good table.terms table.atoms table.targets sound t found is.searched) in
      record {
        bad = subst (AreBadFrom table t nodes 0) (sym is.bad_are) leaves_told.bad;
        regions_are =
            bad_in_tree table t nodes found is.nodes_are ∙ leaves_told.regions_are
            ∙ ap (map (region_at table nodes)) (sym is.bad_are);
      }

  all_bad : AllHave (IsBadRegion table t) (bad_in table t nodes)
  all_bad =
      subst (AllHave (IsBadRegion table t)) (sym (bad_in_tree table t nodes found is.nodes_are))
      (regions_bad table t (leaves_from table.atoms 0 (everything table.terms) found)
      (tree_good table.terms table.atoms table.targets sound t found is.searched))

  abbrev tried_all : Option Finding
  tried_all = counting (findings program table t (map (region_at table nodes) bad))

  pub same : tried_all ≡ counting (findings program table t (bad_in table t nodes))
  same = ap (λ rs. counting (findings program table t rs)) (sym told_is.regions_are)

  pub cause_is : (typed : (v : Valuation) → IsValuation (dims_of table.terms) v
      → IsWellTyped program.decls table.scope (input_at program.decls table v))
      (admitted : (region : Constraints) → IsRegion region → IsInhabited region → Admits region (point_at region))
      (o : Option Finding) (s : Search) → o ≡ tried_all
      → (o ≡ None → HasCause program table t budget nodes (good_line s))
      → HasCause program table t budget nodes (line_by o s)
  cause_is typed admitted None s counts rest = rest refl
  cause_is typed admitted (Some f) s counts rest =
      cause_of program table t budget nodes typed admitted all_bad f (sym (counts ∙ same))

  pub spent_is : budget < cells table.terms table.atoms t → is_whole found ≡ false → leaves found ≡ budget → bad ≡ []
      → IsSpent table t budget nodes
  spent_is more rest counted none = record {
    more_cells = more;
    tree = found;
    tree_is = is.nodes_are;
    searched = is.searched;
    rest = rest;
    leaves_are = counted;
    good = told_is.regions_are ∙ ap (map (region_at table nodes)) none;
  }

-- ---- one search

found_of : (terms : List Term) (atoms : List Atom) (t : TableTarget) (budget : ℕ) (s : Search)
    → IsSearchOf terms atoms t budget s
    → (found : Tree) × IsFound terms atoms t (tree_in s).nodes (leaves_bad s) found
found_of terms atoms t budget (search.Closed tree bad) searched = (searched.0, searched.1)
found_of terms atoms t budget (search.Spent tree bad) searched = (searched.0, searched.1)

pub asked_of : (table : Table) (t : TableTarget) (budget : ℕ) (s : Search)
    → IsSearchOf table.terms table.atoms t budget s
    → ((region : Constraints) (nodes : List TreeNode) (tree : Tree) → tree_of nodes ≡ Some tree
    → IsSearched table.atoms t region tree
    → (n : ℕ) → IsTrue (ask_below (length table.atoms) (way_from [] (take n nodes))))
    → (n : ℕ) → IsTrue (ask_below (length table.atoms) (way_from [] (take n (tree_in s).nodes)))
asked_of table t budget s searched law n =
    let f = found_of table.terms table.atoms t budget s searched in
    law (everything table.terms) (tree_in s).nodes f.0 f.1.nodes_are f.1.searched n

module _ (program : Program) (table : Table) (t : TableTarget) (budget : ℕ)
    (sound : IsTrue (is_sound table.terms table.atoms table.targets))
    (ways : (atoms : List Atom) (base : Constraints) (nodes : List TreeNode) (tree : Tree) → tree_of nodes ≡ Some tree
    → AreOnWays atoms base nodes 0 (leaves_from atoms 0 base tree)) (s : Search)
    (searched : IsSearchOf table.terms table.atoms t budget s) where
  abbrev Nodes : List TreeNode
  Nodes = (tree_in s).nodes

  abbrev f : (found : Tree) × IsFound table.terms table.atoms t (tree_in s).nodes (leaves_bad s) found
  f = found_of table.terms table.atoms t budget s searched

  on_ways : AreOnWays table.atoms (everything table.terms) Nodes 0
      (leaves_from table.atoms 0 (everything table.terms) f.0)
  on_ways = ways table.atoms (everything table.terms) Nodes f.0 f.1.nodes_are

  pub bad_first : AreBadFrom table t (tree_in s).nodes 0 (leaves_bad s)
  bad_first = (told_is program table t budget sound Nodes (leaves_bad s) f.0 f.1 on_ways).bad

  abbrev pub Counts : Option Finding → Type 0
  Counts o = o ≡ counting (findings program table t (map (region_at table (tree_in s).nodes) (leaves_bad s)))

  pub line_made : IsClosedSearch table.terms table.atoms t s → IsSpentWithin table.terms table.atoms t budget s
      → (o : Option Finding) → Counts o → (made : TargetLine) → made.tree ≡ tree_in s → made.line ≡ line_by o s
      → IsLineOf program table t budget made
  line_made closed spent o counts made tree_is line_is = record {
    search = s;
    tree_is = tree_is;
    searched = searched;
    closed = closed;
    spent = spent;
    line_is =
        line_is ∙ ap (λ p. line_by p s)
        (counts ∙ same program table t budget sound Nodes (leaves_bad s) f.0 f.1 on_ways
        ∙ ap (λ (tree : CaseTree). counting (findings program table t (bad_in table t tree.nodes))) (sym tree_is));
  }

good_cause : (program : Program) (table : Table) (t : TableTarget) (budget : ℕ)
    → IsTrue (is_sound table.terms table.atoms table.targets)
    → ((atoms : List Atom) (base : Constraints) (nodes : List TreeNode) (tree : Tree) → tree_of nodes ≡ Some tree
    → AreOnWays atoms base nodes 0 (leaves_from atoms 0 base tree)) → (s : Search)
    → IsSearchOf table.terms table.atoms t budget s → IsClosedSearch table.terms table.atoms t s
    → IsSpentWithin table.terms table.atoms t budget s → leaves_bad s ≡ []
    → HasCause program table t budget (tree_in s).nodes (good_line s)
good_cause program table t budget sound ways (search.Closed tree bad) searched closed spent none = closed none
good_cause program table t budget sound ways (search.Spent tree bad) searched closed spent none =
    spent_is program table t budget sound tree.nodes bad searched.0 searched.1
    (ways table.atoms (everything table.terms) tree.nodes searched.0 searched.1.nodes_are) spent searched.2 searched.3
    none

pub cause_made : (program : Program) (table : Table) (t : TableTarget) (budget : ℕ)
    → IsTrue (is_sound table.terms table.atoms table.targets)
    → ((v : Valuation) → IsValuation (dims_of table.terms) v
    → IsWellTyped program.decls table.scope (input_at program.decls table v))
    → ((region : Constraints) → IsRegion region → IsInhabited region → Admits region (point_at region))
    → ((atoms : List Atom) (base : Constraints) (nodes : List TreeNode) (tree : Tree) → tree_of nodes ≡ Some tree
    → AreOnWays atoms base nodes 0 (leaves_from atoms 0 base tree)) → (s : Search)
    → IsSearchOf table.terms table.atoms t budget s → IsClosedSearch table.terms table.atoms t s
    → IsSpentWithin table.terms table.atoms t budget s → (o : Option Finding)
    → o ≡ counting (findings program table t (map (region_at table (tree_in s).nodes) (leaves_bad s)))
    → (o ≡ None → leaves_bad s ≡ []) → (made : TargetLine) → made.tree ≡ tree_in s
    → made.line ≡ line_by o s → HasCause program table t budget made.tree.nodes made.line
cause_made program table t budget sound typed admitted ways s searched closed spent o counts none made tree_is line_is =
    let f = found_of table.terms table.atoms t budget s searched in
    subst (λ (tree : CaseTree). HasCause program table t budget tree.nodes made.line) (sym tree_is)
    (subst (HasCause program table t budget (tree_in s).nodes) (sym line_is)
    (cause_is program table t budget sound (tree_in s).nodes (leaves_bad s) f.0 f.1
    (ways table.atoms (everything table.terms) (tree_in s).nodes f.0 f.1.nodes_are) typed admitted o s counts
    (λ e. good_cause program table t budget sound ways s searched closed spent (none e))))

-- the same of lists that are those of the search
pub counts_as : (program : Program) (table : Table) (t : TableTarget) (s : Search) (ns : List TreeNode)
    (bs : List BadLeaf) → ns ≡ (tree_in s).nodes → bs ≡ leaves_bad s → (o : Option Finding)
    → o ≡ counting (findings program table t (map (region_at table ns) bs))
    → o ≡ counting (findings program table t (map (region_at table (tree_in s).nodes) (leaves_bad s)))
counts_as program table t s ns bs nodes bad o counts =
    counts ∙ ap (λ xs. counting (findings program table t (map (region_at table xs) bs))) nodes
    ∙ ap (λ ys. counting (findings program table t (map (region_at table (tree_in s).nodes) ys))) bad

pub bad_as : (table : Table) (t : TableTarget) (s : Search) (ns : List TreeNode) (bs : List BadLeaf)
    → ns ≡ (tree_in s).nodes → bs ≡ leaves_bad s → AreBadFrom table t (tree_in s).nodes 0 (leaves_bad s)
    → AreBadFrom table t ns 0 bs
bad_as table t s ns bs nodes bad are =
    subst (λ xs. AreBadFrom table t xs 0 bs) (sym nodes) (subst (AreBadFrom table t (tree_in s).nodes 0) (sym bad) are)
