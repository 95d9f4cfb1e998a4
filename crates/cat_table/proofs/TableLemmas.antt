-- The tree of a search, and the table by it.
use Rattle.std.proofs.Common.{◌≡◌, ◌∙◌, ℕ, IsTrue, List, [], ◌++◌, length, take}
use Rattle.std.proofs.Common.{Option, Some, None, slice_get, refl, sym, ap, subst, true≢false, append_assoc}
use Rattle.std.specs.Prelude.{IfSome}
use Rattle.cat_value.specs.declared.decls.Decls.{Decls}
use Rattle.cat_value.specs.declared.declaration.ItemDecl.{ItemDecl}
use Rattle.cat_value.specs.declared.declaration.Scope.{Scope}
use Rattle.cat_region.specs.Regions.{Constraints}
use Rattle.cat_scope.specs.Names.{items_in}
use Rattle.cat_guard.specs.declared.table.Term.{Term}
use Rattle.cat_guard.specs.declared.table.Atom.{Atom}
use Rattle.cat_guard.specs.declared.table.Table.{Table}
use Rattle.cat_guard.specs.declared.table.TableTarget.{TableTarget}
use Rattle.cat_guard.specs.declared.tree.TreeNode.{TreeNode}
use Rattle.cat_guard.specs.Trees.{Tree, has_height, is_tree, tree_of}
use Rattle.cat_search.specs.declared.found.Search.{Search}
use Rattle.cat_search.specs.declared.found.Search.TheVariants as search
use Rattle.cat_search.specs.Searched.{everything, IsSearched, IsSearchOf}
use Rattle.cat_search.specs.Ways.{ask_below, way_from}
use Rattle.cat_table.specs.Conditions.{Naming}
use Rattle.cat_table.specs.Kept.{AreKept}
use Rattle.cat_table.specs.Rows.{end_text, ended, first_line, leaves_in, naming, nodes_in, rows_from, rows_in, rows_of}
use Rattle.cat_table.specs.Rows.{rows_text, table_by}
use Rattle.cat_table.specs.Leaves.{leaves_among}
use Rattle.cat_table.specs.inside.Nodes.{nodes_text}
use Rattle.cat_table.proofs.NodeLemmas.{all_lines, leaves_are}

-- ---- a target that is there

pub at_some : {A : Type 0} (P : A → Type 0) (o : Option A) (t : A) → o ≡ Some t → IfSome o P → P t
at_some P o t is p = subst (λ o. IfSome o P) is p

pub if_some : {A : Type 0} {Q : A → Type 0} (o : Option A) → ((t : A) → o ≡ Some t → Q t) → IfSome o Q
if_some None go = tt
if_some (Some t) go = go t refl

-- ---- the tree of a search

-- what a search made is a tree that is searched
pub record IsTreeOf (terms : List Term) (atoms : List Atom) (t : TableTarget) (s : Search) : Type 0 where
  pub tree : Tree
  pub tree_is : tree_of (nodes_in s) ≡ Some tree
  pub searched : IsSearched atoms t (everything terms) tree

pub found_tree : (terms : List Term) (atoms : List Atom) (t : TableTarget) (budget : ℕ) (s : Search)
    → IsSearchOf terms atoms t budget s → IsTreeOf terms atoms t s
found_tree terms atoms t budget (search.Closed tree bad) is =
    record { tree = is.0; tree_is = is.1.nodes_are; searched = is.1.searched }
found_tree terms atoms t budget (search.Spent tree bad) is =
    record { tree = is.0; tree_is = is.1.nodes_are; searched = is.1.searched }

-- the ways through it ask atoms of the table
pub asked_in : (table : Table) (t : TableTarget) (s : Search) → IsTreeOf table.terms table.atoms t s
    → ((region : Constraints) (nodes : List TreeNode) (tree : Tree) → tree_of nodes ≡ Some tree
    → IsSearched table.atoms t region tree
    → (n : ℕ) → IsTrue (ask_below (length table.atoms) (way_from [] (take n nodes))))
    → (n : ℕ) → IsTrue (ask_below (length table.atoms) (way_from [] (take n (nodes_in s))))
asked_in table t s is law = law (everything table.terms) (nodes_in s) is.tree is.tree_is is.searched

-- its rows keep what tables keep
pub rows_keep : (ns : Naming) (table : Table) (t : TableTarget) (s : Search) → IsTreeOf table.terms table.atoms t s
    → ((ns : Naming) (tree : Tree) → IsSearched table.atoms t (everything table.terms) tree
    → AreKept ns table t (rows_from table.atoms [] (everything table.terms) tree))
    → AreKept ns table t (rows_of table s)
rows_keep ns table t s is law =
    subst (λ (o : Option Tree). AreKept ns table t (rows_in table o)) (sym is.tree_is) (law ns is.tree is.searched)

-- its lines are those of its rows
pub lines_of_rows : (ns : Naming) (table : Table) (t : TableTarget) (s : Search)
    → IsTreeOf table.terms table.atoms t s
    → nodes_text ns table t [] (nodes_in s) ≡ rows_text ns table t (rows_of table s)
lines_of_rows ns table t s is =
    all_lines ns table t (nodes_in s) is.tree is.tree_is
    ∙ ap (λ (o : Option Tree). rows_text ns table t (rows_in table o)) (sym is.tree_is)

-- ---- its leaves

by_height : (nodes : List TreeNode) (depth : ℕ) (o : Option Tree) → tree_of nodes ≡ o → IsTrue (has_height depth o)
    → leaves_among nodes ≡ leaves_in o
by_height nodes depth None is sound = absurd (true≢false (sym sound))
by_height nodes depth (Some t) is sound = leaves_are nodes t is

pub leaves_counted : (nodes : List TreeNode) (depth : ℕ) → IsTrue (is_tree nodes depth)
    → leaves_among nodes ≡ leaves_in (tree_of nodes)
unfolding is_tree
leaves_counted nodes depth sound = by_height nodes depth (tree_of nodes) refl sound

-- ---- texts

-- what names stand for, by the parts
abbrev named_by : Decls → List ItemDecl → List (List ℕ) → Naming
named_by ds items files = record { decls = ds; items = items; files = files }

-- it is so in the table of a scope
pub named_here : (files : List (List ℕ)) (table : Table) (ds : Decls) (here : Decls) (scope : Scope) → here ≡ ds
    → slice_get ds.scopes table.scope ≡ Some scope → named_by here scope.items files ≡ naming ds files table
named_here files table ds here scope same there =
    ap (λ (d : Decls). named_by d scope.items files) same
    ∙ ap (λ (o : Option Scope). named_by ds (items_in o) files) (sym there)

-- the parts of a table behind each other
pub table_made : (ns : Naming) (table : Table) (t : TableTarget) (s : Search) (first one two three : List ℕ)
    → IsTreeOf table.terms table.atoms t s → first ≡ first_line table t → one ≡ ended first
    → two ≡ one ++ nodes_text ns table t [] (nodes_in s) → three ≡ two ++ end_text s → three ≡ table_by ns table t s
table_made ns table t s first one two three is first_is one_is two_is three_is =
    let rows = rows_text ns table t (rows_of table s) in
    let begun : one ≡ ended (first_line table t) = one_is ∙ ap ended first_is in
    three_is
    ∙ ap (λ (text : List ℕ). text ++ end_text s) (two_is
    ∙ ap (λ (text : List ℕ). one ++ text) (lines_of_rows ns table t s is)
    ∙ ap (λ (text : List ℕ). text ++ rows) begun)
    ∙ append_assoc (ended (first_line table t)) rows (end_text s)
