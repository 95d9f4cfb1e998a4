-- The nodes of a tree, and the lines of its leaves.
use Rattle.std.proofs.Common.{◌≡◌, ◌∙◌, ℕ, suc, ◌+◌, Bool, true, false, IsTrue, List, [], ◌∷◌, ◌++◌, drop, take, Option}
use Rattle.std.proofs.Common.{Some, None, reverse, refl, sym, ap, subst, arith, append_assoc}
use Rattle.std.specs.Prelude.{IfSome}
use Rattle.std.proofs.lemmas.List.{append-nil, reverse-append}
use Rattle.cat_region.specs.Regions.{Constraints, IsInhabited}
use Rattle.cat_region.proofs.Exported.{some_before}
use Rattle.cat_guard.specs.declared.table.Atom.{Atom}
use Rattle.cat_guard.specs.declared.table.Table.{Table}
use Rattle.cat_guard.specs.declared.table.TableTarget.{TableTarget}
use Rattle.cat_guard.specs.declared.tree.TreeNode.{TreeNode}
use Rattle.cat_guard.specs.declared.tree.TreeNode.TheVariants as node
use Rattle.cat_guard.specs.Trees.{Tree, node_before, one_tree, trees_of, tree_of, answering, leaves, with_answer}
use Rattle.cat_guard.specs.Trees as tree
use Rattle.cat_search.specs.declared.way.Answer.{Answer}
use Rattle.cat_search.specs.Searched.{everything, IsSearched}
use Rattle.cat_search.specs.Ways.{ask_below, led_to, passed, turned, way_from}
use Rattle.cat_table.specs.Conditions.{Naming}
use Rattle.cat_table.specs.Rows.{Row, answered, ended, row_text, rows_from, rows_text, shown_text}
use Rattle.cat_table.specs.Leaves.{leaves_among}
use Rattle.cat_table.specs.inside.Nodes.{row_at, node_text, nodes_text}
use Rattle.cat_table.specs.inside.Walking.{AreReached}

-- ---- nodes

-- the nodes of a tree in preorder
abbrev preorder : Tree → List TreeNode
preorder tree.Leaf = node.Leaf ∷ []
preorder tree.Rest = node.Rest ∷ []
preorder (tree.Split a left right) = node.Split a ∷ (preorder left ++ preorder right)

-- those of trees, one behind the other
abbrev preorders : List Tree → List TreeNode
preorders [] = []
preorders (t ∷ ts) = preorder t ++ preorders ts

nodes_are : (ns : List TreeNode) (ts : List Tree) → trees_of ns ≡ Some ts → ns ≡ preorders ts
nodes_are [] ts is = let none : [] ≡ ts = cc in ap preorders none
nodes_are (n ∷ ns) ts is = by n (trees_of ns) refl is (λ us e. nodes_are ns us e)
  where
    by : (m : TreeNode) (o : Option (List Tree)) → trees_of ns ≡ o → node_before m o ≡ Some ts
        → ((us : List Tree) → trees_of ns ≡ Some us → ns ≡ preorders us) → m ∷ ns ≡ preorders ts
    by m None e made more = absurd (cc)
    by node.Leaf (Some us) e made more =
        let first : tree.Leaf ∷ us ≡ ts = cc in
        ap (λ (xs : List TreeNode). node.Leaf ∷ xs) (more us e) ∙ ap preorders first
    by node.Rest (Some us) e made more =
        let first : tree.Rest ∷ us ≡ ts = cc in
        ap (λ (xs : List TreeNode). node.Rest ∷ xs) (more us e) ∙ ap preorders first
    by (node.Split a) (Some []) e made more = absurd (cc)
    by (node.Split a) (Some (l ∷ [])) e made more = absurd (cc)
    by (node.Split a) (Some (l ∷ r ∷ us)) e made more =
        let first : tree.Split a l r ∷ us ≡ ts = cc in
        ap (λ (xs : List TreeNode). node.Split a ∷ xs)
        (more (l ∷ r ∷ us) e ∙ sym (append_assoc (preorder l) (preorder r) (preorders us)))
        ∙ ap preorders first

one_of : (o : Option (List Tree)) (t : Tree) → one_tree o ≡ Some t → o ≡ Some (t ∷ [])
one_of None t is = absurd (cc)
one_of (Some []) t is = absurd (cc)
one_of (Some (u ∷ [])) t is = ap (λ v. Some (v ∷ [])) (let same : u ≡ t = cc in same)
one_of (Some (u ∷ w ∷ us)) t is = absurd (cc)

tree_nodes : (ns : List TreeNode) (t : Tree) → tree_of ns ≡ Some t → ns ≡ preorder t ++ []
tree_nodes ns t is = nodes_are ns (t ∷ []) (one_of (trees_of ns) t is)

-- ---- counts

counted : (t : Tree) (more : List TreeNode) → leaves_among (preorder t ++ more) ≡ leaves t + leaves_among more
counted tree.Leaf more = refl
counted tree.Rest more = refl
counted (tree.Split a l r) more =
    let one = counted l (preorder r ++ more) in
    let other = counted r more in
    let same = ap leaves_among (append_assoc (preorder l) (preorder r) more) in
    omega (arith, one, other, same)

pub leaves_are : (ns : List TreeNode) (t : Tree) → tree_of ns ≡ Some t → leaves_among ns ≡ leaves t
leaves_are ns t is =
    let all = ap leaves_among (tree_nodes ns t is) in
    let one = counted t [] in
    omega (arith, all, one)

-- ---- lines

module _ (ns : Naming) (table : Table) (t : TableTarget) where
  rows_more : (xs ys : List Row)
      → rows_text ns table t (xs ++ ys) ≡ rows_text ns table t xs ++ rows_text ns table t ys
  rows_more [] ys = refl
  rows_more (x ∷ xs) ys =
      ap (λ (text : List ℕ). shown_text ns table t x ++ text) (rows_more xs ys)
      ∙ sym (append_assoc (shown_text ns table t x) (rows_text ns table t xs) (rows_text ns table t ys))

  -- the rows of a tree at the end of a way
  abbrev rows_at : List Answer → Tree → List Row
  rows_at way tree = rows_from table.atoms (reverse way) (led_to table.atoms (everything table.terms) way) tree

  -- the same, one answer further
  further : (way : List Answer) (n : Answer) (tree : Tree)
      → rows_at (n ∷ way) tree
      ≡ rows_from table.atoms (reverse way ++ n ∷ []) (led_to table.atoms (everything table.terms) (n ∷ way)) tree
  further way n tree =
      ap (λ (front : List Answer). rows_from table.atoms front
      (led_to table.atoms (everything table.terms) (n ∷ way)) tree) (reverse-append (n ∷ []) way)

  lines_are : (tree : Tree) (way : List Answer) (more : List TreeNode)
      → nodes_text ns table t way (preorder tree ++ more)
      ≡ rows_text ns table t (rows_at way tree) ++ nodes_text ns table t (turned way) more
  lines_are tree.Leaf way more =
      ap (λ (line : List ℕ). line ++ nodes_text ns table t (turned way) more)
      (sym (append-nil (ended (row_text ns table t (row_at table way)))))
  lines_are tree.Rest way more = refl
  lines_are (tree.Split a l r) way more =
      let one = answered a true in
      let other = answered a false in
      let first = rows_text ns table t (rows_at (one ∷ way) l) in
      let second = rows_text ns table t (rows_at (other ∷ way) r) in
      let rest = nodes_text ns table t (turned way) more in
      ap (nodes_text ns table t (one ∷ way)) (append_assoc (preorder l) (preorder r) more)
      ∙ lines_are l (one ∷ way) (preorder r ++ more)
      ∙ ap (λ (text : List ℕ). first ++ text) (lines_are r (other ∷ way) more)
      ∙ sym (append_assoc first second rest)
      ∙ ap (λ (text : List ℕ). text ++ rest) (sym (rows_more (rows_at (one ∷ way) l) (rows_at (other ∷ way) r))
      ∙ ap (λ (rows : List Row). rows_text ns table t (rows ++ rows_at (other ∷ way) r)) (further way one l)
      ∙ ap (λ (rows : List Row). rows_text ns table t (rows_from table.atoms (reverse way ++ one ∷ [])
      (led_to table.atoms (everything table.terms) (one ∷ way)) l ++ rows)) (further way other r))

  -- the lines of all leaves
  pub all_lines : (nodes : List TreeNode) (tree : Tree) → tree_of nodes ≡ Some tree
      → nodes_text ns table t [] nodes
      ≡ rows_text ns table t (rows_from table.atoms [] (everything table.terms) tree)
  all_lines nodes tree is =
      ap (nodes_text ns table t []) (tree_nodes nodes tree is) ∙ lines_are tree [] []
      ∙ append-nil (rows_text ns table t (rows_at [] tree))

  -- one node further
  pub lines_step_at : (nodes rest : List TreeNode) (n : TreeNode) (way next : List Answer)
      (old new whole : List ℕ) → nodes ≡ n ∷ rest → next ≡ passed n way → new ≡ old ++ node_text ns table t way n
      → old ++ nodes_text ns table t way nodes ≡ whole → new ++ nodes_text ns table t next rest ≡ whole
  lines_step_at nodes rest n way next old new whole is further grown all =
      let line = node_text ns table t way n in
      let more = nodes_text ns table t (passed n way) rest in
      ap (λ (w : List Answer). new ++ nodes_text ns table t w rest) further
      ∙ ap (λ (text : List ℕ). text ++ more) grown
      ∙ append_assoc old line more
      ∙ sym (ap (λ (ms : List TreeNode). old ++ nodes_text ns table t way ms) is) ∙ all

-- the same, where there is a target
pub lines_step : (ns : Naming) (table : Table) (o : Option TableTarget) (nodes : List TreeNode) (i : ℕ) (n : TreeNode)
    (way next : List Answer) (old new start : List ℕ) → drop i nodes ≡ n ∷ drop (i + 1) nodes → next ≡ passed n way
    → IfSome o (λ t. new ≡ old ++ node_text ns table t way n)
    → IfSome o (λ t. old ++ nodes_text ns table t way (drop i nodes) ≡ start ++ nodes_text ns table t [] nodes)
    → IfSome o (λ t. new ++ nodes_text ns table t next (drop (i + 1) nodes) ≡ start ++ nodes_text ns table t [] nodes)
lines_step ns table None nodes i n way next old new start is further grown all = tt
lines_step ns table (Some t) nodes i n way next old new start is further grown all =
    lines_step_at ns table t (drop i nodes) (drop (i + 1) nodes) n way next old new
    (start ++ nodes_text ns table t [] nodes) is further grown all

-- where no node is left, all lines are written
pub lines_end : (ns : Naming) (table : Table) (o : Option TableTarget) (nodes rest : List TreeNode) (way : List Answer)
    (text start : List ℕ) → rest ≡ []
    → IfSome o (λ t. text ++ nodes_text ns table t way rest ≡ start ++ nodes_text ns table t [] nodes)
    → IfSome o (λ t. text ≡ start ++ nodes_text ns table t [] nodes)
lines_end ns table None nodes rest way text start none all = tt
lines_end ns table (Some t) nodes rest way text start none all =
    sym (append-nil text) ∙ ap (λ (ms : List TreeNode). text ++ nodes_text ns table t way ms) (sym none) ∙ all

-- the ways from there on ask no other atoms
pub asked_step : (bound : ℕ) (nodes : List TreeNode) (i : ℕ) (n : TreeNode) (way next : List Answer)
    → drop i nodes ≡ n ∷ drop (i + 1) nodes → next ≡ passed n way
    → ((k : ℕ) → IsTrue (ask_below bound (way_from way (take k (drop i nodes)))))
    → (k : ℕ) → IsTrue (ask_below bound (way_from next (take k (drop (i + 1) nodes))))
asked_step bound nodes i n way next is further asked k =
    subst (λ (w : List Answer). IsTrue (ask_below bound (way_from w (take k (drop (i + 1) nodes))))) (sym further)
    (subst (λ (ms : List TreeNode). IsTrue (ask_below bound (way_from way (take (suc k) ms)))) is (asked (suc k)))

-- ---- regions

some_above : (region : Constraints) (o : Option Atom) (b : Bool) → IsInhabited (with_answer region o b)
    → IsInhabited region
some_above region None b some = some
some_above region (Some atom) b some = some_before region _ some

-- a searched tree has a region that admits something
some_there : (atoms : List Atom) (t : TableTarget) (region : Constraints) (tree : Tree)
    → IsSearched atoms t region tree → IsInhabited region
some_there atoms t region tree.Leaf searched = searched.0
some_there atoms t region tree.Rest searched = searched
some_there atoms t region (tree.Split a l r) searched =
    some_above region _ true (some_there atoms t (answering atoms region a true) l searched.1)

-- and so has each of its nodes, and the way comes to its end at the last one
each_reached : (atoms : List Atom) (t : TableTarget) (base : Constraints) (tree : Tree) (way : List Answer)
    (more : List TreeNode) → IsSearched atoms t (led_to atoms base way) tree → (turned way ≡ [] → more ≡ [])
    → AreReached atoms base (turned way) more → AreReached atoms base way (preorder tree ++ more)
each_reached atoms t base tree.Leaf way more searched last rest = (searched.0, last, rest)
each_reached atoms t base tree.Rest way more searched last rest = (searched, last, rest)
each_reached atoms t base (tree.Split a l r) way more searched last rest =
    let one = answered a true in
    let other = answered a false in (
      some_there atoms t (led_to atoms base way) (tree.Split a l r) searched,
      λ none. absurd (cc (none)),
      subst (AreReached atoms base (one ∷ way)) (sym (append_assoc (preorder l) (preorder r) more))
          (each_reached atoms t base l (one ∷ way) (preorder r ++ more) searched.1 (λ none. absurd (cc (none)))
          (each_reached atoms t base r (other ∷ way) more searched.2 last rest)),
    )

pub all_reached : (atoms : List Atom) (t : TableTarget) (base : Constraints) (nodes : List TreeNode) (tree : Tree)
    → tree_of nodes ≡ Some tree → IsSearched atoms t base tree → AreReached atoms base [] nodes
all_reached atoms t base nodes tree is searched =
    subst (AreReached atoms base []) (sym (tree_nodes nodes tree is))
    (each_reached atoms t base tree [] [] searched (λ none. refl) tt)

-- one node further
pub reached_step : (atoms : List Atom) (base : Constraints) (nodes : List TreeNode) (i : ℕ) (n : TreeNode)
    (way next : List Answer) → drop i nodes ≡ n ∷ drop (i + 1) nodes → next ≡ passed n way
    → AreReached atoms base way (drop i nodes)
    → IsInhabited (led_to atoms base way)
    × (next ≡ [] → drop (i + 1) nodes ≡ [])
    × AreReached atoms base next (drop (i + 1) nodes)
reached_step atoms base nodes i n way next is further reached =
    let all : AreReached atoms base way (n ∷ drop (i + 1) nodes) = subst (AreReached atoms base way) is reached in
    let rest = drop (i + 1) nodes in (
      all.0,
      λ none. all.1 (sym further ∙ none),
      subst (λ (w : List Answer). AreReached atoms base w rest) (sym further) all.2,
    )
