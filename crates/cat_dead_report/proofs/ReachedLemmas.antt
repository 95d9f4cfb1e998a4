-- The judged leaves of a searched tree, by the ways that lead to them.
use Rattle.std.proofs.Common.{◌≡◌, inl, inr, ℕ, suc, ◌+◌, Bool, true, false, ◌&&◌, ◌||◌, not, IsTrue}
use Rattle.std.proofs.Common.{List, []}
use Rattle.std.proofs.Common.{◌∷◌, ◌++◌, map, length, Some, refl, sym, ap, ◌∙◌, subst}
use Rattle.std.proofs.Common.{arith}
use Rattle.std.proofs.Common.{append_assoc, append-nil, true≢false}
use Rattle.std.specs.List.{list_any}
use Rattle.std.proofs.lemmas.List.{map-append, length-append, length-map}
use Rattle.std.proofs.lemmas.List.Folds.{list_any-append}
use Rattle.cat_region.specs.Decided.{admits_none}
use Rattle.cat_region.specs.Regions.{Constraints, IsRegion, IsInhabited}
use Rattle.cat_scope.specs.Names.{AllHave, IsOneOf}
use Rattle.cat_guard.specs.declared.table.Atom.{Atom}
use Rattle.cat_guard.specs.declared.table.Table.{Table}
use Rattle.cat_guard.specs.declared.table.TableTarget.{TableTarget}
use Rattle.cat_guard.specs.declared.table.Term.{Term}
use Rattle.cat_guard.specs.declared.tree.TreeNode.{TreeNode}
use Rattle.cat_guard.specs.declared.tree.TreeNode.TheVariants as node
use Rattle.cat_guard.specs.Judged.{judged_in}
use Rattle.cat_guard.specs.Soundness.{is_sound}
use Rattle.cat_guard.specs.Trees.{Tree, answering, trees_of, tree_of}
use Rattle.cat_guard.specs.Trees as tree
use Rattle.cat_guard.specs.Valuations.{dims_of}
use Rattle.cat_guard.specs.Verdicts.{Verdict, Holds, Empty, Conflict, Open}
use Rattle.cat_walk.specs.Coverage.{leaf_regions}
use Rattle.cat_cert.specs.Uncovered.{regions_of}
use Rattle.cat_walk.proofs.WalkLemmas.{leaf_there}
use Rattle.cat_walk.proofs.SplitLemmas.{split_there}
use Rattle.cat_search.specs.Searched.{everything, Reached, leaves_from, size, is_known, IsSearched}
use Rattle.cat_search.specs.OnWays.{AreOnWays}
use Rattle.cat_dead.specs.declared.judged.JudgedLeaf.{JudgedLeaf}
use Rattle.cat_dead.specs.declared.judged.LeafJudgement.{LeafJudgement}
use Rattle.cat_sound.proofs.Exported.{all_more}
use Rattle.cat_audit.proofs.SearchedLemmas.{IsLeafRegion, tree_good}
use Rattle.cat_dead_report.specs.Causes.{leaves_of}
use Rattle.cat_dead.specs.Winners.{is_open, is_open_in}
use Rattle.cat_dead_report.specs.inside.WonLeaves.{way_of, led, AreJudgedLeaves}
use Rattle.cat_dead.specs.Leaves.{judged_at, leaf_nodes, leaves_at, leaves_judged}
use Rattle.cat_dead.proofs.Exported.{some_same}
use Rattle.cat_dead.proofs.Exported.{rest_there, one_there}

-- ---- leaves by their places

abbrev places_from : ℕ → Tree → List ℕ
places_from place tree.Leaf = place ∷ []
places_from place tree.Rest = []
places_from place (tree.Split a left right) =
    places_from (place + 1) left ++ places_from (place + 1 + size left) right

abbrev places_along : ℕ → List Tree → List ℕ
places_along place [] = []
places_along place (w ∷ ws) = places_from place w ++ places_along (place + size w) ws

nodes_places : (nodes : List TreeNode) (ws : List Tree) (place : ℕ) → trees_of nodes ≡ Some ws
    → leaf_nodes place nodes ≡ places_along place ws
nodes_places [] ws place h = ap (places_along place) (some_same [] ws h)
nodes_places (node.Leaf ∷ ns) ws place h =
    let there = leaf_there (trees_of ns) ws h in
    ap (λ ps. place ∷ ps) (nodes_places ns there.rest (place + 1) there.is)
    ∙ sym (ap (places_along place) there.same)
nodes_places (node.Rest ∷ ns) ws place h =
    let there = rest_there (trees_of ns) ws h in
    nodes_places ns there.rest (place + 1) there.is ∙ sym (ap (places_along place) there.same)
nodes_places (node.Split a ∷ ns) ws place h =
    let there = split_there a (trees_of ns) ws h in
    let one = places_from (place + 1) there.left in
    let other = places_from (place + 1 + size there.left) there.right in
    let behind : place + 1 + size there.left + size there.right ≡ place + (1 + (size there.left + size there.right)) =
    omega arith in
    nodes_places ns (there.left ∷ there.right ∷ there.rest) (place + 1) there.is
    ∙ ap (λ k. one ++ (other ++ places_along k there.rest)) behind
    ∙ sym (append_assoc one other
    (places_along (place + (1 + (size there.left + size there.right))) there.rest))
    ∙ sym (ap (places_along place) there.same)

leaves_front : (ps qs : List ℕ) (js ks : List LeafJudgement) → length ps ≡ length js
    → leaves_at (ps ++ qs) (js ++ ks) ≡ leaves_at ps js ++ leaves_at qs ks
leaves_front [] qs [] ks same = refl
leaves_front [] qs (j ∷ js) ks same = absurd (omega (arith, same))
leaves_front (p ∷ ps) qs [] ks same = absurd (omega (arith, same))
leaves_front (p ∷ ps) qs (j ∷ js) ks same =
    ap (λ ls. record { node = p; judged = j } ∷ ls) (leaves_front ps qs js ks (omega (arith, same)))

module _ (atoms : List Atom) (t : TableTarget) where
  -- a leaf as it is judged
  abbrev pub judged_leaf : Reached → JudgedLeaf
  judged_leaf r = record { node = r.leaf; judged = judged_at atoms t r.region }

  abbrev Judged : List Constraints → List LeafJudgement
  Judged regions = map (judged_at atoms t) regions

  as_many : (place : ℕ) (base : Constraints) (w : Tree)
      → length (places_from place w) ≡ length (leaf_regions atoms base w)
  as_many place base tree.Leaf = refl
  as_many place base tree.Rest = refl
  as_many place base (tree.Split a left right) =
      let one = as_many (place + 1) (answering atoms base a true) left in
      let other = as_many (place + 1 + size left) (answering atoms base a false) right in
      let mine = length-append (places_from (place + 1) left) (places_from (place + 1 + size left) right) in
      let all = length-append (leaf_regions atoms (answering atoms base a true) left)
      (leaf_regions atoms (answering atoms base a false) right) in
      omega (arith, one, other, mine, all)

  tree_leaves : (place : ℕ) (base : Constraints) (w : Tree)
      → leaves_at (places_from place w) (Judged (leaf_regions atoms base w))
      ≡ map judged_leaf (leaves_from atoms place base w)
  tree_leaves place base tree.Leaf = refl
  tree_leaves place base tree.Rest = refl
  tree_leaves place base (tree.Split a left right) =
      let yes = leaf_regions atoms (answering atoms base a true) left in
      let no_ = leaf_regions atoms (answering atoms base a false) right in
      let here = places_from (place + 1) left in
      let there = places_from (place + 1 + size left) right in
      let one = leaves_from atoms (place + 1) (answering atoms base a true) left in
      let other = leaves_from atoms (place + 1 + size left) (answering atoms base a false) right in
      ap (leaves_at (here ++ there)) (map-append (judged_at atoms t) yes no_)
      ∙ leaves_front here there (Judged yes) (Judged no_)
      (as_many (place + 1) (answering atoms base a true) left ∙ sym (length-map yes (judged_at atoms t)))
      ∙ ap (λ ls. ls ++ leaves_at there (Judged no_))
      (tree_leaves (place + 1) (answering atoms base a true) left)
      ∙ ap (λ ls. map judged_leaf one ++ ls)
      (tree_leaves (place + 1 + size left) (answering atoms base a false) right)
      ∙ sym (map-append judged_leaf one other)

  -- the judged leaves of the tree that nodes are
  pub reached_are : (base : Constraints) (nodes : List TreeNode) (w : Tree) → tree_of nodes ≡ Some w
      → leaves_judged atoms t base nodes ≡ map judged_leaf (leaves_from atoms 0 base w)
  reached_are base nodes w is =
      ap (λ o. leaves_at (leaf_nodes 0 nodes) (Judged (regions_of atoms base o))) is
      ∙ ap (λ ps. leaves_at ps (Judged (leaf_regions atoms base w)))
      (nodes_places nodes (w ∷ []) 0 (one_there (trees_of nodes) w is) ∙ append-nil (places_from 0 w))
      ∙ tree_leaves 0 base w

  -- ---- their regions

  pub regions_reached : (place : ℕ) (base : Constraints) (w : Tree)
      → leaf_regions atoms base w ≡ map (λ (r : Reached). r.region) (leaves_from atoms place base w)
  regions_reached place base tree.Leaf = refl
  regions_reached place base tree.Rest = refl
  regions_reached place base (tree.Split a left right) =
      let yes = answering atoms base a true in
      let no_ = answering atoms base a false in
      let one = leaves_from atoms (place + 1) yes left in
      let other = leaves_from atoms (place + 1 + size left) no_ right in
      ap (λ rs. rs ++ leaf_regions atoms no_ right) (regions_reached (place + 1) yes left)
      ∙ ap (λ rs. map (λ (r : Reached). r.region) one ++ rs) (regions_reached (place + 1 + size left) no_ right)
      ∙ sym (map-append (λ (r : Reached). r.region) one other)

-- each is one of them
further : (r : Constraints) (rs : List Constraints) (ls : List Reached) → AllHave (λ l. IsOneOf l.region rs) ls
    → AllHave (λ l. IsOneOf l.region (r ∷ rs)) ls
further r rs [] all = tt
further r rs (l ∷ ls) all = (inr all.0, further r rs ls all.1)

members : (ls : List Reached) → AllHave (λ l. IsOneOf l.region (map (λ (r : Reached). r.region) ls)) ls
members [] = tt
members (l ∷ ls) = (inl refl, further l.region (map (λ (r : Reached). r.region) ls) ls (members ls))

-- ---- the leaves of a searched tree

-- a region of a table that admits something
pub record IsGood (terms : List Term) (region : Constraints) : Type 0 where
  pub region_is : IsRegion region
  pub dims : region.dims ≡ dims_of terms
  pub inhabited : IsInhabited region

module _ (terms : List Term) (atoms : List Atom) (targets : List TableTarget)
    (sound : IsTrue (is_sound terms atoms targets)) (t : TableTarget) where
  leaves_good : (w : Tree) → IsSearched atoms t (everything terms) w
      → AllHave (λ l. IsGood terms l.region) (leaves_from atoms 0 (everything terms) w)
  leaves_good w searched =
      all_more (λ l. IsLeafRegion terms atoms t l.region) (λ l. IsGood terms l.region)
      (leaves_from atoms 0 (everything terms) w) (tree_good terms atoms targets sound t w searched)
      (λ l h. record { region_is = h.region_is; dims = h.dims; inhabited = h.inhabited })

  -- none of them is open
  known_closed : (v : Verdict) → IsTrue (is_known v) → is_open v ≡ false
  known_closed (Holds d) known = refl
  known_closed Empty known = refl
  known_closed Conflict known = refl
  known_closed Open known = absurd (true≢false (sym known))

  closed_in : (region : Constraints) → IsTrue (is_known (judged_in atoms region t)) → is_open_in atoms t region ≡ false
  closed_in region known = by (admits_none region)
    where
      by : (b : Bool) → (not b && is_open (judged_in atoms region t)) ≡ false
      by true = refl
      by false = known_closed (judged_in atoms region t) known

  pub none_open : (region : Constraints) (w : Tree) → IsSearched atoms t region w
      → list_any (is_open_in atoms t) (leaf_regions atoms region w) ≡ false
  none_open region tree.Leaf searched = ap (λ b. b || false) (closed_in region searched.1)
  none_open region tree.Rest searched = refl
  none_open region (tree.Split a left right) searched =
      list_any-append (is_open_in atoms t) (leaf_regions atoms (answering atoms region a true) left)
      (leaf_regions atoms (answering atoms region a false) right)
      ∙ ap (λ b. b || list_any (is_open_in atoms t) (leaf_regions atoms (answering atoms region a false) right))
      (none_open (answering atoms region a true) left searched.1)
      ∙ none_open (answering atoms region a false) right searched.2

module _ (table : Table) (t : TableTarget) (nodes : List TreeNode) where
  judged_along : (from : ℕ) (ls : List Reached) → AreOnWays table.atoms (everything table.terms) nodes from ls
      → AllHave (λ l. IsOneOf l.region (leaves_of table nodes)) ls → AllHave (λ l. IsGood table.terms l.region) ls
      → AreJudgedLeaves table t nodes from (map (judged_leaf table.atoms t) ls)
  judged_along from [] on among good = tt
  judged_along from (l ∷ ls) on among good =
      let same : l.region ≡ led table (way_of nodes (judged_leaf table.atoms t l)) = on.1.region_is in (
        on.0,
        record {
          within = on.1.within;
          leaf = subst (λ r. IsOneOf r (leaves_of table nodes)) same among.0;
          judged = ap (judged_at table.atoms t) same;
          region_is = subst IsRegion same good.0.region_is;
          dims = subst (λ (r : Constraints). r.dims ≡ dims_of table.terms) same good.0.dims;
          inhabited = subst IsInhabited same good.0.inhabited;
        },
        judged_along (suc l.leaf) ls on.2 among.1 good.1,
      )

  -- where the leaves are reached
  pub on_ways : (from : ℕ) (ls : List Reached) → AreOnWays table.atoms (everything table.terms) nodes from ls
      → AllHave (λ (r : Reached). r.region ≡ led table (way_of nodes (judged_leaf table.atoms t r))) ls
  on_ways from [] on = tt
  on_ways from (l ∷ ls) on = (on.1.region_is, on_ways (suc l.leaf) ls on.2)

  pub judged_leaves_are : IsTrue (is_sound table.terms table.atoms table.targets) → (w : Tree)
      → tree_of nodes ≡ Some w → IsSearched table.atoms t (everything table.terms) w
      → AreOnWays table.atoms (everything table.terms) nodes 0 (leaves_from table.atoms 0 (everything table.terms) w)
      → AreJudgedLeaves table t nodes 0 (leaves_judged table.atoms t (everything table.terms) nodes)
  judged_leaves_are sound w is searched on =
      let ls = leaves_from table.atoms 0 (everything table.terms) w in
      let regions : leaves_of table nodes ≡ map (λ (r : Reached). r.region) ls =
      ap (regions_of table.atoms (everything table.terms)) is
      ∙ regions_reached table.atoms t 0 (everything table.terms) w in
      subst (AreJudgedLeaves table t nodes 0) (sym (reached_are table.atoms t (everything table.terms) nodes w is))
      (judged_along 0 ls on
      (subst (λ rs. AllHave (λ (l : Reached). IsOneOf l.region rs) ls) (sym regions) (members ls))
      (leaves_good table.terms table.atoms table.targets sound t w searched))
