-- The trees of a certificate in which nothing is cited.
use Rattle.std.proofs.Common.{◌≡◌, ℕ, ◌+◌, ◌<◌, ◌≤◌, List, [], ◌∷◌, ◌++◌, map, length, Option, Some, None}
use Rattle.std.proofs.Common.{refl, sym, ap, ◌∙◌, subst, arith, add-one, true, false}
use Rattle.std.proofs.lemmas.List.{length-append, length-map}
use Rattle.cat_region.specs.Regions.{Constraints}
use Rattle.cat_scope.specs.Names.{AllHave}
use Rattle.cat_guard.specs.declared.table.Atom.{Atom}
use Rattle.cat_guard.specs.declared.table.TableTarget.{TableTarget}
use Rattle.cat_guard.specs.declared.tree.CitedNode.{CitedNode}
use Rattle.cat_guard.specs.declared.tree.CitedNode.TheVariants as cited
use Rattle.cat_guard.specs.declared.tree.TreeNode.{TreeNode}
use Rattle.cat_guard.specs.declared.tree.TreeNode.TheVariants as node
use Rattle.cat_guard.specs.Trees.{Tree, node_before, trees_of, one_tree, tree_of, cited_before, cited_trees_of}
use Rattle.cat_guard.specs.Trees.{expanded}
use Rattle.cat_guard.specs.Trees.{named_from, main_of, answering}
use Rattle.cat_guard.specs.Trees as tree
use Rattle.cat_walk.specs.Coverage.{leaf_regions}
use Rattle.cat_walk.specs.LeafPlaces.{leaves_from, leaf_places, named_leaves, lists_of}
use Rattle.cat_walk.specs.Walkable.{IsWalkable}
use Rattle.cat_walk.proofs.WalkLemmas.{leaf_there}
use Rattle.cat_walk.proofs.SplitLemmas.{split_there}
use Rattle.cat_cert.specs.declared.certificate.CertTree.{CertTree}
use Rattle.cat_cert.specs.ReadTrees.{AreWithin}
use Rattle.cat_cert.specs.Uncovered.{lines_passing, regions_of}
use Rattle.cat_cert.specs.inside.Checkable.{last_line}
use Rattle.cat_dead.specs.declared.judged.JudgedLeaf.{JudgedLeaf}
use Rattle.cat_dead.specs.declared.judged.LeafJudgement.{LeafJudgement}
use Rattle.cat_dead.specs.Winners.{is_open_in, tree_open, IsKnown, tree_winners, winners_in}
use Rattle.cat_dead.specs.Leaves.{judged_at, leaf_nodes, leaves_at, leaves_judged}
use Rattle.cat_dead.specs.inside.Plain.{plain_node}
use Rattle.cat_dead.specs.inside.Told.{opened, winners_among, HaveLines}
use Rattle.cat_dead.proofs.HeldLaws.{some_same}
use Rattle.cat_dead.proofs.LeafLemmas.{in_main, winners_are, none_open, lines_are}
use Rattle.cat_dead.proofs.StepLemmas.{rest_there, one_there}

-- ---- the same trees

same_node : (n : CitedNode) (trees : List Tree) (ws : List Tree) → cited_before [] n (Some trees) ≡ Some ws
    → node_before (plain_node n) (Some trees) ≡ Some ws
same_node cited.Leaf trees ws h = h
same_node (cited.Split a) trees ws h = h
same_node (cited.Cite i) trees ws h = absurd (cc)

plain_trees : (nodes : List CitedNode) (ws : List Tree) → cited_trees_of [] nodes ≡ Some ws
    → trees_of (map plain_node nodes) ≡ Some ws
plain_trees [] ws h = h
plain_trees (n ∷ ns) ws h = by (cited_trees_of [] ns) refl h (λ trees at. plain_trees ns trees at)
  where
    by : (o : Option (List Tree)) → cited_trees_of [] ns ≡ o → cited_before [] n o ≡ Some ws
        → ((trees : List Tree) → cited_trees_of [] ns ≡ Some trees → trees_of (map plain_node ns) ≡ Some trees)
        → trees_of (map plain_node (n ∷ ns)) ≡ Some ws
    by None at h more = absurd (cc)
    by (Some trees) at h more = ap (node_before (plain_node n)) (more trees at) ∙ same_node n trees ws h

-- the tree of a list, where nothing is named
alone : (names : List (List CitedNode)) (main : List CitedNode) → names ≡ []
    → expanded (record { names = names; main = main }) ≡ one_tree (cited_trees_of [] main)
alone names main none = ap (λ ns. main_of (named_from (Some []) ns) main) none

-- the nodes are that tree, and no other
plain_one : (c : CertTree) → c.tree.names ≡ [] → (w : Tree) → expanded c.tree ≡ Some w
    → trees_of (map plain_node c.tree.main) ≡ Some (w ∷ [])
plain_one c none w is =
    plain_trees c.tree.main (w ∷ [])
    (one_there (cited_trees_of [] c.tree.main) w (sym (alone c.tree.names c.tree.main none) ∙ is))

pub plain_walkable : (c : CertTree) → c.tree.names ≡ [] → (atoms room : ℕ) → IsWalkable atoms room (expanded c.tree)
    → IsWalkable atoms room (tree_of (map plain_node c.tree.main))
plain_walkable c none atoms room walkable = by (expanded c.tree) refl walkable
  where
    by : (o : Option Tree) → expanded c.tree ≡ o → IsWalkable atoms room o
        → IsWalkable atoms room (tree_of (map plain_node c.tree.main))
    by None at walkable = absurd (walkable)
    by (Some w) at walkable = subst (IsWalkable atoms room) (sym (ap one_tree (plain_one c none w at))) walkable

-- ---- where leaves are written

places_are : (nodes : List CitedNode) (place : ℕ)
    → leaves_from [] 0 place nodes ≡ map in_main (leaf_nodes place (map plain_node nodes))
places_are [] place = refl
places_are (cited.Leaf ∷ ns) place =
    ap (λ ps. in_main place ∷ ps) (ap (λ k. leaves_from [] 0 k ns) (sym (add-one place)) ∙ places_are ns (place + 1))
places_are (cited.Split a ∷ ns) place =
    ap (λ k. leaves_from [] 0 k ns) (sym (add-one place)) ∙ places_are ns (place + 1)
places_are (cited.Cite i ∷ ns) place =
    ap (λ k. leaves_from [] 0 k ns) (sym (add-one place)) ∙ places_are ns (place + 1)

-- ---- as many leaves are written as there are

abbrev leaves_along : List Tree → ℕ
leaves_along [] = 0
leaves_along (w ∷ ws) = tree.leaves w + leaves_along ws

pub nodes_count : (nodes : List TreeNode) (ws : List Tree) (place : ℕ) → trees_of nodes ≡ Some ws
    → length (leaf_nodes place nodes) ≡ leaves_along ws
nodes_count [] ws place h = ap leaves_along (some_same [] ws h)
nodes_count (node.Leaf ∷ ns) ws place h =
    let there = leaf_there (trees_of ns) ws h in
    let same : leaves_along ws ≡ 1 + leaves_along there.rest = ap leaves_along there.same in
    let more = nodes_count ns there.rest (place + 1) there.is in
    omega (arith, same, more)
nodes_count (node.Split a ∷ ns) ws place h =
    let there = split_there a (trees_of ns) ws h in
    let same : leaves_along ws ≡ tree.leaves there.left + tree.leaves there.right + leaves_along there.rest =
    ap leaves_along there.same in
    let more : length (leaf_nodes (place + 1) ns)
    ≡ tree.leaves there.left + (tree.leaves there.right + leaves_along there.rest) =
    nodes_count ns (there.left ∷ there.right ∷ there.rest) (place + 1) there.is in
    omega (arith, same, more)
nodes_count (node.Rest ∷ ns) ws place h =
    let there = rest_there (trees_of ns) ws h in
    let same : leaves_along ws ≡ 0 + leaves_along there.rest = ap leaves_along there.same in
    let more = nodes_count ns there.rest (place + 1) there.is in
    omega (arith, same, more)

regions_count : (atoms : List Atom) (region : Constraints) (w : Tree)
    → length (leaf_regions atoms region w) ≡ tree.leaves w
regions_count atoms region tree.Leaf = refl
regions_count atoms region tree.Rest = refl
regions_count atoms region (tree.Split a left right) =
    let one = regions_count atoms (answering atoms region a true) left in
    let other = regions_count atoms (answering atoms region a false) right in
    let all = length-append (leaf_regions atoms (answering atoms region a true) left)
    (leaf_regions atoms (answering atoms region a false) right) in
    omega (arith, one, other, all)

-- ---- leaves stand among the nodes of their tree

leaves_below : (most place : ℕ) (nodes : List TreeNode) (js : List LeafJudgement) → place + length nodes ≤ most
    → AllHave (λ l. l.node < most) (leaves_at (leaf_nodes place nodes) js)
leaves_below most place [] js few = tt
leaves_below most place (node.Leaf ∷ ns) [] few = tt
leaves_below most place (node.Leaf ∷ ns) (j ∷ js) few =
    (omega (arith, few), leaves_below most (place + 1) ns js (omega (arith, few)))
leaves_below most place (node.Rest ∷ ns) js few = leaves_below most (place + 1) ns js (omega (arith, few))
leaves_below most place (node.Split a ∷ ns) js few = leaves_below most (place + 1) ns js (omega (arith, few))

lines_fit : (head most : ℕ) (ls : List JudgedLeaf) → head + most ≤ last_line → AllHave (λ l. l.node < most) ls
    → HaveLines head ls
lines_fit head most [] up all = tt
lines_fit head most (l ∷ ls) up all =
    let one = all.0 in
    (omega (arith, up, one), lines_fit head most ls up all.1)

-- ---- what is told of the tree of a target

module _ (atoms : List Atom) (t : TableTarget) (region : Constraints) (c : CertTree) (head : ℕ)
    (none : c.tree.names ≡ []) (heads : c.heads ≡ head ∷ []) (w : Tree) (is : expanded c.tree ≡ Some w) where
  abbrev pub nodes : List TreeNode
  nodes = map plain_node c.tree.main

  abbrev pub places : List ℕ
  places = leaf_nodes 0 nodes

  abbrev pub regions : List Constraints
  regions = regions_of atoms region (tree_of nodes)

  abbrev pub leaves : List JudgedLeaf
  leaves = leaves_judged atoms t region nodes

  one : tree_of nodes ≡ Some w
  one = ap one_tree (plain_one c none w is)

  same_tree : tree_of nodes ≡ expanded c.tree
  same_tree = one ∙ sym is

  count : length places ≡ length regions
  count =
      let written : length places ≡ tree.leaves w + 0 = nodes_count nodes (w ∷ []) 0 (plain_one c none w is) in
      let all : length regions ≡ tree.leaves w =
      ap (λ o. length (regions_of atoms region o)) one ∙ regions_count atoms region w in
      omega (arith, written, all)

  written : leaf_places c.tree ≡ map in_main places
  written =
      ap (λ ns. leaves_from (named_leaves [] ns) (length ns) 0 c.tree.main) none ∙ places_are c.tree.main 0

  pub open_lines_are : opened head leaves ≡ tree_open atoms region t c
  open_lines_are =
      sym (lines_are atoms t head places regions)
      ∙ ap (λ ps. lines_passing (is_open_in atoms t) (head ∷ []) ps regions) (sym written)
      ∙ ap (λ hs. lines_passing (is_open_in atoms t) hs (leaf_places c.tree) regions) (sym heads)
      ∙ ap (λ o. lines_passing (is_open_in atoms t) c.heads (leaf_places c.tree) (regions_of atoms region o)) same_tree

  pub known : opened head leaves ≡ [] → IsKnown atoms region t (expanded c.tree)
  known no_line = subst (IsKnown atoms region t) same_tree (none_open atoms t head places regions count no_line)

  pub winners : winners_among t leaves ≡ tree_winners atoms region t c
  winners =
      winners_are atoms t places regions count
      ∙ ap (λ o. winners_in atoms t (regions_of atoms region o)) same_tree

  pub fit : AreWithin last_line c.heads (lists_of c.tree) → HaveLines head leaves
  fit within =
      let lists : lists_of c.tree ≡ c.tree.main ∷ [] = ap (λ ns. ns ++ c.tree.main ∷ []) none in
      let both : AreWithin last_line (head ∷ []) (c.tree.main ∷ []) =
      subst (λ hs. AreWithin last_line hs (c.tree.main ∷ [])) heads
      (subst (AreWithin last_line c.heads) lists within) in
      let few : head + length c.tree.main ≤ last_line = both.0 in
      let same = length-map c.tree.main plain_node in
      lines_fit head (length nodes) leaves (omega (arith, few, same))
      (leaves_below (length nodes) 0 nodes (map (judged_at atoms t) regions) (omega arith))
