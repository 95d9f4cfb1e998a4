-- What is met in all makes the tree that a tree with citations stands for, with its leaves.
use Rattle.std.proofs.Common.{◌≡◌, ℕ, zero, suc, ◌+◌, ◌<◌, true, nat_lt, List, [], ◌∷◌, ◌++◌, map}
use Rattle.std.proofs.Common.{length, drop, Option, Some, None, slice_get, refl, sym, ap, ◌∙◌, subst, arith}
use Rattle.std.proofs.Common.{append_assoc}
use Rattle.std.proofs.Common.{length-append, append-nil, option_map}
use Rattle.std.proofs.lemmas.List.{map-append, length-map}
use Rattle.std.proofs.lemmas.Bool.Decides.{nat_tests}
use Rattle.std.proofs.lemmas.Option.{slice_get_within, slice_get-map}
use Rattle.cat_guard.specs.declared.tree.CitedNode.{CitedNode}
use Rattle.cat_guard.specs.declared.tree.CitedNode.TheVariants as cited
use Rattle.cat_guard.specs.declared.tree.CitedTree.{CitedTree}
use Rattle.cat_guard.specs.declared.tree.TreeNode.TheVariants as node
use Rattle.cat_guard.specs.Trees.{Tree, node_before, one_tree, named_before, cited_before, cited_trees_of}
use Rattle.cat_guard.specs.Trees.{cited_tree_of, name_behind, with_named, named_from, main_of, expanded}
use Rattle.cat_guard.specs.Trees as tree
use Rattle.cat_walk.specs.declared.place.NodePlace.{NodePlace}
use Rattle.cat_walk.specs.declared.meeting.Met.{Met}
use Rattle.cat_walk.specs.declared.meeting.Met.TheVariants as met
use Rattle.cat_walk.specs.LeafPlaces.{elements, lists_of, leaves_from, named_leaves, leaf_places}
use Rattle.cat_walk.specs.inside.Meetings.{cites_below, are_earlier, met_from, met_in, met_in_list, start_of, to_come}
use Rattle.cat_walk.specs.inside.Walking.{trees_met, leaves_met}
use Rattle.cat_walk.proofs.Lists.{last-slice_get, there}
use Rattle.cat_walk.proofs.MeetingLemmas.{met_at_list}

-- ---- what makes trees

-- what is met makes a tree, in front of whatever follows
pub record Makes (ms : List Met) (t : Tree) : Type 0 where
  pub before : (more : List Met) (trees : List Tree) → trees_met more ≡ Some trees
      → trees_met (ms ++ more) ≡ Some (t ∷ trees)

-- each makes its tree
abbrev pub AllMake : List (List Met) → List Tree → Type 0
AllMake [] [] = Unit {0}
AllMake [] (t ∷ ts) = ⊥
AllMake (ms ∷ named) [] = ⊥
AllMake (ms ∷ named) (t ∷ ts) = Makes ms t × AllMake named ts

makes_at : (named : List (List Met)) (ts : List Tree) → AllMake named ts → (i : ℕ) (t : Tree)
    → slice_get ts i ≡ Some t → Makes (elements (slice_get named i)) t
makes_at [] [] all i t is = absurd (cc)
makes_at [] (u ∷ ts) all i t is = absurd (all)
makes_at (ms ∷ named) [] all i t is = absurd (all)
makes_at (ms ∷ named) (u ∷ ts) all zero t is =
    let same : u ≡ t = cc in
    subst (Makes ms) same all.0
makes_at (ms ∷ named) (u ∷ ts) all (suc i) t is = makes_at named ts all.1 i t is

one_more : (named : List (List Met)) (ts : List Tree) → AllMake named ts → (ms : List Met) (t : Tree) → Makes ms t
    → AllMake (named ++ ms ∷ []) (ts ++ t ∷ [])
one_more [] [] all ms t makes = (makes, tt)
one_more [] (u ∷ ts) all ms t makes = absurd (all)
one_more (first ∷ named) [] all ms t makes = absurd (all)
one_more (first ∷ named) (u ∷ ts) all ms t makes = (all.0, one_more named ts all.1 ms t makes)

-- what is met makes these trees, in front of some trees, wherever they are there
abbrev Follows : List Tree → Option (List Tree) → Option (List Tree) → Type 0
Follows trees made met = (ts : List Tree) → made ≡ Some ts → met ≡ Some (ts ++ trees)

leaf_follows : (names trees : List Tree) (o m : Option (List Tree)) → Follows trees o m
    → Follows trees (cited_before names cited.Leaf o) (node_before node.Leaf m)
leaf_follows names trees None m h made is = absurd (cc)
leaf_follows names trees (Some rest) m h made is =
    let same : tree.Leaf ∷ rest ≡ made = cc in
    ap (node_before node.Leaf) (h rest refl) ∙ ap (λ us. Some (us ++ trees)) same

split_follows : (names trees : List Tree) (a : ℕ) (o m : Option (List Tree)) → Follows trees o m
    → Follows trees (cited_before names (cited.Split a) o) (node_before (node.Split a) m)
split_follows names trees a None m h made is = absurd (cc)
split_follows names trees a (Some []) m h made is = absurd (cc)
split_follows names trees a (Some (l ∷ [])) m h made is = absurd (cc)
split_follows names trees a (Some (l ∷ r ∷ rest)) m h made is =
    let same : tree.Split a l r ∷ rest ≡ made = cc in
    ap (node_before (node.Split a)) (h (l ∷ r ∷ rest) refl) ∙ ap (λ us. Some (us ++ trees)) same

cite_follows : (named : List (List Met)) (names trees : List Tree) → AllMake named names → (i : ℕ)
    → (o : Option (List Tree)) (back : List Met) → Follows trees o (trees_met back)
    → Follows trees (cited_before names (cited.Cite i) o) (trees_met (elements (slice_get named i) ++ back))
cite_follows named names trees all i None back h made is = absurd (cc)
cite_follows named names trees all i (Some rest) back h made is = by (slice_get names i) refl is
  where
    by : (o : Option Tree) → slice_get names i ≡ o → named_before o rest ≡ Some made
        → trees_met (elements (slice_get named i) ++ back) ≡ Some (made ++ trees)
    by None at is = absurd (cc)
    by (Some t) at is =
        let same : t ∷ rest ≡ made = cc in
        (makes_at named names all i t at).before back (rest ++ trees) (h rest refl)
        ∙ ap (λ us. Some (us ++ trees)) same

-- nodes meet what makes their trees
nodes_follow : (named : List (List Met)) (names trees : List Tree) → AllMake named names → (list : ℕ) (more : List Met)
    → trees_met more ≡ Some trees → (node : ℕ) (ns : List CitedNode)
    → Follows trees (cited_trees_of names ns) (trees_met (met_from named list node ns ++ more))
nodes_follow named names trees all list more then node [] made is =
    let same : [] ≡ made = cc in
    then ∙ ap (λ us. Some (us ++ trees)) same
nodes_follow named names trees all list more then node (cited.Leaf ∷ ns) made is =
    leaf_follows names trees (cited_trees_of names ns) (trees_met (met_from named list (suc node) ns ++ more))
    (nodes_follow named names trees all list more then (suc node) ns) made is
nodes_follow named names trees all list more then node (cited.Split a ∷ ns) made is =
    split_follows names trees a (cited_trees_of names ns) (trees_met (met_from named list (suc node) ns ++ more))
    (nodes_follow named names trees all list more then (suc node) ns) made is
nodes_follow named names trees all list more then node (cited.Cite i ∷ ns) made is =
    ap trees_met (append_assoc (elements (slice_get named i)) (met_from named list (suc node) ns) more)
    ∙ cite_follows named names trees all i (cited_trees_of names ns) (met_from named list (suc node) ns ++ more)
    (nodes_follow named names trees all list more then (suc node) ns) made is

-- a list makes its tree
pub one_alone : (o : Option (List Tree)) (t : Tree) → one_tree o ≡ Some t → o ≡ Some (t ∷ [])
one_alone None t h = absurd (cc)
one_alone (Some []) t h = absurd (cc)
one_alone (Some (u ∷ [])) t h = cc
one_alone (Some (u ∷ w ∷ us)) t h = absurd (cc)

list_makes : (named : List (List Met)) (names : List Tree) → AllMake named names → (list : ℕ) (ns : List CitedNode)
    → (t : Tree) → cited_tree_of names ns ≡ Some t → Makes (met_from named list 0 ns) t
list_makes named names all list ns t is = record {
  before = λ more trees then. nodes_follow named names trees all list more then 0 ns (t ∷ [])
      (one_alone (cited_trees_of names ns) t is);
}

-- ---- all lists of a tree make trees

pub none_named : (lists : List (List CitedNode)) → named_from None lists ≡ None
none_named [] = refl
none_named (nodes ∷ more) = none_named more

-- the first of some lists has a tree, and goes before the others
pub record IsNamed (names : List Tree) (nodes : List CitedNode) (more : List (List CitedNode))
    (out : List Tree) : Type 0 where
  pub tree : Tree
  pub is : cited_tree_of names nodes ≡ Some tree
  pub then : named_from (Some (names ++ tree ∷ [])) more ≡ Some out

pub first_named : (names : List Tree) (nodes : List CitedNode) (more : List (List CitedNode)) (out : List Tree)
    → named_from (Some names) (nodes ∷ more) ≡ Some out → IsNamed names nodes more out
first_named names nodes more out h = by (cited_tree_of names nodes) refl h
  where
    by : (o : Option Tree) → cited_tree_of names nodes ≡ o → named_from (name_behind names o) more ≡ Some out
        → IsNamed names nodes more out
    by None at h = let none = none_named more in absurd (cc)
    by (Some t) at h = record { tree = t; is = at; then = h }

all_make : (named : List (List Met)) (names : List Tree) → AllMake named names → (lists : List (List CitedNode))
    → (out : List Tree) → named_from (Some names) lists ≡ Some out → AllMake (met_in named lists) out
all_make named names all [] out is =
    let same : names ≡ out = cc in
    subst (AllMake named) same all
all_make named names all (nodes ∷ more) out is =
    let first = first_named names nodes more out is in
    let here = met_from named (length named) 0 nodes in
    all_make (named ++ here ∷ []) (names ++ first.tree ∷ [])
    (one_more named names all here first.tree (list_makes named names all (length named) nodes first.tree first.is))
    more out first.then

-- ---- citations name earlier trees

pub rest_there : (names : List Tree) (n : CitedNode) (o : Option (List Tree)) (made : List Tree)
    → cited_before names n o ≡ Some made → (rest : List Tree) × (o ≡ Some rest)
rest_there names n None made h = absurd (cc)
rest_there names n (Some rest) made h = (rest, refl)

pub cited_within : (names : List Tree) (i : ℕ) (o : Option (List Tree)) (made : List Tree)
    → cited_before names (cited.Cite i) o ≡ Some made → i < length names
cited_within names i None made h = absurd (cc)
cited_within names i (Some rest) made h = by (slice_get names i) refl h
  where
    by : (o : Option Tree) → slice_get names i ≡ o → named_before o rest ≡ Some made → i < length names
    by None at h = absurd (cc)
    by (Some t) at h = slice_get_within names i t at

cites_names : (names : List Tree) (ns : List CitedNode) (made : List Tree) → cited_trees_of names ns ≡ Some made
    → cites_below (length names) ns ≡ true
cites_names names [] made h = refl
cites_names names (cited.Leaf ∷ ns) made h =
    let rest = rest_there names cited.Leaf (cited_trees_of names ns) made h in
    cites_names names ns rest.0 rest.1
cites_names names (cited.Split a ∷ ns) made h =
    let rest = rest_there names (cited.Split a) (cited_trees_of names ns) made h in
    cites_names names ns rest.0 rest.1
cites_names names (cited.Cite i ∷ ns) made h =
    let rest = rest_there names (cited.Cite i) (cited_trees_of names ns) made h in
    let below : nat_lt i (length names) ≡ true =
    grind (arith, nat_tests, cited_within names i (cited_trees_of names ns) made h) in
    rw below (cites_names names ns rest.0 rest.1)

earlier_named : (names : List Tree) (lists : List (List CitedNode)) (out : List Tree)
    → named_from (Some names) lists ≡ Some out → are_earlier (length names) lists ≡ true
earlier_named names [] out h = refl
earlier_named names (nodes ∷ more) out h =
    let first = first_named names nodes more out h in
    let here = cites_names names nodes (first.tree ∷ [])
    (one_alone (cited_trees_of names nodes) first.tree first.is) in
    let count : length (names ++ first.tree ∷ []) ≡ suc (length names) =
    omega (arith, length-append names (first.tree ∷ [])) in
    rw here
    (subst (λ n. are_earlier n more ≡ true) count (earlier_named (names ++ first.tree ∷ []) more out first.then))

-- ---- the leaves that are met

pub leaves_met-append : (ms ns : List Met) → leaves_met (ms ++ ns) ≡ leaves_met ms ++ leaves_met ns
leaves_met-append [] ns = refl
leaves_met-append (met.Split a ∷ ms) ns = leaves_met-append ms ns
leaves_met-append (met.Leaf p ∷ ms) ns = ap (λ ps. p ∷ ps) (leaves_met-append ms ns)
leaves_met-append (met.Cite i ∷ ms) ns = leaves_met-append ms ns
leaves_met-append (met.End ∷ ms) ns = leaves_met-append ms ns

elements-map : {A B : Type 0} (f : List A → List B) → f [] ≡ [] → (xs : List (List A)) (i : ℕ)
    → elements (slice_get (map f xs) i) ≡ f (elements (slice_get xs i))
elements-map f none [] i = sym none
elements-map f none (x ∷ xs) zero = refl
elements-map f none (x ∷ xs) (suc i) = elements-map f none xs i

leaves_of_nodes : (named : List (List Met)) (list node : ℕ) (ns : List CitedNode)
    → leaves_met (met_from named list node ns) ≡ leaves_from (map leaves_met named) list node ns
leaves_of_nodes named list node [] = refl
leaves_of_nodes named list node (cited.Leaf ∷ ns) =
    ap (λ ps. record { list = list; node = node } ∷ ps) (leaves_of_nodes named list (suc node) ns)
leaves_of_nodes named list node (cited.Split a ∷ ns) = leaves_of_nodes named list (suc node) ns
leaves_of_nodes named list node (cited.Cite i ∷ ns) =
    leaves_met-append (elements (slice_get named i)) (met_from named list (suc node) ns)
    ∙ ap (λ ps. ps ++ leaves_met (met_from named list (suc node) ns)) (sym (elements-map leaves_met refl named i))
    ∙ ap (λ ps. elements (slice_get (map leaves_met named) i) ++ ps) (leaves_of_nodes named list (suc node) ns)

leaves_of_lists : (named : List (List Met)) (lists : List (List CitedNode))
    → map leaves_met (met_in named lists) ≡ named_leaves (map leaves_met named) lists
leaves_of_lists named [] = refl
leaves_of_lists named (nodes ∷ more) =
    let here = met_from named (length named) 0 nodes in
    let found : map leaves_met (named ++ here ∷ [])
    ≡ map leaves_met named ++ leaves_from (map leaves_met named) (length (map leaves_met named)) 0 nodes ∷ [] =
    map-append leaves_met named (here ∷ [])
    ∙ ap (λ ps. map leaves_met named ++ ps ∷ []) (leaves_of_nodes named (length named) 0 nodes)
    ∙ ap (λ n. map leaves_met named ++ leaves_from (map leaves_met named) n 0 nodes ∷ [])
    (sym (length-map named leaves_met)) in
    leaves_of_lists (named ++ here ∷ []) more ∙ ap (λ all. named_leaves all more) found

named_leaves-last : (named : List (List NodePlace)) (lists : List (List CitedNode)) (nodes : List CitedNode)
    → named_leaves named (lists ++ nodes ∷ [])
    ≡ named_leaves named lists
    ++ leaves_from (named_leaves named lists) (length (named_leaves named lists)) 0 nodes ∷ []
named_leaves-last named [] nodes = refl
named_leaves-last named (first ∷ more) nodes =
    named_leaves-last (named ++ leaves_from named (length named) 0 first ∷ []) more nodes

length-named_leaves : (named : List (List NodePlace)) (lists : List (List CitedNode))
    → length (named_leaves named lists) ≡ length named + length lists
length-named_leaves named [] = omega arith
length-named_leaves named (first ∷ more) =
    let here = leaves_from named (length named) 0 first in
    omega (arith, length-named_leaves (named ++ here ∷ []) more, length-append named (here ∷ []))

-- ---- the whole

named_from-last : (names : Option (List Tree)) (lists : List (List CitedNode)) (nodes : List CitedNode)
    → named_from names (lists ++ nodes ∷ []) ≡ with_named (named_from names lists) nodes
named_from-last names [] nodes = refl
named_from-last names (first ∷ more) nodes = named_from-last (with_named names first) more nodes

length-named_from : (names : List Tree) (lists : List (List CitedNode)) (out : List Tree)
    → named_from (Some names) lists ≡ Some out → length out ≡ length names + length lists
length-named_from names [] out h =
    let same : names ≡ out = cc in
    omega (arith, ap length same)
length-named_from names (nodes ∷ more) out h =
    let first = first_named names nodes more out h in
    omega (
      arith,
      length-named_from (names ++ first.tree ∷ []) more out first.then,
      length-append names (first.tree ∷ []),
    )

-- what is met in a list makes a tree
abbrev pub MakesSome : List Met → Type 0
MakesSome ms = (t : Tree) × Makes ms t

-- a walk through the lists of a tree meets this tree, and in each list a tree
pub record Stands (cited : CitedTree) (t : Tree) : Type 0 where
  pub each : (i : ℕ) → i < length (lists_of cited) → MakesSome (met_in_list (lists_of cited) i)
  pub earlier : are_earlier 0 (lists_of cited) ≡ true
  pub makes : trees_met (to_come (lists_of cited) (start_of cited ∷ [])) ≡ Some (t ∷ [])
  pub leaves : leaves_met (to_come (lists_of cited) (start_of cited ∷ [])) ≡ leaf_places cited

module _ (c : CitedTree) (t : Tree) (names : List Tree) (named : named_from (Some []) c.names ≡ Some names)
    (is : cited_tree_of names c.main ≡ Some t) where
  count : length names ≡ length c.names
  count = omega (arith, length-named_from [] c.names names named)

  whole : named_from (Some []) (lists_of c) ≡ Some (names ++ t ∷ [])
  whole =
      named_from-last (Some []) c.names c.main ∙ ap (λ o. with_named o c.main) named ∙ ap (name_behind names) is

  early : are_earlier 0 (lists_of c) ≡ true
  early = earlier_named [] (lists_of c) (names ++ t ∷ []) whole

  abbrev all_met : List (List Met)
  all_met = met_in [] (lists_of c)

  -- what is met in the last list
  abbrev last_met : List Met
  last_met = met_from all_met (length c.names) 0 c.main

  last_at : slice_get all_met (length c.names) ≡ Some last_met
  last_at =
      met_at_list [] (lists_of c) early (length c.names) (length c.names) (omega arith) c.main
      (last-slice_get c.names c.main (length c.names) refl)

  all_come : to_come (lists_of c) (start_of c ∷ []) ≡ last_met ++ []
  all_come =
      ap (λ o. met_from all_met (length c.names) 0 (drop 0 (elements o)) ++ [])
      (last-slice_get c.names c.main (length c.names) refl)

  last_makes : Makes last_met t
  last_makes =
      subst (λ o. Makes (elements o) t) last_at
      (makes_at all_met (names ++ t ∷ []) (all_make [] [] tt (lists_of c) (names ++ t ∷ []) whole) (length c.names) t
      (last-slice_get names t (length c.names) (sym count)))

  last_leaves : leaves_met last_met ≡ leaf_places c
  last_leaves =
      let by_met : slice_get (map leaves_met all_met) (length c.names) ≡ Some (leaves_met last_met) =
      slice_get-map leaves_met all_met (length c.names) ∙ ap (option_map leaves_met) last_at in
      let front = named_leaves [] c.names in
      let length_front : length front ≡ length c.names = omega (arith, length-named_leaves [] c.names) in
      let by_lists : slice_get (map leaves_met all_met) (length c.names)
      ≡ Some (leaves_from front (length c.names) 0 c.main) =
      ap (λ xs. slice_get xs (length c.names)) (leaves_of_lists [] (lists_of c) ∙ named_leaves-last [] c.names c.main)
      ∙ last-slice_get front (leaves_from front (length front) 0 c.main) (length c.names) (sym length_front)
      ∙ ap (λ n. Some (leaves_from front n 0 c.main)) length_front in
      cc

  each_makes : (i : ℕ) → i < length (lists_of c) → MakesSome (met_in_list (lists_of c) i)
  each_makes i within =
      let all = all_make [] [] tt (lists_of c) (names ++ t ∷ []) whole in
      let long = length-named_from [] (lists_of c) (names ++ t ∷ []) whole in
      let one = there (names ++ t ∷ []) i (omega (arith, within, long)) in
      (one.value, makes_at all_met (names ++ t ∷ []) all i one.value one.is)

  stands_of : Stands c t
  stands_of = record {
    each = each_makes;
    earlier = early;
    makes = ap trees_met all_come ∙ last_makes.before [] [] refl;
    leaves = ap leaves_met all_come ∙ leaves_met-append last_met [] ∙ append-nil (leaves_met last_met) ∙ last_leaves;
  }

pub stands : (c : CitedTree) (t : Tree) → expanded c ≡ Some t → Stands c t
stands c t h = by (named_from (Some []) c.names) refl h
  where
    by : (o : Option (List Tree)) → named_from (Some []) c.names ≡ o → main_of o c.main ≡ Some t → Stands c t
    by None at h = absurd (cc)
    by (Some names) at h = stands_of c t names at h
