-- What is met behind a place in the lists of a tree with citations.
use Rattle.std.proofs.Common.{◌≡◌, ℕ, zero, suc, ◌+◌, ◌<◌, true, nat_lt, List, [], ◌∷◌, ◌++◌}
use Rattle.std.proofs.Common.{length, drop, Option, Some, None, slice_get, refl, sym, ap, ◌∙◌, subst, arith}
use Rattle.std.proofs.Common.{append_assoc}
use Rattle.std.proofs.Common.{length-append, add-one}
use Rattle.std.proofs.lemmas.Bool.Decides.{nat_tests}
use Rattle.std.proofs.lemmas.Option.{slice_get_within}
use Rattle.cat_guard.specs.declared.tree.CitedNode.{CitedNode}
use Rattle.cat_guard.specs.declared.tree.CitedNode.TheVariants as cited
use Rattle.cat_guard.proofs.Exported.{both_true}
use Rattle.cat_walk.specs.declared.place.NodePlace.{NodePlace}
use Rattle.cat_walk.specs.declared.meeting.Met.{Met}
use Rattle.cat_walk.specs.declared.meeting.Met.TheVariants as met
use Rattle.cat_walk.specs.LeafPlaces.{elements, list_at, node_at}
use Rattle.cat_walk.specs.inside.Meetings.{cites_below, are_earlier, met_from, met_in, met_in_list, met_behind, to_come}
use Rattle.cat_walk.proofs.Lists.{drop-at, drop-past, front-slice_get, last-slice_get, there}

-- ---- what is met in a list doesn't change

longer : {A : Type 0} (xs : List A) (x : A) (j : ℕ) → j < length xs → j < length (xs ++ x ∷ [])
longer xs x j h = omega (arith, length-append xs (x ∷ []), h)

kept : (named : List (List Met)) (more : List (List CitedNode)) (j : ℕ) → j < length named
    → slice_get (met_in named more) j ≡ slice_get named j
kept named [] j h = refl
kept named (nodes ∷ more) j h =
    let here = met_from named (length named) 0 nodes in
    kept (named ++ here ∷ []) more j (longer named here j h) ∙ front-slice_get named (here ∷ []) j h

-- nodes that cite lists below n meet the same wherever these are the same
same_met : (named other : List (List Met)) (n : ℕ) → ((i : ℕ) → i < n → slice_get named i ≡ slice_get other i)
    → (list node : ℕ) (ns : List CitedNode) → cites_below n ns ≡ true
    → met_from named list node ns ≡ met_from other list node ns
same_met named other n same list node [] h = refl
same_met named other n same list node (cited.Leaf ∷ ns) h =
    ap (λ ms. met.Leaf (record { list = list; node = node }) ∷ ms) (same_met named other n same list (suc node) ns h)
same_met named other n same list node (cited.Split a ∷ ns) h =
    ap (λ ms. met.Split a ∷ ms) (same_met named other n same list (suc node) ns h)
same_met named other n same list node (cited.Cite i ∷ ns) h =
    let two = both_true (nat_lt i n) (cites_below n ns) h in
    let below : i < n = grind (arith, nat_tests, two.0) in
    ap (λ o. met.Cite i ∷ elements o ++ met_from named list (suc node) ns) (same i below)
    ∙ ap (λ ms. met.Cite i ∷ elements (slice_get other i) ++ ms) (same_met named other n same list (suc node) ns two.1)

-- what is met in a list is what its nodes meet where all lists are known
pub met_at_list : (named : List (List Met)) (more : List (List CitedNode)) → are_earlier (length named) more ≡ true
    → (i j : ℕ) → i ≡ length named + j → (nodes : List CitedNode) → slice_get more j ≡ Some nodes
    → slice_get (met_in named more) i ≡ Some (met_from (met_in named more) i 0 nodes)
met_at_list named [] h i j at nodes is = absurd (cc)
met_at_list named (first ∷ more) h i zero at nodes is =
    let two = both_true (cites_below (length named) first) (are_earlier (suc (length named)) more) h in
    let here = met_from named (length named) 0 first in
    let next = named ++ here ∷ [] in
    let all = met_in next more in
    let count : length next ≡ suc (length named) = omega (arith, length-append named (here ∷ [])) in
    let place : i ≡ length named = omega (arith, at) in
    let found : slice_get all i ≡ Some here =
    kept next more i (omega (arith, count, place)) ∙ last-slice_get named here i place in
    let known : here ≡ met_from all (length named) 0 first =
    same_met named all (length named)
    (λ k below. sym (kept next more k (omega (arith, count, below)) ∙ front-slice_get named (here ∷ []) k below))
    (length named) 0 first two.0 in
    let same : first ≡ nodes = cc in
    found ∙ ap Some (known ∙ ap (λ k. met_from all k 0 first) (sym place) ∙ ap (λ ns. met_from all i 0 ns) same)
met_at_list named (first ∷ more) h i (suc j) at nodes is =
    let two = both_true (cites_below (length named) first) (are_earlier (suc (length named)) more) h in
    let here = met_from named (length named) 0 first in
    let count : suc (length named) ≡ length (named ++ here ∷ []) =
    omega (arith, length-append named (here ∷ [])) in
    met_at_list (named ++ here ∷ []) more (subst (λ n. are_earlier n more ≡ true) count two.1) i j
    (omega (arith, count, at)) nodes is

-- ---- citations name earlier lists

cite_below : (n : ℕ) (ns : List CitedNode) (k i : ℕ) → cites_below n ns ≡ true → slice_get ns k ≡ Some (cited.Cite i)
    → i < n
cite_below n [] k i h is = absurd (cc)
cite_below n (cited.Leaf ∷ ns) zero i h is = absurd (cc)
cite_below n (cited.Split a ∷ ns) zero i h is = absurd (cc)
cite_below n (cited.Cite j ∷ ns) zero i h is =
    let two = both_true (nat_lt j n) (cites_below n ns) h in
    let same : j ≡ i = cc in
    grind (arith, nat_tests, two.0, same)
cite_below n (cited.Leaf ∷ ns) (suc k) i h is = cite_below n ns k i h is
cite_below n (cited.Split a ∷ ns) (suc k) i h is = cite_below n ns k i h is
cite_below n (cited.Cite j ∷ ns) (suc k) i h is =
    cite_below n ns k i (both_true (nat_lt j n) (cites_below n ns) h).1 is

list_earlier : (n : ℕ) (lists : List (List CitedNode)) (k i : ℕ) → k ≡ n + i → (nodes : List CitedNode)
    → are_earlier n lists ≡ true → slice_get lists i ≡ Some nodes → cites_below k nodes ≡ true
list_earlier n [] k i at nodes h is = absurd (cc)
list_earlier n (first ∷ more) k zero at nodes h is =
    let two = both_true (cites_below n first) (are_earlier (suc n) more) h in
    let same : first ≡ nodes = cc in
    let place : n ≡ k = omega (arith, at) in
    subst (λ m. cites_below m nodes ≡ true) place (subst (λ ns. cites_below n ns ≡ true) same two.0)
list_earlier n (first ∷ more) k (suc i) at nodes h is =
    list_earlier (suc n) more k i (omega (arith, at)) nodes
    (both_true (cites_below n first) (are_earlier (suc n) more) h).1 is

-- ---- what comes next

module _ (lists : List (List CitedNode)) (earlier : are_earlier 0 lists ≡ true) where
  -- a list that is cited somewhere is there
  pub cited_there : (list node i : ℕ) (o : Option (List CitedNode)) → slice_get lists list ≡ o
      → slice_get (elements o) node ≡ Some (cited.Cite i) → i < length lists
  cited_there list node i None at is = absurd (cc)
  cited_there list node i (Some nodes) at is =
      let cites = list_earlier 0 lists list list (omega arith) nodes earlier at in
      let below = cite_below list nodes node i cites is in
      let within = slice_get_within lists list nodes at in
      omega (arith, below, within)

  -- what is met in a list as a whole
  named_met : (i : ℕ) → i < length lists
      → elements (slice_get (met_in [] lists) i) ≡ met_behind lists (record { list = i; node = 0 })
  named_met i within =
      let at = there lists i within in
      let known = met_at_list [] lists earlier i i (omega arith) at.value at.is in
      let all = met_in [] lists in
      ap elements known
      ∙ ap (λ o. met_from all i 0 (drop 0 (elements o))) (sym at.is)

  all : List (List Met)
  all = met_in [] lists

  -- the place of the next node
  abbrev pub behind : NodePlace → NodePlace
  behind place = record { list = place.list; node = place.node + 1 }

  at_node : (place : NodePlace) (n : CitedNode) → node_at lists place ≡ Some n
      → met_behind lists place
      ≡ met_from (met_in [] lists) place.list place.node (n ∷ drop (suc place.node) (list_at lists place.list))
  at_node place n is =
      ap (met_from (met_in [] lists) place.list place.node) (drop-at (list_at lists place.list) place.node n is)

  next_node : (place : NodePlace)
      → met_from (met_in [] lists) place.list (suc place.node) (drop (suc place.node) (list_at lists place.list))
      ≡ met_behind lists (behind place)
  next_node place =
      ap (λ k. met_from (met_in [] lists) place.list k (drop k (list_at lists place.list))) (sym (add-one place.node))

  pub comes_end : (place : NodePlace) (places : List NodePlace) → node_at lists place ≡ None
      → to_come lists (place ∷ places) ≡ met.End ∷ to_come lists places
  comes_end place places is =
      ap (λ ns. met_from (met_in [] lists) place.list place.node ns ++ to_come lists places)
      (drop-past (list_at lists place.list) place.node is)

  pub comes_leaf : (place : NodePlace) (places : List NodePlace) → node_at lists place ≡ Some cited.Leaf
      → to_come lists (place ∷ places) ≡ met.Leaf place ∷ to_come lists (behind place ∷ places)
  comes_leaf place places is =
      ap (λ ms. ms ++ to_come lists places) (at_node place cited.Leaf is)
      ∙ ap (λ ms. met.Leaf place ∷ ms ++ to_come lists places) (next_node place)

  pub comes_split : (place : NodePlace) (places : List NodePlace) (a : ℕ)
      → node_at lists place ≡ Some (cited.Split a)
      → to_come lists (place ∷ places) ≡ met.Split a ∷ to_come lists (behind place ∷ places)
  comes_split place places a is =
      ap (λ ms. ms ++ to_come lists places) (at_node place (cited.Split a) is)
      ∙ ap (λ ms. met.Split a ∷ ms ++ to_come lists places) (next_node place)

  pub comes_cite : (place : NodePlace) (places : List NodePlace) (i : ℕ)
      → node_at lists place ≡ Some (cited.Cite i)
      → to_come lists (place ∷ places)
      ≡ met.Cite i ∷ met_in_list lists i ++ to_come lists (behind place ∷ places)
  comes_cite place places i is =
      ap (λ ms. ms ++ to_come lists places) (at_node place (cited.Cite i) is)
      ∙ ap (λ ms. met.Cite i ∷ met_in_list lists i ++ ms ++ to_come lists places) (next_node place)
      ∙ ap (λ ms. met.Cite i ∷ ms)
      (append_assoc (met_in_list lists i) (met_behind lists (behind place)) (to_come lists places))

  -- what comes in a named tree
  pub comes_in : (places : List NodePlace) (i : ℕ) → i < length lists
      → to_come lists (record { list = i; node = 0 } ∷ places) ≡ met_in_list lists i ++ to_come lists places
  comes_in places i within = ap (λ ms. ms ++ to_come lists places) (sym (named_met i within))
