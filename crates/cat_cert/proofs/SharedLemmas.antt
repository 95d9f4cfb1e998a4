-- Shared trees are trees that a certificate may have, with no more leaves than what they stand for.
use Rattle.std.proofs.Common.{◌≡◌, ℕ, ◌≤◌, Bool, true, false, ◌&&◌, if◌then◌else◌, cond, List, [], ◌∷◌, ◌++◌}
use Rattle.std.proofs.Common.{map, filter, length, Option, None, Some, refl, sym, ap, ◌∙◌, subst, arith, take}
use Rattle.std.specs.List.{list_all}
use Rattle.std.proofs.Math.Seq.{take-length}
use Rattle.std.proofs.lemmas.Bool.Decides.{nat_tests}
use Rattle.std.proofs.lemmas.List.Elements.{All-nil, All-cons, All-head, All-tail, All-append}
use Rattle.cat_scope.specs.Names.{AllHave}
use Rattle.cat_guard.specs.declared.table.Table.{Table}
use Rattle.cat_guard.specs.declared.tree.CitedNode.{CitedNode}
use Rattle.cat_guard.specs.declared.tree.CitedNode.TheVariants as cited
use Rattle.cat_guard.specs.declared.tree.CitedTree.{CitedTree}
use Rattle.cat_guard.specs.Trees.{Tree, leaves, is_whole, cited_tree_of, named_from, main_of, expanded}
use Rattle.cat_guard.specs.Trees as tree
use Rattle.cat_guard.proofs.Exported.{both_true}
use Rattle.cat_walk.specs.LeafPlaces.{lists_of}
use Rattle.cat_walk.specs.Walkable.{splits_pass, nodes_pass}
use Rattle.cat_walk.specs.Sizes.{is_small}
use Rattle.cat_walk.specs.Sharing.{is_among, number_in, subtrees, with_tree, with_all, recurs_in, named_in, cited_or}
use Rattle.cat_walk.specs.Sharing.{written, body, shared}
use Rattle.cat_cert.specs.declared.certificate.Version.{Version}
use Rattle.cat_cert.specs.declared.certificate.Version.TheVariants as version
use Rattle.cat_walk.specs.Sizes.{most_leaves}
use Rattle.cat_cert.specs.Lines.{Due, ScopeDue, TargetDue, dues_of, certificate_lines}
use Rattle.cat_cert.specs.Certified.{is_atom_of, MayName, AreTreesOf, nodes_leaves, widths_from}
use Rattle.cat_cert.specs.Certified.{named_widths, named_leaves, tree_widths, due_widths}
use Rattle.cat_cert.specs.Fronts.{AreSmall, IsCertificate}
use Rattle.cat_cert.specs.Certifiable.{AreCertifiable, shared_tree}
use Rattle.cat_cert.proofs.WidthLemmas.{AreUpTo, AreFew, nodes_leaves-tree, widths_up, widths_total}
use Rattle.cat_cert.proofs.WidthLemmas.{named_leaves-all, named_widths_up, length-due_widths}

-- ---- what subtrees have

have_append : {A : Type 0} (Has : A → Type 0) (xs ys : List A) → AllHave Has xs → AllHave Has ys
    → AllHave Has (xs ++ ys)
have_append Has [] ys one other = other
have_append Has (x ∷ xs) ys one other = (one.0, have_append Has xs ys one.1 other)

have_filter : {A : Type 0} (Has : A → Type 0) (pass : A → Bool) (xs : List A) → AllHave Has xs
    → AllHave Has (filter pass xs)
have_filter Has pass [] all = tt
have_filter Has pass (x ∷ xs) all = by (pass x) (have_filter Has pass xs all.1)
  where
    by : (b : Bool) → AllHave Has (filter pass xs) → AllHave Has (cond b (x ∷ filter pass xs) (filter pass xs))
    by true rest = (all.0, rest)
    by false rest = rest

have_tree : (Has : Tree → Type 0) (known : List Tree) (t : Tree) (b : Bool) → AllHave Has known → Has t
    → AllHave Has (if b then known else known ++ t ∷ [])
have_tree Has known t true all is = all
have_tree Has known t false all is = have_append Has known (t ∷ []) all (is, tt)

have_all : (Has : Tree → Type 0) (known ts : List Tree) → AllHave Has known → AllHave Has ts
    → AllHave Has (with_all known ts)
have_all Has known [] all more = all
have_all Has known (t ∷ ts) all more =
    have_all Has (with_tree known t) ts (have_tree Has known t (is_among known t) all more.0) more.1

-- what a split hands on to its sides
abbrev IsHandedOn : (Tree → Type 0) → Type 0
IsHandedOn Has = (a : ℕ) (l r : Tree) → Has (tree.Split a l r) → Has l × Has r

have_subtrees : (Has : Tree → Type 0) → IsHandedOn Has → (t : Tree) → Has t → AllHave Has (subtrees t)
have_subtrees Has sides tree.Leaf is = tt
have_subtrees Has sides tree.Rest is = tt
have_subtrees Has sides (tree.Split a l r) is =
    let both = sides a l r is in
    have_append Has (subtrees l ++ subtrees r) (tree.Split a l r ∷ [])
    (have_append Has (subtrees l) (subtrees r) (have_subtrees Has sides l both.0) (have_subtrees Has sides r both.1))
    (is, tt)

have_names : (Has : Tree → Type 0) → IsHandedOn Has → (t : Tree) → Has t → AllHave Has (named_in t)
have_names Has sides t is =
    have_filter Has (recurs_in t) (with_all [] (subtrees t))
    (have_all Has [] (subtrees t) tt (have_subtrees Has sides t is))

-- ---- splits of shared trees

nodes_pass-append : (test : ℕ → Bool) (xs ys : List CitedNode) → nodes_pass test xs ≡ true → nodes_pass test ys ≡ true
    → nodes_pass test (xs ++ ys) ≡ true
nodes_pass-append test [] ys one other = other
nodes_pass-append test (cited.Leaf ∷ xs) ys one other = nodes_pass-append test xs ys one other
nodes_pass-append test (cited.Cite i ∷ xs) ys one other = nodes_pass-append test xs ys one other
nodes_pass-append test (cited.Split a ∷ xs) ys one other =
    let both = both_true (test a) (nodes_pass test xs) one in
    rw both.0 (nodes_pass-append test xs ys both.1 other)

passes_cited : (test : ℕ → Bool) (o : Option ℕ) (nodes : List CitedNode) → nodes_pass test nodes ≡ true
    → nodes_pass test (cited_or o nodes) ≡ true
passes_cited test None nodes is = is
passes_cited test (Some i) nodes is = refl

-- a split passes with its sides
abbrev Passes : (ℕ → Bool) → Tree → Type 0
Passes test t = splits_pass test t ≡ true

passing_sides : (test : ℕ → Bool) (a : ℕ) (l r : Tree) → Passes test (tree.Split a l r)
    → (test a ≡ true) × Passes test l × Passes test r
passing_sides test a l r is =
    let two = both_true (test a && splits_pass test l) (splits_pass test r) is in
    let one = both_true (test a) (splits_pass test l) two.0 in
    (one.0, one.1, two.1)

written_pass : (test : ℕ → Bool) (names : List Tree) (t : Tree) → Passes test t
    → nodes_pass test (written names t) ≡ true
written_pass test names tree.Leaf is = refl
written_pass test names tree.Rest is = refl
written_pass test names (tree.Split a l r) is =
    let parts = passing_sides test a l r is in
    passes_cited test (number_in names (tree.Split a l r)) (cited.Split a ∷ written names l ++ written names r)
    (rw parts.0 (nodes_pass-append test (written names l) (written names r) (written_pass test names l parts.1)
    (written_pass test names r parts.2)))

body_pass : (test : ℕ → Bool) (names : List Tree) (t : Tree) → Passes test t → nodes_pass test (body names t) ≡ true
body_pass test names tree.Leaf is = refl
body_pass test names tree.Rest is = refl
body_pass test names (tree.Split a l r) is =
    let parts = passing_sides test a l r is in
    rw parts.0 (nodes_pass-append test (written names l) (written names r) (written_pass test names l parts.1)
    (written_pass test names r parts.2))

lists_pass : (test : ℕ → Bool) (names ts : List Tree) (main : List CitedNode) → AllHave (Passes test) ts
    → nodes_pass test main ≡ true → list_all (nodes_pass test) (map (body names) ts ++ main ∷ []) ≡ true
lists_pass test names [] main all is = rw is refl
lists_pass test names (t ∷ ts) main all is = rw (body_pass test names t all.0) (lists_pass test names ts main all.1 is)

sides_pass : (test : ℕ → Bool) (a : ℕ) (l r : Tree) → Passes test (tree.Split a l r) → Passes test l × Passes test r
sides_pass test a l r is = let parts = passing_sides test a l r is in (parts.1, parts.2)

pub shared_pass : (test : ℕ → Bool) (t : Tree) → Passes test t → list_all (nodes_pass test) (lists_of (shared t)) ≡ true
shared_pass test t is =
    lists_pass test (named_in t) (named_in t) (written (named_in t) t) (have_names (Passes test) (sides_pass test) t is)
    (written_pass test (named_in t) t is)

-- ---- leaves of shared trees

tree_widths_up : (most : ℕ) (c : CitedTree) (all : List Tree) (t : Tree) → named_from (Some []) c.names ≡ Some all
    → AreFew most all → cited_tree_of all c.main ≡ Some t → leaves t ≤ most → AreUpTo most (tree_widths version.Two c)
tree_widths_up most c all t names few main low =
    let named : named_leaves [] c.names ≡ map leaves all = named_leaves-all [] c.names all names in
    let count : nodes_leaves (named_leaves [] c.names) c.main ≡ leaves t =
    ap (λ ns. nodes_leaves ns c.main) named ∙ nodes_leaves-tree all c.main t main in
    let widths = widths_from (named_leaves [] c.names) 0 c.main in
    All-append (λ n. n ≤ most) (named_widths [] c.names) (0 ∷ widths) (named_widths_up most [] c.names all names few)
    (All-cons (λ n. n ≤ most) 0 widths (omega arith)
    (widths_up most (named_leaves [] c.names) 0 c.main (omega (arith, count, low))))

-- the named trees of shared ones are their subtrees
abbrev pub NamesSubtrees : Type 0
NamesSubtrees = (t : Tree) → is_whole t ≡ true → named_from (Some []) (shared t).names ≡ Some (named_in t)

-- and shared trees stand for what was shared
abbrev pub StandForTrees : Type 0
StandForTrees = (t : Tree) → is_whole t ≡ true → expanded (shared t) ≡ Some t

few_sides : (most a : ℕ) (l r : Tree) → leaves (tree.Split a l r) ≤ most → (leaves l ≤ most) × (leaves r ≤ most)
few_sides most a l r low = (omega (arith, low), omega (arith, low))

shared_widths : NamesSubtrees → StandForTrees → (most : ℕ) (t : Tree) → is_whole t ≡ true → leaves t ≤ most
    → AreUpTo most (tree_widths version.Two (shared t))
shared_widths named stands most t whole low =
    let names = named t whole in
    tree_widths_up most (shared t) (named_in t) t names (have_names (λ u. leaves u ≤ most) (few_sides most) t low)
    (subst (λ o. main_of o (shared t).main ≡ Some t) names (stands t whole)) low

-- ---- certificates of shared trees

due_widths_up : (most : ℕ) (v : Version) (dues : List Due) (cs : List CitedTree)
    → AllHave (λ c. AreUpTo most (tree_widths v c)) cs → AreUpTo most (due_widths v dues cs)
due_widths_up most v [] cs all = All-cons (λ n. n ≤ most) 0 [] (omega arith) (All-nil (λ n. n ≤ most))
due_widths_up most v (ScopeDue name ∷ dues) cs all =
    All-cons (λ n. n ≤ most) 0 (due_widths v dues cs) (omega arith) (due_widths_up most v dues cs all)
due_widths_up most v (TargetDue t ∷ dues) [] all = All-nil (λ n. n ≤ most)
due_widths_up most v (TargetDue t ∷ dues) (c ∷ cs) all =
    All-cons (λ n. n ≤ most) 0 (tree_widths v c ++ due_widths v dues cs) (omega arith)
    (All-append (λ n. n ≤ most) (tree_widths v c) (due_widths v dues cs) all.0 (due_widths_up most v dues cs all.1))

widths_certifiable : NamesSubtrees → StandForTrees → (dues : List Due) (found : List (Option Tree))
    → AreCertifiable dues found
    → AllHave (λ c. AreUpTo most_leaves (tree_widths version.Two c)) (map shared_tree found)
widths_certifiable named stands [] [] are = tt
widths_certifiable named stands [] (o ∷ found) are = absurd (are)
widths_certifiable named stands (ScopeDue name ∷ dues) found are = widths_certifiable named stands dues found are
widths_certifiable named stands (TargetDue t ∷ dues) [] are = absurd (are)
widths_certifiable named stands (TargetDue t ∷ dues) (None ∷ found) are = absurd (are.0)
widths_certifiable named stands (TargetDue t ∷ dues) (Some tree ∷ found) are = (
  shared_widths named stands most_leaves tree are.0.whole are.0.few,
  widths_certifiable named stands dues found are.1,
)

trees_certifiable : StandForTrees → (dues : List Due) (found : List (Option Tree)) → AreCertifiable dues found
    → AreTreesOf version.Two dues (map shared_tree found)
trees_certifiable stands [] [] are = tt
trees_certifiable stands [] (o ∷ found) are = absurd (are)
trees_certifiable stands (ScopeDue name ∷ dues) found are = trees_certifiable stands dues found are
trees_certifiable stands (TargetDue t ∷ dues) [] are = absurd (are)
trees_certifiable stands (TargetDue t ∷ dues) (None ∷ found) are = absurd (are.0)
trees_certifiable stands (TargetDue t ∷ dues) (Some tree ∷ found) are = (
  record {
    whole = tree;
    stands = stands tree are.0.whole;
    splits = shared_pass (is_atom_of t) tree are.0.splits;
    names = tt;
  },
  trees_certifiable stands dues found are.1,
)

pub found_again : StandForTrees → (dues : List Due) (found : List (Option Tree)) → AreCertifiable dues found
    → map expanded (map shared_tree found) ≡ found
found_again stands [] [] are = refl
found_again stands [] (o ∷ found) are = absurd (are)
found_again stands (ScopeDue name ∷ dues) found are = found_again stands dues found are
found_again stands (TargetDue t ∷ dues) [] are = absurd (are)
found_again stands (TargetDue t ∷ dues) (None ∷ found) are = absurd (are.0)
found_again stands (TargetDue t ∷ dues) (Some tree ∷ found) are =
    ap (λ o. o ∷ map expanded (map shared_tree found)) (stands tree are.0.whole)
    ∙ ap (λ os. Some tree ∷ os) (found_again stands dues found are.1)

-- as many leaves as lines
certificate_length : (v : Version) (tables : List Table) (cs : List CitedTree)
    → length (certificate_lines v tables cs) ≡ length (0 ∷ due_widths v (dues_of tables) cs)
certificate_length v tables cs = let more = length-due_widths v (dues_of tables) cs in omega (arith, more)

pub small_certificate : (v : Version) (tables : List Table) (cs : List CitedTree)
    → AreUpTo most_leaves (due_widths v (dues_of tables) cs)
    → AreSmall tables (length (certificate_lines v tables cs)) v cs
small_certificate v tables cs up =
    let widths = 0 ∷ due_widths v (dues_of tables) cs in
    let all : take (length (certificate_lines v tables cs)) widths ≡ widths =
    ap (λ n. take n widths) (certificate_length v tables cs) ∙ take-length widths in
    subst (AreUpTo most_leaves) (sym all)
    (All-cons (λ n. n ≤ most_leaves) 0 (due_widths v (dues_of tables) cs) (omega arith) up)

pub certificate_widths : (v : Version) (tables : List Table) (lines : List (List ℕ)) (cs : List CitedTree)
    → IsCertificate tables lines v cs → AreUpTo most_leaves (due_widths v (dues_of tables) cs)
certificate_widths v tables lines cs is =
    let widths = 0 ∷ due_widths v (dues_of tables) cs in
    let all : take (length lines) widths ≡ widths =
    ap (λ n. take n widths) (ap length is.lines_are ∙ certificate_length v tables cs) ∙ take-length widths in
    All-tail (λ n. n ≤ most_leaves) 0 (due_widths v (dues_of tables) cs) (subst (AreUpTo most_leaves) all is.small)

pub shared_certificate : NamesSubtrees → StandForTrees → (tables : List Table) (found : List (Option Tree))
    → AreCertifiable (dues_of tables) found
    → IsCertificate tables (certificate_lines version.Two tables (map shared_tree found)) version.Two
    (map shared_tree found)
shared_certificate named stands tables found are = record {
  trees_are = trees_certifiable stands (dues_of tables) found are;
  lines_are = refl;
  small = small_certificate version.Two tables (map shared_tree found)
      (due_widths_up most_leaves version.Two (dues_of tables) (map shared_tree found)
      (widths_certifiable named stands (dues_of tables) found are));
}

-- ---- trees of certificates have few leaves

up_front : (most : ℕ) (xs ys : List ℕ) → AreUpTo most (xs ++ ys) → AreUpTo most xs
up_front most [] ys up = All-nil (λ n. n ≤ most)
up_front most (x ∷ xs) ys up =
    All-cons (λ n. n ≤ most) x xs (All-head (λ n. n ≤ most) x (xs ++ ys) up)
    (up_front most xs ys (All-tail (λ n. n ≤ most) x (xs ++ ys) up))

up_behind : (most : ℕ) (xs ys : List ℕ) → AreUpTo most (xs ++ ys) → AreUpTo most ys
up_behind most [] ys up = up
up_behind most (x ∷ xs) ys up = up_behind most xs ys (All-tail (λ n. n ≤ most) x (xs ++ ys) up)

bare_few : (most : ℕ) (names : List (List CitedNode)) (main : List CitedNode) (t : Tree) → names ≡ []
    → main_of (named_from (Some []) names) main ≡ Some t → AreUpTo most (widths_from [] 0 main) → leaves t ≤ most
bare_few most names main t none is up =
    let alone : cited_tree_of [] main ≡ Some t =
    subst (λ ns. main_of (named_from (Some []) ns) main ≡ Some t) none is in
    let count : nodes_leaves [] main ≡ leaves t = nodes_leaves-tree [] main t alone in
    let total = widths_total most [] 0 main (omega arith) up in
    omega (arith, count, total)

named_few : (most : ℕ) (names : List (List CitedNode)) (main : List CitedNode) (t : Tree) (o : Option (List Tree))
    → named_from (Some []) names ≡ o → main_of o main ≡ Some t
    → AreUpTo most (widths_from (named_leaves [] names) 0 main) → leaves t ≤ most
named_few most names main t None at is up = absurd (cc)
named_few most names main t (Some all) at is up =
    let count : nodes_leaves (named_leaves [] names) main ≡ leaves t =
    ap (λ ns. nodes_leaves ns main) (named_leaves-all [] names all at) ∙ nodes_leaves-tree all main t is in
    let total = widths_total most (named_leaves [] names) 0 main (omega arith) up in
    omega (arith, count, total)

pub tree_few : (most : ℕ) (v : Version) (c : CitedTree) (t : Tree) → MayName v c.names → expanded c ≡ Some t
    → AreUpTo most (tree_widths v c) → leaves t ≤ most
tree_few most version.One c t none is up = bare_few most c.names c.main t none is up
tree_few most version.Two c t none is up =
    let widths = widths_from (named_leaves [] c.names) 0 c.main in
    named_few most c.names c.main t (named_from (Some []) c.names) refl is
    (All-tail (λ n. n ≤ most) 0 widths (up_behind most (named_widths [] c.names) (0 ∷ widths) up))

small_there : (o : Option Tree) (t : Tree) → o ≡ Some t → leaves t ≤ most_leaves → is_small o ≡ true
small_there o t is few = rw is (grind (arith, nat_tests, few))

trees_small : (v : Version) (dues : List Due) (cs : List CitedTree) → AreTreesOf v dues cs
    → AreUpTo most_leaves (due_widths v dues cs) → AllHave (λ c. is_small (expanded c) ≡ true) cs
trees_small v [] [] are up = tt
trees_small v [] (c ∷ cs) are up = absurd (are)
trees_small v (ScopeDue name ∷ dues) cs are up =
    trees_small v dues cs are (All-tail (λ n. n ≤ most_leaves) 0 (due_widths v dues cs) up)
trees_small v (TargetDue t ∷ dues) [] are up = absurd (are)
trees_small v (TargetDue t ∷ dues) (c ∷ cs) are up =
    let rest = All-tail (λ n. n ≤ most_leaves) 0 (tree_widths v c ++ due_widths v dues cs) up in
    let few = tree_few most_leaves v c are.0.whole are.0.names are.0.stands
    (up_front most_leaves (tree_widths v c) (due_widths v dues cs) rest) in (
      small_there (expanded c) are.0.whole are.0.stands few,
      trees_small v dues cs are.1 (up_behind most_leaves (tree_widths v c) (due_widths v dues cs) rest),
    )

pub certified_small : (v : Version) (tables : List Table) (lines : List (List ℕ)) (cs : List CitedTree)
    → IsCertificate tables lines v cs → AllHave (λ c. is_small (expanded c) ≡ true) cs
certified_small v tables lines cs is =
    trees_small v (dues_of tables) cs is.trees_are (certificate_widths v tables lines cs is)
