-- How many leaves trees have, by the lines in which they are written.
use Rattle.std.proofs.Common.{◌≡◌, ℕ, zero, suc, ◌+◌, ◌≤◌, List, [], ◌∷◌, ◌++◌, map, length, Option, None, Some}
use Rattle.std.proofs.Common.{slice_get}
use Rattle.std.proofs.Common.{unwrap_or, refl, sym, ap, ◌∙◌, subst, arith, append_assoc, append-nil, length-append}
use Rattle.std.specs.List.{All}
use Rattle.std.proofs.lemmas.List.Elements.{All-nil, All-cons, All-head, All-tail, All-append}
use Rattle.cat_scope.specs.Names.{AllHave}
use Rattle.cat_guard.specs.declared.tree.CitedNode.{CitedNode}
use Rattle.cat_guard.specs.declared.tree.CitedNode.TheVariants as cited
use Rattle.cat_guard.specs.declared.tree.CitedTree.{CitedTree}
use Rattle.cat_guard.specs.Trees.{Tree, leaves, one_tree, named_before, cited_before, cited_trees_of, cited_tree_of}
use Rattle.cat_guard.specs.Trees.{name_behind, named_from}
use Rattle.cat_guard.specs.Trees as tree
use Rattle.cat_cert.specs.declared.certificate.Version.{Version}
use Rattle.cat_cert.specs.declared.certificate.Version.TheVariants as version
use Rattle.cat_cert.specs.Lines.{Due, ScopeDue, TargetDue, node_line, named_lines, tree_lines, due_lines}
use Rattle.cat_cert.specs.Certified.{node_leaves, nodes_leaves, widths_from, named_widths}
use Rattle.cat_cert.specs.Certified.{named_leaves, tree_widths, due_widths}

-- ---- nodes have as many leaves as the trees that they are

-- the leaves of trees, one behind the other
abbrev pub all_leaves : List Tree → ℕ
all_leaves [] = 0
all_leaves (t ∷ ts) = leaves t + all_leaves ts

-- where there are trees, they have so many leaves
abbrev Have : ℕ → Option (List Tree) → Type 0
Have n o = (ts : List Tree) → o ≡ Some ts → n ≡ all_leaves ts

leaf_have : (names : List Tree) (n : ℕ) (o : Option (List Tree)) → Have n o
    → Have (1 + n) (cited_before names cited.Leaf o)
leaf_have names n None have ts is = absurd (cc)
leaf_have names n (Some us) have ts is =
    let same : tree.Leaf ∷ us ≡ ts = cc in
    subst (λ xs. 1 + n ≡ all_leaves xs) same (ap (λ m. 1 + m) (have us refl))

split_have : (names : List Tree) (a n : ℕ) (o : Option (List Tree)) → Have n o
    → Have (0 + n) (cited_before names (cited.Split a) o)
split_have names a n None have ts is = absurd (cc)
split_have names a n (Some []) have ts is = absurd (cc)
split_have names a n (Some (l ∷ [])) have ts is = absurd (cc)
split_have names a n (Some (l ∷ r ∷ us)) have ts is =
    let same : tree.Split a l r ∷ us ≡ ts = cc in
    let count = have (l ∷ r ∷ us) refl in
    subst (λ xs. 0 + n ≡ all_leaves xs) same (omega (arith, count))

leaves_at : (names : List Tree) (i : ℕ) (t : Tree) → slice_get names i ≡ Some t
    → unwrap_or (slice_get (map leaves names) i) 0 ≡ leaves t
leaves_at [] i t at = absurd (cc)
leaves_at (u ∷ us) zero t at = let same : u ≡ t = cc in ap leaves same
leaves_at (u ∷ us) (suc i) t at = leaves_at us i t at

named_have : (names : List Tree) (i n : ℕ) (us : List Tree) → n ≡ all_leaves us → (o : Option Tree)
    → slice_get names i ≡ o → Have (unwrap_or (slice_get (map leaves names) i) 0 + n) (named_before o us)
named_have names i n us count None at ts is = absurd (cc)
named_have names i n us count (Some t) at ts is =
    let same : t ∷ us ≡ ts = cc in
    let first = leaves_at names i t at in
    subst (λ xs. unwrap_or (slice_get (map leaves names) i) 0 + n ≡ all_leaves xs) same (omega (arith, first, count))

cite_have : (names : List Tree) (i n : ℕ) (o : Option (List Tree)) → Have n o
    → Have (unwrap_or (slice_get (map leaves names) i) 0 + n) (cited_before names (cited.Cite i) o)
cite_have names i n None have ts is = absurd (cc)
cite_have names i n (Some us) have ts is = named_have names i n us (have us refl) (slice_get names i) refl ts is

nodes_have : (names : List Tree) (ns : List CitedNode)
    → Have (nodes_leaves (map leaves names) ns) (cited_trees_of names ns)
nodes_have names [] ts is = let same : [] ≡ ts = cc in subst (λ xs. 0 ≡ all_leaves xs) same refl
nodes_have names (cited.Leaf ∷ ns) ts is =
    leaf_have names (nodes_leaves (map leaves names) ns) (cited_trees_of names ns) (nodes_have names ns) ts is
nodes_have names (cited.Split a ∷ ns) ts is =
    split_have names a (nodes_leaves (map leaves names) ns) (cited_trees_of names ns) (nodes_have names ns) ts is
nodes_have names (cited.Cite i ∷ ns) ts is =
    cite_have names i (nodes_leaves (map leaves names) ns) (cited_trees_of names ns) (nodes_have names ns) ts is

one_has : (n : ℕ) (o : Option (List Tree)) (t : Tree) → Have n o → one_tree o ≡ Some t → n ≡ leaves t
one_has n None t have is = absurd (cc)
one_has n (Some []) t have is = absurd (cc)
one_has n (Some (u ∷ [])) t have is =
    let same : u ≡ t = cc in
    let count = have (u ∷ []) refl in
    subst (λ x. n ≡ leaves x) same (omega (arith, count))
one_has n (Some (u ∷ w ∷ us)) t have is = absurd (cc)

pub nodes_leaves-tree : (names : List Tree) (ns : List CitedNode) (t : Tree) → cited_tree_of names ns ≡ Some t
    → nodes_leaves (map leaves names) ns ≡ leaves t
nodes_leaves-tree names ns t is =
    one_has (nodes_leaves (map leaves names) ns) (cited_trees_of names ns) t (nodes_have names ns) is

-- ---- widths along nodes

-- numbers up to a bound
abbrev pub AreUpTo : ℕ → List ℕ → Type 0
AreUpTo most ns = All (λ n. n ≤ most) ns

pub widths_up : (most : ℕ) (named : List ℕ) (count : ℕ) (ns : List CitedNode) → count + nodes_leaves named ns ≤ most
    → AreUpTo most (widths_from named count ns)
widths_up most named count [] few = All-nil (λ n. n ≤ most)
widths_up most named count (n ∷ ns) few =
    All-cons (λ n. n ≤ most) (count + node_leaves named n) (widths_from named (count + node_leaves named n) ns)
    (omega (arith, few)) (widths_up most named (count + node_leaves named n) ns (omega (arith, few)))

pub widths_total : (most : ℕ) (named : List ℕ) (count : ℕ) (ns : List CitedNode) → count ≤ most
    → AreUpTo most (widths_from named count ns) → count + nodes_leaves named ns ≤ most
widths_total most named count [] few up = omega (arith, few)
widths_total most named count (n ∷ ns) few up =
    let here = All-head (λ n. n ≤ most) (count + node_leaves named n)
    (widths_from named (count + node_leaves named n) ns)
    up in
    let rest = widths_total most named (count + node_leaves named n) ns here
    (All-tail (λ n. n ≤ most) (count + node_leaves named n) (widths_from named (count + node_leaves named n) ns) up) in
    omega (arith, rest)

-- ---- named trees

map_last : (names : List Tree) (t : Tree) → map leaves names ++ leaves t ∷ [] ≡ map leaves (names ++ t ∷ [])
map_last [] t = refl
map_last (u ∷ names) t = ap (λ ns. leaves u ∷ ns) (map_last names t)

none_named : (lists : List (List CitedNode)) (all : List Tree) → named_from None lists ≡ Some all → ⊥
none_named [] all is = absurd (cc)
none_named (nodes ∷ more) all is = none_named more all is

front_has : {A : Type 0} (Has : A → Type 0) (xs ys : List A) → AllHave Has (xs ++ ys) → AllHave Has xs
front_has Has [] ys all = tt
front_has Has (x ∷ xs) ys all = (all.0, front_has Has xs ys all.1)

last_has : {A : Type 0} (Has : A → Type 0) (xs : List A) (x : A) → AllHave Has (xs ++ x ∷ []) → Has x
last_has Has [] x all = all.0
last_has Has (y ∷ xs) x all = last_has Has xs x all.1

-- named trees are those that are named already, and further ones
record Extends (names all : List Tree) : Type 0 where
  pub more : List Tree
  pub is : names ++ more ≡ all

extends : (names : List Tree) (lists : List (List CitedNode)) (all : List Tree)
    → named_from (Some names) lists ≡ Some all
    → Extends names all
extends names [] all is = let same : names ≡ all = cc in record { more = []; is = append-nil names ∙ same }
extends names (nodes ∷ more) all is = by (cited_tree_of names nodes) (λ t h. extends (names ++ t ∷ []) more all h) is
  where
    by : (o : Option Tree)
        → ((t : Tree) → named_from (Some (names ++ t ∷ [])) more ≡ Some all → Extends (names ++ t ∷ []) all)
        → named_from (name_behind names o) more ≡ Some all → Extends names all
    by None further is = absurd (none_named more all is)
    by (Some t) further is =
        let rest = further t is in
        record { more = t ∷ rest.more; is = sym (append_assoc names (t ∷ []) rest.more) ∙ rest.is }

pub named_leaves-all : (names : List Tree) (lists : List (List CitedNode)) (all : List Tree)
    → named_from (Some names) lists ≡ Some all → named_leaves (map leaves names) lists ≡ map leaves all
named_leaves-all names [] all is = let same : names ≡ all = cc in ap (map leaves) same
named_leaves-all names (nodes ∷ more) all is =
    by (cited_tree_of names nodes) refl (λ t h. named_leaves-all (names ++ t ∷ []) more all h) is
  where
    by : (o : Option Tree) → cited_tree_of names nodes ≡ o
        → ((t : Tree) → named_from (Some (names ++ t ∷ [])) more ≡ Some all
        → named_leaves (map leaves (names ++ t ∷ [])) more ≡ map leaves all)
        → named_from (name_behind names o) more ≡ Some all
        → named_leaves (map leaves names ++ nodes_leaves (map leaves names) nodes ∷ []) more ≡ map leaves all
    by None at further is = absurd (none_named more all is)
    by (Some t) at further is =
        ap (λ n. named_leaves (map leaves names ++ n ∷ []) more) (nodes_leaves-tree names nodes t at)
        ∙ ap (λ ns. named_leaves ns more) (map_last names t) ∙ further t is

-- trees have few leaves
abbrev pub AreFew : ℕ → List Tree → Type 0
AreFew most ts = AllHave (λ t. leaves t ≤ most) ts

pub named_widths_up : (most : ℕ) (names : List Tree) (lists : List (List CitedNode)) (all : List Tree)
    → named_from (Some names) lists ≡ Some all → AreFew most all → AreUpTo most (named_widths (map leaves names) lists)
named_widths_up most names [] all is few = All-nil (λ n. n ≤ most)
named_widths_up most names (nodes ∷ more) all is few =
    by (cited_tree_of names nodes) refl (λ t h. named_widths_up most (names ++ t ∷ []) more all h few) is
  where
    by : (o : Option Tree) → cited_tree_of names nodes ≡ o
        → ((t : Tree) → named_from (Some (names ++ t ∷ [])) more ≡ Some all
        → AreUpTo most (named_widths (map leaves (names ++ t ∷ [])) more))
        → named_from (name_behind names o) more ≡ Some all
        → AreUpTo most (named_widths (map leaves names) (nodes ∷ more))
    by None at further is = absurd (none_named more all is)
    by (Some t) at further is =
        let rest = extends (names ++ t ∷ []) more all is in
        let is_few = front_has (λ u. leaves u ≤ most) (names ++ t ∷ []) rest.more
        (subst (AreFew most) (sym rest.is) few) in
        let one : leaves t ≤ most = last_has (λ u. leaves u ≤ most) names t is_few in
        let count = nodes_leaves-tree names nodes t at in
        All-append (λ n. n ≤ most) (0 ∷ widths_from (map leaves names) 0 nodes)
        (named_widths (map leaves names ++ nodes_leaves (map leaves names) nodes ∷ []) more)
        (All-cons (λ n. n ≤ most) 0 (widths_from (map leaves names) 0 nodes) (omega arith)
        (widths_up most (map leaves names) 0 nodes (omega (arith, count, one))))
        (subst (λ ns. AreUpTo most (named_widths ns more))
        (sym (map_last names t) ∙ ap (λ n. map leaves names ++ n ∷ []) (sym count))
        (further t is))

-- ---- the whole

pub length-widths_from : (named : List ℕ) (count : ℕ) (ns : List CitedNode)
    → length (widths_from named count ns) ≡ length (map node_line ns)
length-widths_from named count [] = refl
length-widths_from named count (n ∷ ns) = ap suc (length-widths_from named (count + node_leaves named n) ns)

length-named_widths : (named : List ℕ) (i : ℕ) (lists : List (List CitedNode))
    → length (named_widths named lists) ≡ length (named_lines i lists)
length-named_widths named i [] = refl
length-named_widths named i (nodes ∷ more) =
    let first = length-widths_from named 0 nodes in
    let rest = length-named_widths (named ++ nodes_leaves named nodes ∷ []) (suc i) more in
    simp length-append (omega (arith, first, rest))

pub length-tree_widths : (v : Version) (t : CitedTree) → length (tree_widths v t) ≡ length (tree_lines v t)
length-tree_widths version.One t = length-widths_from [] 0 t.main
length-tree_widths version.Two t =
    let first = length-named_widths [] 0 t.names in
    let last = length-widths_from (named_leaves [] t.names) 0 t.main in
    simp length-append (omega (arith, first, last))

pub length-due_widths : (v : Version) (dues : List Due) (trees : List CitedTree)
    → length (due_widths v dues trees) ≡ length (due_lines v dues trees)
length-due_widths v [] trees = refl
length-due_widths v (ScopeDue name ∷ dues) trees = ap suc (length-due_widths v dues trees)
length-due_widths v (TargetDue t ∷ dues) [] = refl
length-due_widths v (TargetDue t ∷ dues) (tree ∷ trees) =
    let first = length-tree_widths v tree in
    let rest = length-due_widths v dues trees in
    simp length-append (omega (arith, first, rest))
