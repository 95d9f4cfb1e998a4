-- A text is a certificate in one way at most.
use Rattle.std.proofs.Common.{◌≡◌, ℕ, suc, ◌^◌, ◌<◌, nat_eq, Bool, true, false, not, ◌||◌}
use Rattle.std.proofs.Common.{List, [], ◌∷◌, ◌++◌, map, codes, decimal, refl, sym, ap}
use Rattle.std.proofs.Common.{◌∙◌, subst, arith, append_assoc, true≢false}
use Rattle.std.proofs.lemmas.Fmt.{decimal_injective}
use Rattle.cat_scope.specs.Names.{AllHave}
use Rattle.cat_guard.specs.declared.tree.CitedNode.{CitedNode}
use Rattle.cat_guard.specs.declared.tree.CitedNode.TheVariants as cited
use Rattle.cat_guard.specs.declared.tree.CitedTree.{CitedTree}
use Rattle.cat_cert.specs.declared.certificate.Version.{Version}
use Rattle.cat_cert.specs.declared.certificate.Version.TheVariants as version
use Rattle.cat_cert.specs.Lines.{Due, ScopeDue, TargetDue, node_line, named_lines, tree_lines, due_lines}
use Rattle.cat_cert.specs.Certified.{MayName, AreTreesOf}

-- ---- nodes by their lines

-- the number of a node is one that is written
abbrev pub HasNumber : CitedNode → Type 0
HasNumber (cited.Split a) = a < 2 ^ 64
HasNumber cited.Leaf = Unit {0}
HasNumber (cited.Cite i) = i < 2 ^ 64

same_split : (a b : ℕ) → a < 2 ^ 64 → b < 2 ^ 64 → node_line (cited.Split a) ≡ node_line (cited.Split b)
    → cited.Split a ≡ cited.Split b
same_split a b one other is =
    let digits : decimal a ≡ decimal b = cc in
    ap cited.Split (decimal_injective a b one other digits)

same_cite : (i j : ℕ) → i < 2 ^ 64 → j < 2 ^ 64 → node_line (cited.Cite i) ≡ node_line (cited.Cite j)
    → cited.Cite i ≡ cited.Cite j
same_cite i j one other is =
    let digits : decimal i ≡ decimal j = cc in
    ap cited.Cite (decimal_injective i j one other digits)

same_node : (m n : CitedNode) → HasNumber m → HasNumber n → node_line m ≡ node_line n → m ≡ n
same_node (cited.Split a) (cited.Split b) one other is = same_split a b one other is
same_node (cited.Split a) cited.Leaf one other is = let h : ◌≡◌ {A = ℕ} 115 108 = cc in absurd (omega (arith, h))
same_node (cited.Split a) (cited.Cite j) one other is = let h : ◌≡◌ {A = ℕ} 115 99 = cc in absurd (omega (arith, h))
same_node cited.Leaf (cited.Split b) one other is = let h : ◌≡◌ {A = ℕ} 108 115 = cc in absurd (omega (arith, h))
same_node cited.Leaf cited.Leaf one other is = refl
same_node cited.Leaf (cited.Cite j) one other is = let h : ◌≡◌ {A = ℕ} 108 99 = cc in absurd (omega (arith, h))
same_node (cited.Cite i) (cited.Split b) one other is = let h : ◌≡◌ {A = ℕ} 99 115 = cc in absurd (omega (arith, h))
same_node (cited.Cite i) cited.Leaf one other is = let h : ◌≡◌ {A = ℕ} 99 108 = cc in absurd (omega (arith, h))
same_node (cited.Cite i) (cited.Cite j) one other is = same_cite i j one other is

-- a line begins as that of a node does: with `l`, with `c`, or with `p` behind its first byte
abbrev is_node : List ℕ → Bool
is_node [] = false
is_node (a ∷ []) = false
is_node (a ∷ b ∷ line) = nat_eq a 108 || nat_eq a 99 || nat_eq b 112

nodes_are : (n : CitedNode) → is_node (node_line n) ≡ true
nodes_are (cited.Split a) = refl
nodes_are cited.Leaf = refl
nodes_are (cited.Cite i) = refl

-- lines go on with no node
abbrev pub stops : List (List ℕ) → Bool
stops [] = true
stops (line ∷ lines) = not (is_node line)

no_stop : (n : CitedNode) (lines : List (List ℕ)) → stops (node_line n ∷ lines) ≡ true → ⊥
no_stop n lines is = true≢false (sym (sym (ap not (nodes_are n)) ∙ is))

-- two things are the same, and so is what follows
abbrev Same : {A : Type 0} → A → A → List (List ℕ) → List (List ℕ) → Type 0
Same x y r s = (x ≡ y) × (r ≡ s)

pub same_nodes : (xs ys : List CitedNode) (r s : List (List ℕ)) → AllHave HasNumber xs → AllHave HasNumber ys
    → stops r ≡ true → stops s ≡ true → map node_line xs ++ r ≡ map node_line ys ++ s → Same xs ys r s
same_nodes [] [] r s one other r_stops s_stops is = (refl, is)
same_nodes [] (y ∷ ys) r s one other r_stops s_stops is =
    absurd (no_stop y (map node_line ys ++ s) (subst (λ ls. stops ls ≡ true) is r_stops))
same_nodes (x ∷ xs) [] r s one other r_stops s_stops is =
    absurd (no_stop x (map node_line xs ++ r) (subst (λ ls. stops ls ≡ true) (sym is) s_stops))
same_nodes (x ∷ xs) (y ∷ ys) r s one other r_stops s_stops is =
    let line : node_line x ≡ node_line y = cc in
    let lines : map node_line xs ++ r ≡ map node_line ys ++ s = cc in
    let rest = same_nodes xs ys r s one.1 other.1 r_stops s_stops lines in
    let first = same_node x y one.0 other.0 line in
    (ap (λ n. n ∷ xs) first ∙ ap (λ ns. y ∷ ns) rest.0, rest.1)

-- ---- named trees

abbrev AllNumbered : List (List CitedNode) → Type 0
AllNumbered lists = AllHave (λ ns. AllHave HasNumber ns) lists

named_stops : (i : ℕ) (lists : List (List CitedNode)) (r : List (List ℕ))
    → stops (named_lines i lists ++ codes "tree" ∷ r) ≡ true
named_stops i [] r = refl
named_stops i (nodes ∷ lists) r = refl

same_names : (i : ℕ) (xs ys : List (List CitedNode)) (r s : List (List ℕ)) → AllNumbered xs → AllNumbered ys
    → named_lines i xs ++ codes "tree" ∷ r ≡ named_lines i ys ++ codes "tree" ∷ s → Same xs ys r s
same_names i [] [] r s one other is = (refl, cc)
same_names i [] (y ∷ ys) r s one other is = let h : ◌≡◌ {A = ℕ} 116 110 = cc in absurd (omega (arith, h))
same_names i (x ∷ xs) [] r s one other is = let h : ◌≡◌ {A = ℕ} 110 116 = cc in absurd (omega (arith, h))
same_names i (x ∷ xs) (y ∷ ys) r s one other is =
    let front = named_lines (suc i) xs ++ codes "tree" ∷ r in
    let behind = named_lines (suc i) ys ++ codes "tree" ∷ s in
    let tails : (map node_line x ++ named_lines (suc i) xs) ++ codes "tree" ∷ r
    ≡ (map node_line y ++ named_lines (suc i) ys) ++ codes "tree" ∷ s = cc in
    let lines : map node_line x ++ front ≡ map node_line y ++ behind =
    sym (append_assoc (map node_line x) (named_lines (suc i) xs) (codes "tree" ∷ r)) ∙ tails
    ∙ append_assoc (map node_line y) (named_lines (suc i) ys) (codes "tree" ∷ s) in
    let first = same_nodes x y front behind one.0 other.0 (named_stops (suc i) xs r) (named_stops (suc i) ys s) lines in
    let rest = same_names (suc i) xs ys r s one.1 other.1 first.1 in
    (ap (λ ns. ns ∷ xs) first.0 ∙ ap (λ lists. y ∷ lists) rest.0, rest.1)

-- ---- trees

-- the numbers of a tree are those that are written
pub record IsNumbered (t : CitedTree) : Type 0 where
  pub names : AllNumbered t.names
  pub main : AllHave HasNumber t.main

abbrev with_parts : List (List CitedNode) → List CitedNode → CitedTree
with_parts names main = record { names = names; main = main }

same_parts : (t u : CitedTree) → t.names ≡ u.names → t.main ≡ u.main → t ≡ u
same_parts t u names main =
    ap (λ ns. with_parts ns t.main) names ∙ ap (with_parts u.names) main

same_tree : (v : Version) (t u : CitedTree) (r s : List (List ℕ)) → MayName v t.names → MayName v u.names
    → IsNumbered t → IsNumbered u → stops r ≡ true → stops s ≡ true → tree_lines v t ++ r ≡ tree_lines v u ++ s
    → Same t u r s
same_tree version.One t u r s none nor one other r_stops s_stops is =
    let nodes = same_nodes t.main u.main r s one.main other.main r_stops s_stops is in
    (same_parts t u (none ∙ sym nor) nodes.0, nodes.1)
same_tree version.Two t u r s none nor one other r_stops s_stops is =
    let lines : named_lines 0 t.names ++ codes "tree" ∷ (map node_line t.main ++ r)
    ≡ named_lines 0 u.names ++ codes "tree" ∷ (map node_line u.main ++ s) =
    sym (append_assoc (named_lines 0 t.names) (codes "tree" ∷ map node_line t.main) r) ∙ is
    ∙ append_assoc (named_lines 0 u.names) (codes "tree" ∷ map node_line u.main) s in
    let names = same_names 0 t.names u.names (map node_line t.main ++ r)
    (map node_line u.main ++ s) one.names other.names
    lines in
    let nodes = same_nodes t.main u.main r s one.main other.main r_stops s_stops names.1 in
    (same_parts t u names.0 nodes.0, nodes.1)

-- ---- what is due

due_stops : (v : Version) (dues : List Due) (trees : List CitedTree) → stops (due_lines v dues trees) ≡ true
due_stops v [] trees = refl
due_stops v (ScopeDue name ∷ dues) trees = refl
due_stops v (TargetDue t ∷ dues) [] = refl
due_stops v (TargetDue t ∷ dues) (tree ∷ trees) = refl

pub same_trees : (v : Version) (dues : List Due) (ts us : List CitedTree) → AreTreesOf v dues ts → AreTreesOf v dues us
    → AllHave IsNumbered ts → AllHave IsNumbered us → due_lines v dues ts ≡ due_lines v dues us → ts ≡ us
same_trees v [] [] [] are others one other is = refl
same_trees v [] [] (u ∷ us) are others one other is = absurd (others)
same_trees v [] (t ∷ ts) us are others one other is = absurd (are)
same_trees v (ScopeDue name ∷ dues) ts us are others one other is =
    let rest : due_lines v dues ts ≡ due_lines v dues us = cc in
    same_trees v dues ts us are others one other rest
same_trees v (TargetDue t ∷ dues) [] us are others one other is = absurd (are)
same_trees v (TargetDue t ∷ dues) (x ∷ ts) [] are others one other is = absurd (others)
same_trees v (TargetDue t ∷ dues) (x ∷ ts) (y ∷ us) are others one other is =
    let lines : tree_lines v x ++ due_lines v dues ts ≡ tree_lines v y ++ due_lines v dues us = cc in
    let first = same_tree v x y (due_lines v dues ts) (due_lines v dues us) are.0.names others.0.names one.0 other.0
    (due_stops v dues ts) (due_stops v dues us) lines in
    let rest = same_trees v dues ts us are.1 others.1 one.1 other.1 first.1 in
    ap (λ z. z ∷ ts) first.0 ∙ ap (λ zs. y ∷ zs) rest
