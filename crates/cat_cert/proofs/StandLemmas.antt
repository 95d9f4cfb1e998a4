-- What stands of a certificate where reading has come to.
use Rattle.std.proofs.Common.{◌≡◌, ℕ, suc, ◌+◌, ◌<◌, ◌≤◌, Bool, true, false, List, [], ◌∷◌, ◌++◌, length, map, drop}
use Rattle.std.proofs.Common.{Option, Some, slice_get, refl, sym, ap, ◌∙◌, subst, arith, append_assoc, append-nil}
use Rattle.std.proofs.Common.{length-append}
use Rattle.std.specs.Prelude.{codes}
use Rattle.std.specs.List.{list_all}
use Rattle.std.proofs.lemmas.Bool.{and_parts}
use Rattle.std.proofs.lemmas.List.{map-append}
use Rattle.std.proofs.lemmas.Option.{slice_get-get_or}
use Rattle.cat_guard.specs.declared.table.Table.{Table}
use Rattle.cat_guard.specs.declared.tree.CitedNode.{CitedNode}
use Rattle.cat_guard.specs.declared.tree.CitedNode.TheVariants as cited
use Rattle.cat_guard.specs.declared.tree.CitedTree.{CitedTree}
use Rattle.cat_guard.specs.Trees.{Tree, cited_before, cited_trees_of, named_from, with_named, main_of}
use Rattle.cat_guard.specs.Trees.{one_tree}
use Rattle.cat_guard.specs.Trees as tree
use Rattle.cat_walk.specs.Walkable.{nodes_pass}
use Rattle.cat_cert.specs.declared.certificate.CertTree.{CertTree}
use Rattle.cat_cert.specs.declared.certificate.Version.{Version}
use Rattle.cat_cert.specs.declared.certificate.Version.TheVariants as version
use Rattle.cat_cert.specs.Lines.{Due, TargetDue, dues_of, heading_line, node_line, named_lines}
use Rattle.cat_cert.specs.Lines.{tree_lines, due_lines, certificate_lines}
use Rattle.cat_cert.specs.Certified.{is_atom_of, MayName, IsTreeOf, AreTreesOf}
use Rattle.cat_cert.specs.inside.LineForms.{name_line}
use Rattle.cat_cert.specs.inside.States.{Growing, State, First, AtDue, AtList, AtNode, Done}
use Rattle.cat_cert.specs.inside.States.{with_name, whole_tree, after_list}
use Rattle.cat_cert.proofs.TreeLemmas.{named_last}

-- the trees alone
abbrev pub trees_in : List CertTree → List CitedTree
trees_in cs = map (λ (c : CertTree). c.tree) cs

-- ---- what stands

-- with trees for what is due, these lines go on to a certificate
pub record DueAt (tables : List Table) (v : Version) (dues : List Due) (trees : List CertTree)
    (before : List (List ℕ)) : Type 0
  where
    pub are : (more : List CitedTree) → AreTreesOf v dues more → AreTreesOf v (dues_of tables) (trees_in trees ++ more)
    pub lines : (more : List CitedTree) → AreTreesOf v dues more
        → certificate_lines v tables (trees_in trees ++ more) ≡ before ++ due_lines v dues more

-- a target is due, and these are its named trees as far as they are read
pub record PartAt (tables : List Table) (v : Version) (p : Growing) : Type 0 where
  pub base : List (List ℕ)
  pub due : DueAt tables v (TargetDue p.target ∷ p.dues) p.trees base
  pub named : List Tree
  pub named_is : named_from (Some []) p.names ≡ Some named
  pub count : length p.named ≡ length named
  pub splits : list_all (nodes_pass (is_atom_of p.target)) p.names ≡ true

-- nodes that are one tree in front of nodes that are so many trees and more
pub record Awaits (ts : List Tree) (nodes : List CitedNode) (k : ℕ) : Type 0 where
  pub goes : (rest : List CitedNode) (us : List Tree) → cited_trees_of ts rest ≡ Some us → k ≤ length us
      → (t : Tree) × (cited_trees_of ts (nodes ++ rest) ≡ Some (t ∷ drop k us))

-- the lines up to a list of a tree
abbrev pub IsOpened : Version → Bool → Growing → List (List ℕ) → List (List ℕ) → Type 0
IsOpened version.One true p base opening =
    (p.names ≡ []) × (opening ≡ base ++ heading_line (TargetDue p.target) ∷ [])
IsOpened version.One false p base opening = ⊥
IsOpened version.Two true p base opening =
    opening ≡ base ++ heading_line (TargetDue p.target) ∷ (named_lines 0 p.names ++ codes "tree" ∷ [])
IsOpened version.Two false p base opening =
    opening ≡ base ++ heading_line (TargetDue p.target) ∷ (named_lines 0 p.names ++ name_line (length p.names) ∷ [])

-- nodes of a list as far as they are read, with so many subtrees behind the one that comes next
pub record NodesAt (tables : List Table) (v : Version) (main : Bool) (p : Growing) (nodes : List CitedNode)
    (pending : ℕ)
    (before : List (List ℕ)) : Type 0
  where
    pub part : PartAt tables v p
    pub opening : List (List ℕ)
    pub opened : IsOpened v main p part.base opening
    pub before_is : before ≡ opening ++ map node_line nodes
    pub awaits : Awaits part.named nodes (suc pending)
    pub passes : nodes_pass (is_atom_of p.target) nodes ≡ true

pub record NamesAt (tables : List Table) (p : Growing) (before : List (List ℕ)) : Type 0 where
  pub part : PartAt tables version.Two p
  pub before_is : before ≡ part.base ++ heading_line (TargetDue p.target) ∷ named_lines 0 p.names

-- what stands in each state behind these lines
abbrev pub Stands : List Table → List (List ℕ) → State → Type 0
Stands tables before (First dues) = (before ≡ []) × (dues ≡ dues_of tables)
Stands tables before (AtDue v dues trees) = DueAt tables v dues trees before
Stands tables before (AtList p) = NamesAt tables p before
Stands tables before (AtNode v main p nodes pending count) = NodesAt tables v main p nodes pending before
Stands tables before (Done v trees) =
    AreTreesOf v (dues_of tables) (trees_in trees) × (certificate_lines v tables (trees_in trees) ≡ before)

-- ---- nodes

one_awaited : (us : List Tree) → 1 ≤ length us → (t : Tree) × (us ≡ t ∷ drop 1 us)
one_awaited [] some = absurd (omega (arith, some))
one_awaited (u ∷ us) some = (u, refl)

pub awaits_first : (ts : List Tree) → Awaits ts [] 1
awaits_first ts = record {
  goes = λ rest us is some.
      let one = one_awaited us some in (one.0, is ∙ ap (λ (x : List Tree). Some x) one.1);
}

-- a node that is a tree by itself
pub record IsAlone (ts : List Tree) (n : CitedNode) : Type 0 where
  pub tree : Tree
  pub is : (rest : List CitedNode) (us : List Tree) → cited_trees_of ts rest ≡ Some us
      → cited_trees_of ts (n ∷ rest) ≡ Some (tree ∷ us)

pub leaf_alone : (ts : List Tree) → IsAlone ts cited.Leaf
leaf_alone ts = record { tree = tree.Leaf; is = λ rest us is. rw is refl }

cited_at : (ts : List Tree) (i : ℕ) → i < length ts → (t : Tree) × (slice_get ts i ≡ Some t)
cited_at [] i within = absurd (omega (arith, within))
cited_at (t ∷ ts) i within = (_, slice_get-get_or (t ∷ ts) i t within)

pub cite_alone : (ts : List Tree) (i : ℕ) → i < length ts → IsAlone ts (cited.Cite i)
cite_alone ts i within =
    let at = cited_at ts i within in
    record { tree = at.0; is = λ rest us is. rw (is, at.1) refl }

pub awaits_alone : (ts : List Tree) (nodes : List CitedNode) (n : CitedNode) (k : ℕ) → IsAlone ts n
    → Awaits ts nodes (suc k) → Awaits ts (nodes ++ n ∷ []) k
awaits_alone ts nodes n k alone a = record {
  goes = λ rest us is most.
      let whole = a.goes (n ∷ rest) (alone.tree ∷ us) (alone.is rest us is) (omega (arith, most)) in
      (whole.0, ap (cited_trees_of ts) (append_assoc nodes (n ∷ []) rest) ∙ whole.1);
}

-- the first two of some trees
two_first : (us : List Tree) (k : ℕ) → suc (suc k) ≤ length us
    → (l : Tree) × (r : Tree) × (vs : List Tree) × (us ≡ l ∷ r ∷ vs)
two_first [] k some = absurd (omega (arith, some))
two_first (l ∷ []) k some = absurd (omega (arith, some))
two_first (l ∷ r ∷ vs) k some = (l, r, vs, refl)

pub awaits_split : (ts : List Tree) (nodes : List CitedNode) (a k : ℕ) → Awaits ts nodes (suc k)
    → Awaits ts (nodes ++ cited.Split a ∷ []) (suc (suc k))
awaits_split ts nodes a k w = record {
  goes = λ rest us is most.
      let two = two_first us k most in
      let l = two.0 in let r = two.1 in let vs = two.2 in
      let made : cited_trees_of ts (cited.Split a ∷ rest) ≡ Some (tree.Split a l r ∷ vs) =
      ap (cited_before ts (cited.Split a)) (is ∙ ap (λ (x : List Tree). Some x) two.3) in
      let count : length us ≡ suc (suc (length vs)) = ap length two.3 in
      let whole = w.goes (cited.Split a ∷ rest) (tree.Split a l r ∷ vs) made (omega (arith, most, count)) in
      let same : drop (suc (suc k)) us ≡ drop k vs = ap (drop (suc (suc k))) two.3 in (
        whole.0,
        ap (cited_trees_of ts) (append_assoc nodes (cited.Split a ∷ []) rest) ∙ whole.1
            ∙ ap (λ (x : List Tree). Some (whole.0 ∷ x)) (sym same),
      );
}

pub awaits_none : (ts : List Tree) (nodes : List CitedNode) → Awaits ts nodes 0
    → (t : Tree) × (cited_trees_of ts nodes ≡ Some (t ∷ []))
awaits_none ts nodes a =
    let whole = a.goes [] [] refl (omega arith) in
    (whole.0, ap (cited_trees_of ts) (sym (append-nil nodes)) ∙ whole.1)

pub passes_last : (test : ℕ → Bool) (nodes : List CitedNode) (n : CitedNode) → nodes_pass test nodes ≡ true
    → nodes_pass test (n ∷ []) ≡ true → nodes_pass test (nodes ++ n ∷ []) ≡ true
passes_last test [] n all one = one
passes_last test (cited.Leaf ∷ nodes) n all one = passes_last test nodes n all one
passes_last test (cited.Cite i ∷ nodes) n all one = passes_last test nodes n all one
passes_last test (cited.Split a ∷ nodes) n all one =
    let parts = and_parts (test a) (nodes_pass test nodes) all in
    rw parts.0 (passes_last test nodes n parts.1 one)

-- ---- lists

pub all_last : (test : List CitedNode → Bool) (xs : List (List CitedNode)) (y : List CitedNode)
    → list_all test xs ≡ true → test y ≡ true → list_all test (xs ++ y ∷ []) ≡ true
all_last test [] y all one = rw one refl
all_last test (x ∷ xs) y all one =
    let parts = and_parts (test x) (list_all test xs) all in
    rw parts.0 (all_last test xs y parts.1 one)

named_lines_last : (i : ℕ) (names : List (List CitedNode)) (nodes : List CitedNode)
    → named_lines i (names ++ nodes ∷ []) ≡ named_lines i names ++ name_line (i + length names) ∷ map node_line nodes
named_lines_last i [] nodes =
    let same : i ≡ i + 0 = omega arith in
    append-nil (name_line i ∷ map node_line nodes) ∙ ap (λ (j : ℕ). name_line j ∷ map node_line nodes) same
named_lines_last i (first ∷ names) nodes =
    let same : suc i + length names ≡ i + length (first ∷ names) = omega arith in
    ap (λ (ls : List (List ℕ)). (name_line i ∷ map node_line first) ++ ls) (named_lines_last (suc i) names nodes
    ∙ ap (λ (j : ℕ). named_lines (suc i) names ++ name_line j ∷ map node_line nodes) same)
    ∙ sym (append_assoc (name_line i ∷ map node_line first) (named_lines (suc i) names) _)

-- a list is whole that awaits no tree
module _ (tables : List Table) (v : Version) (p : Growing) (nodes : List CitedNode) (opening : List (List ℕ))
    (part : PartAt tables v p) (whole : Awaits part.named nodes 0)
    (passes : nodes_pass (is_atom_of p.target) nodes ≡ true) where
  abbrev one : (t : Tree) × (cited_trees_of part.named nodes ≡ Some (t ∷ []))
  one = awaits_none part.named nodes whole

  -- the tree itself
  abbrev whole_of : CitedTree
  whole_of = record { names = p.names; main = nodes }

  tree_stands : MayName v p.names → IsTreeOf v p.target whole_of
  tree_stands may = record {
    whole = one.0;
    stands = ap (λ (o : Option (List Tree)). main_of o nodes) part.named_is ∙ ap one_tree one.1;
    splits = all_last (nodes_pass (is_atom_of p.target)) p.names nodes part.splits passes;
    names = may;
  }

  pub main_ends : MayName v p.names → (before : List (List ℕ))
      → before ≡ part.base ++ (heading_line (TargetDue p.target) ∷ tree_lines v whole_of)
      → DueAt tables v p.dues (p.trees ++ whole_tree p nodes ∷ []) before
  main_ends may before before_is =
      let is = tree_stands may in
      let joined : (more : List CitedTree)
      → trees_in (p.trees ++ whole_tree p nodes ∷ []) ++ more ≡ trees_in p.trees ++ whole_of ∷ more =
      λ more. ap (λ (cs : List CitedTree). cs ++ more)
      (map-append (λ (c : CertTree). c.tree) p.trees (whole_tree p nodes ∷ []))
      ∙ append_assoc (trees_in p.trees) (whole_of ∷ []) more in
      record {
        are = λ more rest.
            subst (AreTreesOf v (dues_of tables)) (sym (joined more)) (part.due.are (whole_of ∷ more) (is, rest));
        lines = λ more rest.
            ap (certificate_lines v tables) (joined more) ∙ part.due.lines (whole_of ∷ more) (is, rest)
            ∙ sym (append_assoc part.base (heading_line (TargetDue p.target) ∷ tree_lines v whole_of)
            (due_lines v p.dues more))
            ∙ ap (λ (ls : List (List ℕ)). ls ++ due_lines v p.dues more) (sym before_is);
      }

  -- a named tree
  abbrev pub name_ends : (count : ℕ) → PartAt tables v (with_name p nodes count)
  name_ends count = record {
    base = part.base;
    due = part.due;
    named = part.named ++ one.0 ∷ [];
    named_is =
        named_last (Some []) p.names nodes
        ∙ ap (λ (o : Option (List Tree)). with_named o nodes) part.named_is
        ∙ ap (λ (o : Option (List Tree)). tree.name_behind part.named (one_tree o)) one.1;
    count =
        let more = length-append p.named (count ∷ []) in
        let grown = length-append part.named (one.0 ∷ []) in
        let same = part.count in
        omega (arith, more, grown, same);
    splits = all_last (nodes_pass (is_atom_of p.target)) p.names nodes part.splits passes;
  }

-- behind the last node of a list
pub list_stands : (tables : List Table) (v : Version) (main : Bool) (p : Growing) (nodes : List CitedNode) (count : ℕ)
    (before opening : List (List ℕ)) (part : PartAt tables v p) → IsOpened v main p part.base opening
    → before ≡ opening ++ map node_line nodes → Awaits part.named nodes 0
    → nodes_pass (is_atom_of p.target) nodes ≡ true → Stands tables before (after_list v main p nodes count)
list_stands tables version.One true p nodes count before opening part opened before_is whole passes =
    let heading = heading_line (TargetDue p.target) in
    main_ends tables version.One p nodes opening part whole passes opened.0 before
    (before_is ∙ ap (λ (ls : List (List ℕ)). ls ++ map node_line nodes) opened.1
    ∙ append_assoc part.base (heading ∷ []) (map node_line nodes))
list_stands tables version.One false p nodes count before opening part opened before_is whole passes = absurd (opened)
list_stands tables version.Two true p nodes count before opening part opened before_is whole passes =
    let heading = heading_line (TargetDue p.target) in
    let names = named_lines 0 p.names in
    main_ends tables version.Two p nodes opening part whole passes tt before
    (before_is ∙ ap (λ (ls : List (List ℕ)). ls ++ map node_line nodes) opened
    ∙ append_assoc part.base (heading ∷ (names ++ codes "tree" ∷ [])) (map node_line nodes)
    ∙ ap (λ (ls : List (List ℕ)). part.base ++ heading ∷ ls)
    (append_assoc names (codes "tree" ∷ []) (map node_line nodes)))
list_stands tables version.Two false p nodes count before opening part opened before_is whole passes =
    let heading = heading_line (TargetDue p.target) in
    let names = named_lines 0 p.names in
    let number : length p.names ≡ 0 + length p.names = omega arith in
    record {
      part = name_ends tables version.Two p nodes opening part whole passes count;
      before_is =
          before_is ∙ ap (λ (ls : List (List ℕ)). ls ++ map node_line nodes) opened
          ∙ append_assoc part.base (heading ∷ (names ++ name_line (length p.names) ∷ [])) (map node_line nodes)
          ∙ ap (λ (ls : List (List ℕ)). part.base ++ heading ∷ ls)
          (append_assoc names (name_line (length p.names) ∷ []) (map node_line nodes)
          ∙ ap (λ (j : ℕ). names ++ name_line j ∷ map node_line nodes) number
          ∙ sym (named_lines_last 0 p.names nodes));
    }
