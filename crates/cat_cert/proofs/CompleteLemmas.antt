-- Certificates are read to their end.
use Rattle.std.proofs.Common.{◌≡◌, ℕ, zero, suc, ◌+◌, ◌<◌, Bool, true, false, List, [], ◌∷◌, ◌++◌, length, map}
use Rattle.std.proofs.Common.{Some, slice_get, refl, sym, ap, ◌∙◌, subst, arith, append_assoc, append-nil}
use Rattle.std.proofs.Common.{length-append}
use Rattle.std.specs.Prelude.{codes, unwrap_or}
use Rattle.std.specs.List.{list_all}
use Rattle.std.proofs.lemmas.Bool.{and_parts}
use Rattle.std.proofs.lemmas.List.{length-map}
use Rattle.std.proofs.lemmas.Option.{slice_get-get_or, unwrap_or-slice_get}
use Rattle.cat_guard.specs.declared.table.TableTarget.{TableTarget}
use Rattle.cat_guard.specs.declared.tree.CitedNode.{CitedNode}
use Rattle.cat_guard.specs.declared.tree.CitedNode.TheVariants as cited
use Rattle.cat_guard.specs.declared.tree.CitedTree.{CitedTree}
use Rattle.cat_guard.specs.Trees.{Tree, cited_trees_of, named_from}
use Rattle.cat_walk.specs.Walkable.{nodes_pass}
use Rattle.cat_cert.specs.declared.certificate.CertTree.{CertTree}
use Rattle.cat_cert.specs.declared.certificate.Version.{Version}
use Rattle.cat_cert.specs.declared.certificate.Version.TheVariants as version
use Rattle.cat_cert.specs.Lines.{Due, ScopeDue, TargetDue, list_heads, tree_lines, tree_heads, due_heads}
use Rattle.cat_cert.specs.Certified.{is_atom_of, IsTreeOf, AreTreesOf, node_leaves, nodes_leaves, widths_from}
use Rattle.cat_cert.specs.Certified.{named_widths, named_leaves, tree_widths, due_widths}
use Rattle.cat_cert.specs.inside.States.{Growing, State, AtDue, AtList, AtNode, Done, with_head}
use Rattle.cat_cert.specs.inside.States.{with_name, whole_tree, after_list, after_node, leaves_there}
use Rattle.cat_cert.specs.inside.Steps.{Plain, Node, at_tree}
use Rattle.cat_cert.proofs.StepLemmas.{takes_end, takes_heading, takes_list, takes_node}
use Rattle.cat_cert.proofs.LeadLemmas.{Leads, leads_on, leads_first}
use Rattle.cat_cert.proofs.TreeLemmas.{behind, none_left, next_name, main_there}
use Rattle.cat_cert.proofs.ItemLemmas.{named_items, tree_items, due_items, tree_items_count, heads_last}

-- ---- nodes

no_items : (us : List Tree) → length us ≡ 0 → us ≡ []
no_items [] none = refl
no_items (u ∷ us) none = absurd (omega (arith, none))

atom_leaves : (test : ℕ → Bool) (named : List ℕ) (a : ℕ) → test a ≡ true
    → leaves_there test named (cited.Split a) ≡ Some 0
atom_leaves test named a holds = rw holds refl

cited_leaves : (named : List ℕ) (i : ℕ) → i < length named → slice_get named i ≡ Some (unwrap_or (slice_get named i) 0)
cited_leaves named i within =
    slice_get-get_or named i 0 within ∙ ap (λ (l : ℕ). Some l) (sym (unwrap_or-slice_get named i 0))

module _ (v : Version) (main : Bool) (p : Growing) where
  first_leads : (n : CitedNode) (ms pre : List CitedNode) (pending count k : ℕ) (ws : List ℕ) (last : State)
      → leaves_there (is_atom_of p.target) p.named n ≡ Some (node_leaves p.named n)
      → Leads (map Node ms)
      (after_node v main p (pre ++ n ∷ []) pending (count + node_leaves p.named n) n) (suc k) ws last
      → Leads (map Node (n ∷ ms)) (AtNode v main p pre pending count) k ((count + node_leaves p.named n) ∷ ws) last
  first_leads n ms pre pending count k ws last there rest =
      leads_first (Node n) (map Node ms) (AtNode v main p pre pending count)
      (after_node v main p (pre ++ n ∷ []) pending (count + node_leaves p.named n) n) last k
      (count + node_leaves p.named n) ws
      (takes_node v main p pre pending count (suc k) n (node_leaves p.named n) there) rest

  list_ends : (n : CitedNode) (ms pre all : List CitedNode) (count total k : ℕ) → ms ≡ [] → all ≡ pre ++ n ∷ ms
      → total ≡ count + (node_leaves p.named n + nodes_leaves p.named ms)
      → Leads (map Node ms) (after_list v main p (pre ++ n ∷ []) (count + node_leaves p.named n)) (suc k)
      (widths_from p.named (count + node_leaves p.named n) ms) (after_list v main p all total)
  list_ends n [] pre all count total k none all_is total_is =
      let same : total ≡ count + node_leaves p.named n = omega (arith, total_is) in (
        refl,
        ap (λ ns. after_list v main p ns total) all_is
            ∙ ap (λ (t : ℕ). after_list v main p (pre ++ n ∷ []) t) same,
      )
  list_ends n (m ∷ ms) pre all count total k none all_is total_is = absurd (cc)

  pub nodes_lead : (ts us : List Tree) (ns pre all : List CitedNode) (pending count total k : ℕ)
      → cited_trees_of ts ns ≡ Some us → length us ≡ suc pending → nodes_pass (is_atom_of p.target) ns ≡ true
      → length p.named ≡ length ts → all ≡ pre ++ ns → total ≡ count + nodes_leaves p.named ns
      → Leads (map Node ns) (AtNode v main p pre pending count) k (widths_from p.named count ns)
      (after_list v main p all total)
  nodes_lead ts us [] pre all pending count total k is many passes named all_is total_is =
      let none : [] ≡ us = cc in
      absurd (omega (arith, many, ap length none))
  nodes_lead ts us (cited.Leaf ∷ ms) pre all zero count total k is many passes named all_is total_is =
      let b = behind ts cited.Leaf ms us is in
      let one = ap length b.before.all in
      let none = no_items b.rest (omega (arith, many, one)) in
      let ends = none_left ts ms (subst (λ (r : List Tree). cited_trees_of ts ms ≡ Some r) none b.rest_is) in
      first_leads cited.Leaf ms pre zero count k (widths_from p.named (count + 1) ms)
      (after_list v main p all total) refl
      (list_ends cited.Leaf ms pre all count total k ends all_is total_is)
  nodes_lead ts us (cited.Leaf ∷ ms) pre all (suc pending) count total k is many passes named all_is total_is =
      let b = behind ts cited.Leaf ms us is in
      let one = ap length b.before.all in
      first_leads cited.Leaf ms pre (suc pending) count k (widths_from p.named (count + 1) ms)
      (after_list v main p all total) refl
      (nodes_lead ts b.rest ms (pre ++ cited.Leaf ∷ []) all pending (count + 1) total (suc k) b.rest_is
      (omega (arith, many, one)) passes named (all_is ∙ sym (append_assoc pre (cited.Leaf ∷ []) ms))
      (omega (arith, total_is)))
  nodes_lead ts us (cited.Split a ∷ ms) pre all pending count total k is many passes named all_is total_is =
      let b = behind ts (cited.Split a) ms us is in
      let sides = ap length b.before.rest_is in
      let one = ap length b.before.all in
      let parts = and_parts (is_atom_of p.target a) (nodes_pass (is_atom_of p.target) ms) passes in
      first_leads (cited.Split a) ms pre pending count k (widths_from p.named (count + 0) ms)
      (after_list v main p all total) (atom_leaves (is_atom_of p.target) p.named a parts.0)
      (nodes_lead ts b.rest ms (pre ++ cited.Split a ∷ []) all (suc pending) (count + 0) total (suc k) b.rest_is
      (omega (arith, many, one, sides)) parts.1 named (all_is ∙ sym (append_assoc pre (cited.Split a ∷ []) ms))
      (omega (arith, total_is)))
  nodes_lead ts us (cited.Cite i ∷ ms) pre all zero count total k is many passes named all_is total_is =
      let b = behind ts (cited.Cite i) ms us is in
      let one = ap length b.before.1.all in
      let none = no_items b.rest (omega (arith, many, one)) in
      let ends = none_left ts ms (subst (λ (r : List Tree). cited_trees_of ts ms ≡ Some r) none b.rest_is) in
      first_leads (cited.Cite i) ms pre zero count k
      (widths_from p.named (count + node_leaves p.named (cited.Cite i)) ms) (after_list v main p all total)
      (cited_leaves p.named i (omega (arith, b.before.0, named)))
      (list_ends (cited.Cite i) ms pre all count total k ends all_is total_is)
  nodes_lead ts us (cited.Cite i ∷ ms) pre all (suc pending) count total k is many passes named all_is total_is =
      let b = behind ts (cited.Cite i) ms us is in
      let one = ap length b.before.1.all in
      first_leads (cited.Cite i) ms pre (suc pending) count k
      (widths_from p.named (count + node_leaves p.named (cited.Cite i)) ms) (after_list v main p all total)
      (cited_leaves p.named i (omega (arith, b.before.0, named)))
      (nodes_lead ts b.rest ms (pre ++ cited.Cite i ∷ []) all pending (count + node_leaves p.named (cited.Cite i)) total
      (suc k) b.rest_is (omega (arith, many, one)) passes named
      (all_is ∙ sym (append_assoc pre (cited.Cite i ∷ []) ms)) (omega (arith, total_is)))

-- ---- named trees

-- behind named trees, that begin behind so many lines
pub record AfterNames (p : Growing) (more : List (List CitedNode)) (k : ℕ) (q : Growing) : Type 0 where
  pub target : q.target ≡ p.target
  pub dues : q.dues ≡ p.dues
  pub trees : q.trees ≡ p.trees
  pub names : q.names ≡ p.names ++ more
  pub named : q.named ≡ named_leaves p.named more
  pub heads : q.heads ≡ p.heads ++ list_heads (suc k) more

pub record NamesLead (p : Growing) (all : List Tree) (more : List (List CitedNode)) (i k : ℕ) : Type 0 where
  pub part : Growing
  pub leads : Leads (named_items i more) (AtList p) k (named_widths p.named more) (AtList part)
  pub after : AfterNames p more k part
  pub count : length part.named ≡ length all

pub names_lead : (p : Growing) (ts all : List Tree) (more : List (List CitedNode)) (i k : ℕ)
    → named_from (Some ts) more ≡ Some all → length p.named ≡ length ts → i ≡ length p.names
    → list_all (nodes_pass (is_atom_of p.target)) more ≡ true → NamesLead p all more i k
names_lead p ts all [] i k is named number passes =
    let same : ts ≡ all = cc in
    record {
      part = p;
      leads = (refl, refl);
      after = record {
        target = refl;
        dues = refl;
        trees = refl;
        names = sym (append-nil p.names);
        named = refl;
        heads = sym (append-nil p.heads);
      };
      count = named ∙ ap length same;
    }
names_lead p ts all (nodes ∷ more) i k is named number passes =
    let next = next_name ts nodes more all is in
    let parts =
    and_parts (nodes_pass (is_atom_of p.target) nodes) (list_all (nodes_pass (is_atom_of p.target)) more) passes in
    let begun = with_head p (suc k) in
    let total = nodes_leaves p.named nodes in
    let q = with_name begun nodes total in
    let behind_list = suc k + length nodes in
    let listed = nodes_lead version.Two false begun ts (next.tree ∷ []) nodes [] nodes 0 0 total (suc k) next.is refl
    parts.0 named refl (omega arith) in
    let grown = length-append p.named (total ∷ []) in
    let more_named = length-append ts (next.tree ∷ []) in
    let more_names = length-append p.names (nodes ∷ []) in
    let rest = names_lead q (ts ++ next.tree ∷ []) all more (suc i) behind_list next.others
    (omega (arith, grown, more_named, named)) (omega (arith, more_names, number)) parts.1 in
    let named_line = takes_list false p (suc k) in
    let places : suc behind_list ≡ suc (suc k) + length nodes = omega arith in
    record {
      part = rest.part;
      leads = subst (λ (j : ℕ). Leads (named_items j (nodes ∷ more)) (AtList p) k (named_widths p.named (nodes ∷ more))
          (AtList rest.part)) (sym number)
          (leads_first _ _ (AtList p) (AtNode version.Two false begun [] 0 0) (AtList rest.part) k 0 _ named_line
          (leads_on (map Node nodes) _ (AtNode version.Two false begun [] 0 0) (suc k) behind_list _ _ (AtList q)
          (AtList rest.part) (omega (arith, length-map nodes Node)) listed
          (subst (λ (j : ℕ). Leads (named_items (suc j) more) (AtList q) behind_list (named_widths q.named more)
          (AtList rest.part)) number rest.leads)));
      after = record {
        target = rest.after.target;
        dues = rest.after.dues;
        trees = rest.after.trees;
        names = rest.after.names ∙ append_assoc p.names (nodes ∷ []) more;
        named = rest.after.named;
        heads =
            rest.after.heads ∙ append_assoc p.heads (suc k ∷ []) (list_heads (suc behind_list) more)
            ∙ ap (λ (j : ℕ). p.heads ++ suc k ∷ list_heads j more) places;
      };
      count = rest.count;
    }

-- ---- trees

all_parts : (test : List CitedNode → Bool) (xs : List (List CitedNode)) (y : List CitedNode)
    → list_all test (xs ++ y ∷ []) ≡ true → (list_all test xs ≡ true) × (test y ≡ true)
all_parts test [] y all = (refl, (and_parts (test y) true all).0)
all_parts test (x ∷ xs) y all =
    let parts = and_parts (test x) (list_all test (xs ++ y ∷ [])) all in
    let rest = all_parts test xs y parts.1 in
    (rw parts.0 rest.0, rest.1)

-- a tree with where its lists stand, behind so many lines
abbrev pub placed : Version → ℕ → CitedTree → CertTree
placed v k tree = record { tree = tree; heads = tree_heads v k tree }

tree_leads : (v : Version) (t : TableTarget) (dues : List Due) (trees : List CertTree) (k : ℕ) (tree : CitedTree)
    → IsTreeOf v t tree → Leads (tree_items v tree) (at_tree v t dues trees k) k (tree_widths v tree)
    (AtDue v dues (trees ++ placed v k tree ∷ []))
tree_leads version.One t dues trees k tree is =
    let p : Growing = record { target = t; dues = dues; trees = trees; names = []; named = []; heads = k ∷ [] } in
    let there = main_there (named_from (Some []) tree.names) tree.main is.whole is.stands in
    let none : [] ≡ there.0 =
    let e : named_from (Some []) [] ≡ Some there.0 = ap (named_from (Some [])) (sym is.names) ∙ there.1 in cc in
    let passes = all_parts (nodes_pass (is_atom_of t)) tree.names tree.main is.splits in
    subst (λ (names : List (List CitedNode)). Leads (map Node tree.main) (AtNode version.One true p [] 0 0) k
    (widths_from [] 0 tree.main)
    (AtDue version.One dues (trees ++ record {
      tree = record { names = names; main = tree.main };
      heads = k ∷ [];
    } ∷ []))) (sym is.names)
    (nodes_lead version.One true p there.0 (is.whole ∷ []) tree.main [] tree.main 0 0 (nodes_leaves [] tree.main) k
    there.2 refl passes.1 (ap length none) refl (omega arith))
tree_leads version.Two t dues trees k tree is =
    let p : Growing = record { target = t; dues = dues; trees = trees; names = []; named = []; heads = [] } in
    let there = main_there (named_from (Some []) tree.names) tree.main is.whole is.stands in
    let passes = all_parts (nodes_pass (is_atom_of t)) tree.names tree.main is.splits in
    let names = names_lead p [] there.0 tree.names 0 k there.1 refl refl passes.0 in
    let q = names.part in
    let m = k + length (named_items 0 tree.names) in
    let begun = with_head q (suc m) in
    let leaves = named_leaves [] tree.names in
    let total = nodes_leaves q.named tree.main in
    let tested : nodes_pass (is_atom_of q.target) tree.main ≡ true =
    ap (λ (u : TableTarget). nodes_pass (is_atom_of u) tree.main) names.after.target ∙ passes.1 in
    let main = nodes_lead version.Two true begun there.0 (is.whole ∷ []) tree.main [] tree.main 0 0 total (suc m)
    there.2 refl tested names.count refl (omega arith) in
    let at : suc m ≡ suc k + length (named_items 0 tree.names) = omega arith in
    let heads : q.heads ++ suc m ∷ [] ≡ tree_heads version.Two k tree =
    ap (λ (hs : List ℕ). hs ++ suc m ∷ []) names.after.heads
    ∙ ap (λ (j : ℕ). list_heads (suc k) tree.names ++ j ∷ []) at
    ∙ sym (heads_last 0 (suc k) tree.names tree.main) in
    let whole : whole_tree begun tree.main ≡ placed version.Two k tree =
    ap (λ (ns : List (List CitedNode)). record {
      tree = record { names = ns; main = tree.main };
      heads = q.heads ++ suc m ∷ [];
    }) names.after.names
    ∙ ap (λ (hs : List ℕ). record { tree = tree; heads = hs }) heads in
    let last : after_list version.Two true begun tree.main total ≡ AtDue version.Two dues
    (trees ++ placed version.Two k tree ∷ []) =
    ap (λ (ds : List Due). AtDue version.Two ds (q.trees ++ whole_tree begun tree.main ∷ [])) names.after.dues
    ∙ ap (λ (cs : List CertTree). AtDue version.Two dues (cs ++ whole_tree begun tree.main ∷ [])) names.after.trees
    ∙ ap (λ (c : CertTree). AtDue version.Two dues (trees ++ c ∷ [])) whole in
    let widths : widths_from q.named 0 tree.main ≡ widths_from leaves 0 tree.main =
    ap (λ (named : List ℕ). widths_from named 0 tree.main) names.after.named in
    leads_on (named_items 0 tree.names) (Plain (codes "tree") ∷ map Node tree.main) (AtList p) k m _ _ (AtList q) _ refl
    names.leads
    (leads_first (Plain (codes "tree")) (map Node tree.main) (AtList q) (AtNode version.Two true begun [] 0 0) _ m 0 _
    (takes_list true q (suc m))
    (subst (λ (ws : List ℕ). Leads (map Node tree.main) (AtNode version.Two true begun [] 0 0) (suc m) ws
    (AtDue version.Two dues (trees ++ placed version.Two k tree ∷ []))) widths
    (subst (λ (s : State). Leads (map Node tree.main) (AtNode version.Two true begun [] 0 0) (suc m)
    (widths_from q.named 0 tree.main) s) last main)))

-- ---- what is due

pub record DuesLead (v : Version) (dues : List Due) (trees : List CitedTree) (made : List CertTree) (k : ℕ) : Type 0
  where
    pub certs : List CertTree
    pub leads : Leads (due_items v dues trees) (AtDue v dues made) k (due_widths v dues trees) (Done v (made ++ certs))
    pub trees_are : map (λ (c : CertTree). c.tree) certs ≡ trees
    pub heads_are : map (λ (c : CertTree). c.heads) certs ≡ due_heads v (suc k) dues trees

pub dues_lead : (v : Version) (dues : List Due) (trees : List CitedTree) (made : List CertTree) (k : ℕ)
    → AreTreesOf v dues trees → DuesLead v dues trees made k
dues_lead v [] [] made k are = record {
  certs = [];
  leads = leads_first _ [] (AtDue v [] made) (Done v made) (Done v (made ++ [])) k 0 [] (takes_end v (suc k) made)
      (refl, ap (λ (cs : List CertTree). Done v cs) (append-nil made));
  trees_are = refl;
  heads_are = refl;
}
dues_lead v [] (tree ∷ trees) made k are = absurd (are)
dues_lead v (ScopeDue name ∷ dues) trees made k are =
    let rest = dues_lead v dues trees made (suc k) are in
    record {
      certs = rest.certs;
      leads = leads_first _ _ (AtDue v (ScopeDue name ∷ dues) made) (AtDue v dues made)
          (Done v (made ++ rest.certs)) k 0 _
          (takes_heading v (ScopeDue name) dues (suc k) made) rest.leads;
      trees_are = rest.trees_are;
      heads_are = rest.heads_are;
    }
dues_lead v (TargetDue t ∷ dues) [] made k are = absurd (are)
dues_lead v (TargetDue t ∷ dues) (tree ∷ trees) made k are =
    let c = placed v (suc k) tree in
    let m = suc k + length (tree_lines v tree) in
    let rest = dues_lead v dues trees (made ++ c ∷ []) m are.1 in
    let at : suc m ≡ suc (suc k) + length (tree_lines v tree) = omega arith in
    record {
      certs = c ∷ rest.certs;
      leads = leads_first _ _ (AtDue v (TargetDue t ∷ dues) made) (at_tree v t dues made (suc k)) _ k 0 _
          (takes_heading v (TargetDue t) dues (suc k) made)
          (leads_on (tree_items v tree) (due_items v dues trees) (at_tree v t dues made (suc k)) (suc k) m _ _
          (AtDue v dues (made ++ c ∷ [])) _ (ap (λ (l : ℕ). suc k + l) (sym (tree_items_count v tree)))
          (tree_leads v t dues made (suc k) tree are.0)
          (subst (λ (cs : List CertTree). Leads (due_items v dues trees) (AtDue v dues (made ++ c ∷ [])) m
          (due_widths v dues trees) (Done v cs)) (append_assoc made (c ∷ []) rest.certs) rest.leads));
      trees_are = ap (λ (ts : List CitedTree). tree ∷ ts) rest.trees_are;
      heads_are =
          ap (λ (hs : List (List ℕ)). tree_heads v (suc k) tree ∷ hs) (rest.heads_are
          ∙ ap (λ (j : ℕ). due_heads v j dues trees) at);
    }
