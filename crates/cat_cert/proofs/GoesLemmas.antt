-- What stands goes on with each line that is read, and can always be finished.
use Rattle.std.proofs.Common.{◌≡◌, ℕ, zero, suc, ◌+◌, Bool, true, false, List, [], ◌∷◌, ◌++◌, map}
use Rattle.std.proofs.Common.{Some, refl, sym, ap, ◌∙◌, subst, arith, append_assoc, append-nil}
use Rattle.std.specs.Prelude.{codes}
use Rattle.std.proofs.lemmas.List.{map-append}
use Rattle.std.proofs.lemmas.Option.{slice_get_within}
use Rattle.cat_guard.specs.declared.table.Table.{Table}
use Rattle.cat_guard.specs.declared.table.TableTarget.{TableTarget}
use Rattle.cat_guard.specs.declared.tree.CitedNode.{CitedNode}
use Rattle.cat_guard.specs.declared.tree.CitedNode.TheVariants as cited
use Rattle.cat_guard.specs.declared.tree.CitedTree.{CitedTree}
use Rattle.cat_guard.specs.Trees as tree
use Rattle.cat_walk.specs.Walkable.{nodes_pass}
use Rattle.cat_cert.specs.declared.certificate.CertTree.{CertTree}
use Rattle.cat_cert.specs.declared.certificate.Version.{Version}
use Rattle.cat_cert.specs.declared.certificate.Version.TheVariants as version
use Rattle.cat_cert.specs.Lines.{Due, ScopeDue, TargetDue, dues_of, heading_line, first_line, node_line}
use Rattle.cat_cert.specs.Lines.{named_lines}
use Rattle.cat_cert.specs.Lines.{due_lines, certificate_lines}
use Rattle.cat_cert.specs.Certified.{is_atom_of, IsTreeOf, AreTreesOf}
use Rattle.cat_cert.specs.Fronts.{IsFront}
use Rattle.cat_cert.specs.inside.States.{Growing, State, First, AtDue, AtList, AtNode, Done, Stepped, with_head}
use Rattle.cat_cert.specs.inside.States.{after_list, after_node, leaves_there}
use Rattle.cat_cert.specs.inside.Steps.{Item, Plain, Node, item_in, step, after_heading}
use Rattle.cat_cert.proofs.StepLemmas.{item_line, list_line, Took, took, line_of_item}
use Rattle.cat_cert.proofs.LeadLemmas.{LineLeads, atom_there}
use Rattle.cat_cert.proofs.StandLemmas.{trees_in, DueAt, NodesAt, NamesAt, Awaits, Stands}
use Rattle.cat_cert.proofs.StandLemmas.{awaits_first, leaf_alone, cite_alone, awaits_alone, awaits_split}
use Rattle.cat_cert.proofs.StandLemmas.{passes_last}
use Rattle.cat_cert.proofs.StandLemmas.{list_stands}

-- ---- one line more

carry : (tables : List Table) (before : List (List ℕ)) (item it : Item) (st to : Stepped) → item ≡ it → st ≡ to
    → Stands tables (before ++ item_line it ∷ []) to.state → Stands tables (before ++ item_line item ∷ []) st.state
carry tables before item it st to same step stands =
    subst (λ (x : Item). Stands tables (before ++ item_line x ∷ []) st.state) (sym same)
    (subst (λ (x : Stepped). Stands tables (before ++ item_line it ∷ []) x.state) (sym step) stands)

first_stands : (tables : List Table) (v : Version) (dues : List Due) (before : List (List ℕ)) → before ≡ []
    → dues ≡ dues_of tables → DueAt tables v dues [] (before ++ first_line v ∷ [])
first_stands tables v dues before none all = record {
  are = λ more h. subst (λ (ds : List Due). AreTreesOf v ds more) all h;
  lines = λ more h.
      ap (λ (ds : List Due). first_line v ∷ due_lines v ds more) (sym all)
      ∙ ap (λ (ls : List (List ℕ)). (ls ++ first_line v ∷ []) ++ due_lines v dues more) (sym none);
}

heading_stands : (tables : List Table) (v : Version) (due : Due) (dues : List Due) (trees : List CertTree) (n : ℕ)
    (before : List (List ℕ)) → DueAt tables v (due ∷ dues) trees before
    → Stands tables (before ++ heading_line due ∷ []) (after_heading v due dues trees n)
heading_stands tables v (ScopeDue name) dues trees n before d = record {
  are = λ more h. d.are more h;
  lines = λ more h.
      d.lines more h ∙ sym (append_assoc before (heading_line (ScopeDue name) ∷ []) (due_lines v dues more));
}
heading_stands tables version.One (TargetDue t) dues trees n before d = record {
  part = record { base = before; due = d; named = []; named_is = refl; count = refl; splits = refl };
  opening = before ++ heading_line (TargetDue t) ∷ [];
  opened = (refl, refl);
  before_is = sym (append-nil _);
  awaits = awaits_first [];
  passes = refl;
}
heading_stands tables version.Two (TargetDue t) dues trees n before d = record {
  part = record { base = before; due = d; named = []; named_is = refl; count = refl; splits = refl };
  before_is = refl;
}

part_stands : (tables : List Table) (main : Bool) (p : Growing) (n : ℕ) (before : List (List ℕ))
    → NamesAt tables p before
    → NodesAt tables version.Two main (with_head p n) [] 0 (before ++ list_line main p ∷ [])
part_stands tables true p n before at =
    let part = at.part in
    let heading = heading_line (TargetDue p.target) in
    record {
      part = record {
        base = part.base;
        due = part.due;
        named = part.named;
        named_is = part.named_is;
        count = part.count;
        splits = part.splits;
      };
      opening = before ++ codes "tree" ∷ [];
      opened =
          ap (λ (ls : List (List ℕ)). ls ++ codes "tree" ∷ []) at.before_is
          ∙ append_assoc part.base (heading ∷ named_lines 0 p.names) (codes "tree" ∷ []);
      before_is = sym (append-nil _);
      awaits = awaits_first part.named;
      passes = refl;
    }
part_stands tables false p n before at =
    let part = at.part in
    let heading = heading_line (TargetDue p.target) in
    record {
      part = record {
        base = part.base;
        due = part.due;
        named = part.named;
        named_is = part.named_is;
        count = part.count;
        splits = part.splits;
      };
      opening = before ++ list_line false p ∷ [];
      opened =
          ap (λ (ls : List (List ℕ)). ls ++ list_line false p ∷ []) at.before_is
          ∙ append_assoc part.base (heading ∷ named_lines 0 p.names) (list_line false p ∷ []);
      before_is = sym (append-nil _);
      awaits = awaits_first part.named;
      passes = refl;
    }

module _ (tables : List Table) (v : Version) (main : Bool) (p : Growing) (nodes : List CitedNode) (pending : ℕ)
    (before : List (List ℕ)) (at : NodesAt tables v main p nodes pending before) (n : CitedNode) where
  abbrev line_more : before ++ node_line n ∷ [] ≡ at.opening ++ map node_line (nodes ++ n ∷ [])
  line_more =
      ap (λ (ls : List (List ℕ)). ls ++ node_line n ∷ []) at.before_is
      ∙ append_assoc at.opening (map node_line nodes) (node_line n ∷ [])
      ∙ ap (λ (ls : List (List ℕ)). at.opening ++ ls) (sym (map-append node_line nodes (n ∷ [])))

  node_stands : (more : ℕ) → Awaits at.part.named (nodes ++ n ∷ []) (suc more)
      → nodes_pass (is_atom_of p.target) (n ∷ []) ≡ true
      → NodesAt tables v main p (nodes ++ n ∷ []) more (before ++ node_line n ∷ [])
  node_stands more awaits passes = record {
    part = at.part;
    opening = at.opening;
    opened = at.opened;
    before_is = line_more;
    awaits = awaits;
    passes = passes_last (is_atom_of p.target) nodes n at.passes passes;
  }

  last_stands : (count : ℕ) → Awaits at.part.named (nodes ++ n ∷ []) 0
      → nodes_pass (is_atom_of p.target) (n ∷ []) ≡ true
      → Stands tables (before ++ node_line n ∷ []) (after_list v main p (nodes ++ n ∷ []) count)
  last_stands count awaits passes =
      list_stands tables v main p (nodes ++ n ∷ []) count (before ++ node_line n ∷ []) at.opening at.part at.opened
      line_more awaits (passes_last (is_atom_of p.target) nodes n at.passes passes)

one_passes : (test : ℕ → Bool) (a : ℕ) → test a ≡ true → nodes_pass test (cited.Split a ∷ []) ≡ true
one_passes test a holds = rw holds refl

after_stands : (tables : List Table) (v : Version) (main : Bool) (p : Growing) (nodes : List CitedNode)
    (pending count : ℕ) (before : List (List ℕ)) (at : NodesAt tables v main p nodes pending before) (n : CitedNode)
    (leaves : ℕ) → leaves_there (is_atom_of p.target) p.named n ≡ Some leaves
    → Stands tables (before ++ node_line n ∷ []) (after_node v main p (nodes ++ n ∷ []) pending count n)
after_stands tables v main p nodes pending count before at (cited.Split a) leaves there =
    node_stands tables v main p nodes pending before at (cited.Split a) (suc pending)
    (awaits_split at.part.named nodes a pending at.awaits)
    (one_passes (is_atom_of p.target) a
    (atom_there (is_atom_of p.target) p.named a leaves (is_atom_of p.target a) refl there))
after_stands tables v main p nodes zero count before at cited.Leaf leaves there =
    last_stands tables v main p nodes zero before at cited.Leaf count
    (awaits_alone at.part.named nodes cited.Leaf zero (leaf_alone at.part.named) at.awaits) refl
after_stands tables v main p nodes (suc pending) count before at cited.Leaf leaves there =
    node_stands tables v main p nodes (suc pending) before at cited.Leaf pending
    (awaits_alone at.part.named nodes cited.Leaf (suc pending) (leaf_alone at.part.named) at.awaits) refl
after_stands tables v main p nodes zero count before at (cited.Cite i) leaves there =
    let within = slice_get_within p.named i leaves there in
    let same = at.part.count in
    last_stands tables v main p nodes zero before at (cited.Cite i) count
    (awaits_alone at.part.named nodes (cited.Cite i) zero
    (cite_alone at.part.named i (omega (arith, within, same))) at.awaits) refl
after_stands tables v main p nodes (suc pending) count before at (cited.Cite i) leaves there =
    let within = slice_get_within p.named i leaves there in
    let same = at.part.count in
    node_stands tables v main p nodes (suc pending) before at (cited.Cite i) pending
    (awaits_alone at.part.named nodes (cited.Cite i) (suc pending)
    (cite_alone at.part.named i (omega (arith, within, same))) at.awaits) refl

pub stands_on : (tables : List Table) (s : State) (n : ℕ) (item : Item) (st : Stepped) (before : List (List ℕ))
    → Took s n item st → Stands tables before s → Stands tables (before ++ item_line item ∷ []) st.state
stands_on tables (First dues) n item st before h at =
    carry tables before item (Plain (first_line h.0)) st _ h.1.0 h.1.1
    (first_stands tables h.0 dues before at.0 at.1)
stands_on tables (AtDue v [] trees) n item st before h at =
    carry tables before item (Plain (codes "end")) st _ h.0 h.1 (
      subst (AreTreesOf v (dues_of tables)) (append-nil (trees_in trees)) (at.are [] tt),
      ap (certificate_lines v tables) (sym (append-nil (trees_in trees))) ∙ at.lines [] tt,
    )
stands_on tables (AtDue v (due ∷ dues) trees) n item st before h at =
    carry tables before item (Plain (heading_line due)) st _ h.0 h.1
    (heading_stands tables v due dues trees n before at)
stands_on tables (AtList p) n item st before h at =
    carry tables before item (Plain (list_line h.0 p)) st _ h.1.0 h.1.1 (part_stands tables h.0 p n before at)
stands_on tables (AtNode v main p nodes pending count) n item st before h at =
    carry tables before item (Node h.node) st _ h.item_is h.step_is
    (after_stands tables v main p nodes pending (count + h.leaves) before at h.node h.leaves h.there)
stands_on tables (Done v trees) n item st before h at = absurd (h)

-- ---- all lines

pub line_stands : (tables : List Table) (s : State) (n : ℕ) (line : List ℕ) (st : Stepped) (before : List (List ℕ))
    → step s n (item_in s line) ≡ Some st → Stands tables before s → Stands tables (before ++ line ∷ []) st.state
line_stands tables s n line st before goes at =
    subst (λ (l : List ℕ). Stands tables (before ++ l ∷ []) st.state) (line_of_item s line)
    (stands_on tables s n (item_in s line) st before (took s n (item_in s line) st goes) at)

pub stands_along : (tables : List Table) (lines before : List (List ℕ)) (s last : State) (n : ℕ) (ws : List ℕ)
    → LineLeads lines s n ws last → Stands tables before s → Stands tables (before ++ lines) last
stands_along tables [] before s last n ws h at =
    subst (Stands tables (before ++ [])) (sym h.1)
    (subst (λ (ls : List (List ℕ)). Stands tables ls s) (sym (append-nil before)) at)
stands_along tables (line ∷ lines) before s last n ws h at =
    subst (λ (ls : List (List ℕ)). Stands tables ls last) (append_assoc before (line ∷ []) lines)
    (stands_along tables lines (before ++ line ∷ []) h.0.state last (suc n) h.1 h.4
    (line_stands tables s (suc n) line h.0 before h.2 at))

-- ---- to the end

abbrev leaf_tree : CitedTree
leaf_tree = record { names = []; main = cited.Leaf ∷ [] }

leaf_stands : (v : Version) (t : TableTarget) → IsTreeOf v t leaf_tree
leaf_stands version.One t = record { whole = tree.Leaf; stands = refl; splits = refl; names = refl }
leaf_stands version.Two t = record { whole = tree.Leaf; stands = refl; splits = refl; names = tt }

abbrev leaf_trees : List Due → List CitedTree
leaf_trees [] = []
leaf_trees (ScopeDue name ∷ dues) = leaf_trees dues
leaf_trees (TargetDue t ∷ dues) = leaf_tree ∷ leaf_trees dues

leaves_stand : (v : Version) (dues : List Due) → AreTreesOf v dues (leaf_trees dues)
leaves_stand v [] = tt
leaves_stand v (ScopeDue name ∷ dues) = leaves_stand v dues
leaves_stand v (TargetDue t ∷ dues) = (leaf_stands v t, leaves_stand v dues)

-- a front of fewer lines
pub shorter : (tables : List Table) (before : List (List ℕ)) (line : List ℕ) → IsFront tables (before ++ line ∷ [])
    → IsFront tables before
shorter tables before line front =
    let f = front.2 in (
      front.0,
      front.1,
      record {
        more = line ∷ f.more;
        trees_are = f.trees_are;
        lines_are = f.lines_are ∙ append_assoc before (line ∷ []) f.more;
      },
    )

due_finished : (tables : List Table) (v : Version) (dues : List Due) (trees : List CertTree) (before : List (List ℕ))
    → DueAt tables v dues trees before → IsFront tables before
due_finished tables v dues trees before d = (
  v,
  trees_in trees ++ leaf_trees dues,
  record {
    more = due_lines v dues (leaf_trees dues);
    trees_are = d.are (leaf_trees dues) (leaves_stand v dues);
    lines_are = d.lines (leaf_trees dues) (leaves_stand v dues);
  },
)

main_finished : (tables : List Table) (v : Version) (p : Growing) (nodes : List CitedNode) (pending : ℕ)
    (before : List (List ℕ)) → NodesAt tables v true p nodes pending before → IsFront tables before
main_finished tables v p nodes zero before at =
    shorter tables before (node_line cited.Leaf)
    (due_finished tables v p.dues _ (before ++ node_line cited.Leaf ∷ [])
    (after_stands tables v true p nodes zero 0 before at cited.Leaf 1 refl))
main_finished tables v p nodes (suc pending) before at =
    shorter tables before (node_line cited.Leaf)
    (main_finished tables v p (nodes ++ cited.Leaf ∷ []) pending (before ++ node_line cited.Leaf ∷ [])
    (after_stands tables v true p nodes (suc pending) 0 before at cited.Leaf 1 refl))

names_finished : (tables : List Table) (p : Growing) (before : List (List ℕ)) → NamesAt tables p before
    → IsFront tables before
names_finished tables p before at =
    shorter tables before (codes "tree")
    (main_finished tables version.Two (with_head p 0) [] 0 (before ++ codes "tree" ∷ [])
    (part_stands tables true p 0 before at))

name_finished : (tables : List Table) (v : Version) (p : Growing) (nodes : List CitedNode) (pending : ℕ)
    (before : List (List ℕ)) → NodesAt tables v false p nodes pending before → IsFront tables before
name_finished tables version.One p nodes pending before at = absurd (at.opened)
name_finished tables version.Two p nodes zero before at =
    shorter tables before (node_line cited.Leaf)
    (names_finished tables _ (before ++ node_line cited.Leaf ∷ [])
    (after_stands tables version.Two false p nodes zero 0 before at cited.Leaf 1 refl))
name_finished tables version.Two p nodes (suc pending) before at =
    shorter tables before (node_line cited.Leaf)
    (name_finished tables version.Two p (nodes ++ cited.Leaf ∷ []) pending (before ++ node_line cited.Leaf ∷ [])
    (after_stands tables version.Two false p nodes (suc pending) 0 before at cited.Leaf 1 refl))

pub finished : (tables : List Table) (s : State) (before : List (List ℕ)) → Stands tables before s
    → IsFront tables before
finished tables (First dues) before at =
    shorter tables before (first_line version.One)
    (due_finished tables version.One dues [] (before ++ first_line version.One ∷ [])
    (first_stands tables version.One dues before at.0 at.1))
finished tables (AtDue v dues trees) before at = due_finished tables v dues trees before at
finished tables (AtList p) before at = names_finished tables p before at
finished tables (AtNode v true p nodes pending count) before at = main_finished tables v p nodes pending before at
finished tables (AtNode v false p nodes pending count) before at = name_finished tables v p nodes pending before at
finished tables (Done v trees) before at = (
  v,
  trees_in trees,
  record {
    more = [];
    trees_are = at.0;
    lines_are = at.1 ∙ sym (append-nil before);
  },
)
