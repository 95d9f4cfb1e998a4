-- What a way through lines tells of certificates: fronts, small fronts and whole ones.
use Rattle.std.proofs.Common.{◌≡◌, ℕ, zero, suc, ◌+◌, ◌^◌, ◌<◌, ◌≤◌, List, [], ◌∷◌, ◌++◌, length, map, take}
use Rattle.std.proofs.Common.{Some, None, refl, sym, ap, ◌∙◌, subst, arith, append-nil}
use Rattle.std.proofs.Common.{length-append}
use Rattle.std.specs.Prelude.{All}
use Rattle.cat_guard.specs.declared.table.Table.{Table}
use Rattle.cat_guard.specs.declared.tree.CitedTree.{CitedTree}
use Rattle.cat_cert.specs.declared.certificate.CertTree.{CertTree}
use Rattle.cat_cert.specs.declared.certificate.Version.{Version}
use Rattle.cat_walk.specs.Sizes.{most_leaves}
use Rattle.cat_cert.specs.Lines.{dues_of, first_line, due_heads, certificate_lines}
use Rattle.cat_cert.specs.Certified.{AreTreesOf, due_widths}
use Rattle.cat_cert.specs.Fronts.{IsFrontOf, IsSmallFront, IsCertificate}
use Rattle.cat_cert.specs.Causes.{IsReadBehind, IsStray}
use Rattle.cat_cert.specs.inside.States.{State, First, AtDue, Done, Stepped}
use Rattle.cat_cert.specs.inside.Steps.{Plain, item_in, step}
use Rattle.cat_cert.proofs.StepLemmas.{item_line, takes_first}
use Rattle.cat_cert.proofs.LeadLemmas.{Leads, LineLeads, leads_first, one_way, front_of, AreLow, Way, front_way}
use Rattle.cat_cert.proofs.ItemLemmas.{due_items, due_items_lines}
use Rattle.cat_cert.proofs.CompleteLemmas.{DuesLead, dues_lead}
use Rattle.cat_cert.proofs.StandLemmas.{trees_in, Stands}
use Rattle.cat_cert.proofs.GoesLemmas.{stands_along, finished}

-- ---- small numbers

-- none of these passes the most leaves
abbrev pub AllSmall : List ℕ → Type 0
AllSmall ws = All (λ n. n ≤ most_leaves) ws

pub none_small : AllSmall []
none_small k d within = absurd (omega (arith, within))

pub small_last : (ws : List ℕ) (w : ℕ) → AllSmall ws → w ≤ most_leaves → AllSmall (ws ++ w ∷ [])
small_last [] w all one zero d within = one
small_last [] w all one (suc k) d within = absurd (omega (arith, within))
small_last (x ∷ ws) w all one zero d within = all zero d (omega arith)
small_last (x ∷ ws) w all one (suc k) d within =
    small_last ws w (λ j e inside. all (suc j) e (omega (arith, inside))) one k d (omega (arith, within))

pub last_small : (ws : List ℕ) (w : ℕ) → AllSmall (ws ++ w ∷ []) → w ≤ most_leaves
last_small [] w all = all zero 0 (omega arith)
last_small (x ∷ ws) w all = last_small ws w (λ j e inside. all (suc j) e (omega (arith, inside)))

-- ---- fronts

module _ (tables : List Table) (low : AreLow (dues_of tables)) (passed : ℕ) where
  -- where reading begins
  abbrev pub start : State
  start = First (dues_of tables)

  -- the way of a front, and the trees with their places
  pub record FrontWay (lines : List (List ℕ)) (v : Version) (trees : List CitedTree) (more : List (List ℕ)) : Type 0
    where
      pub dues : DuesLead v (dues_of tables) trees [] (suc passed)
      pub way : Way lines more start passed (0 ∷ due_widths v (dues_of tables) trees) (Done v dues.certs)

  pub front_lead : (lines more : List (List ℕ)) (v : Version) (trees : List CitedTree)
      → AreTreesOf v (dues_of tables) trees → certificate_lines v tables trees ≡ lines ++ more
      → passed + length lines ≤ 2 ^ 64 → FrontWay lines v trees more
  front_lead lines more v trees are is bound =
      let dues = dues_lead v (dues_of tables) trees [] (suc passed) are in
      let items = Plain (first_line v) ∷ due_items v (dues_of tables) trees in
      let leads : Leads items start passed (0 ∷ due_widths v (dues_of tables) trees) (Done v dues.certs) =
      leads_first (Plain (first_line v)) (due_items v (dues_of tables) trees) start (AtDue v (dues_of tables) [])
      (Done v dues.certs) passed 0 (due_widths v (dues_of tables) trees)
      (takes_first v (dues_of tables) (suc passed)) dues.leads in
      let same : map item_line items ≡ lines ++ more =
      ap (λ (ls : List (List ℕ)). first_line v ∷ ls) (due_items_lines v (dues_of tables) trees) ∙ is in
      record {
        dues = dues;
        way = front_way items lines more start passed _ (Done v dues.certs) leads same low bound;
      }

  module _ (lines : List (List ℕ)) (ws : List ℕ) (s : State) (way : LineLeads lines start passed ws s) where
    -- what stands behind lines that lead on
    abbrev pub stand : Stands tables lines s
    stand = stands_along tables lines [] start s passed ws way (refl, refl)

    -- the leaves are those of the trees of each front
    pub front_widths : (v : Version) (trees : List CitedTree) → IsFrontOf tables lines v trees
        → passed + length lines ≤ 2 ^ 64 → ws ≡ take (length lines) (0 ∷ due_widths v (dues_of tables) trees)
    front_widths v trees f bound =
        let w = (front_lead lines f.more v trees f.trees_are f.lines_are bound).way in
        (one_way lines start passed ws w.widths s w.state way w.way).widths ∙ w.widths_are

    pub small_front : AllSmall ws → passed + length lines ≤ 2 ^ 64 → IsSmallFront tables lines
    small_front small bound =
        let front = finished tables s lines stand in
        (front.0, front.1, front.2, subst AllSmall (front_widths front.0 front.1 front.2 bound) small)

    module _ (line : List ℕ) (bound : passed + suc (length lines) ≤ 2 ^ 64) where
      abbrev more_bound : passed + length (lines ++ line ∷ []) ≤ 2 ^ 64
      more_bound = omega (arith, length-append lines (line ∷ []), bound)

      -- the step with which a front goes on
      pub record Next (v : Version) (trees : List CitedTree) : Type 0 where
        pub next : Stepped
        pub goes : step s (suc (passed + length lines)) (item_in s line) ≡ Some next
        pub widths : take (length (lines ++ line ∷ [])) (0 ∷ due_widths v (dues_of tables) trees)
            ≡ ws ++ next.width ∷ []

      pub front_next : (v : Version) (trees : List CitedTree) → IsFrontOf tables (lines ++ line ∷ []) v trees
          → Next v trees
      front_next v trees f =
          let w = (front_lead (lines ++ line ∷ []) f.more v trees f.trees_are f.lines_are more_bound).way in
          let parts = front_of lines line start passed w.widths w.state w.way in
          let one = one_way lines start passed ws parts.0.widths s parts.0.state way parts.0.way in
          record {
            next = parts.0.next;
            goes =
                subst (λ (from : State). step from (suc (passed + length lines)) (item_in from line)
                ≡ Some parts.0.next) (sym one.state) parts.0.goes;
            widths =
                sym w.widths_are ∙ parts.1
                ∙ ap (λ (vs : List ℕ). vs ++ parts.0.next.width ∷ []) (sym one.widths);
          }

      pub stray : step s (suc (passed + length lines)) (item_in s line) ≡ None → IsStray tables lines line
      stray none front = let n = front_next front.0 front.1 front.2 in let h = n.goes in absurd (cc)

      pub wide : (st : Stepped) → step s (suc (passed + length lines)) (item_in s line) ≡ Some st
          → most_leaves < st.width → IsSmallFront tables (lines ++ line ∷ []) → ⊥
      wide st goes large front =
          let n = front_next front.0 front.1 front.2 in
          let same : n.next ≡ st = let h = n.goes in cc in
          let least = last_small ws n.next.width (subst AllSmall n.widths front.3) in
          let width : n.next.width ≡ st.width = ap (λ (x : Stepped). x.width) same in
          omega (arith, least, width, large)

    -- ---- whole certificates

    pub certificate_state : (v : Version) (trees : List CitedTree) → IsCertificate tables lines v trees
        → passed + length lines ≤ 2 ^ 64 → (certs : List CertTree) × (s ≡ Done v certs)
    certificate_state v trees c bound =
        let f = front_lead lines [] v trees c.trees_are (sym c.lines_are ∙ sym (append-nil lines)) bound in
        let w = f.way in
        (f.dues.certs, (one_way lines start passed ws w.widths s w.state way w.way).state ∙ w.whole refl)

  trees_done : (v u : Version) (a b : List CertTree) → Done v a ≡ Done u b → a ≡ b
  trees_done v u a b same = cc

  module _ (lines : List (List ℕ)) (ws : List ℕ) (v : Version) (certs : List CertTree)
      (way : LineLeads lines start passed ws (Done v certs)) (small : AllSmall ws)
      (bound : passed + length lines ≤ 2 ^ 64) where
    abbrev done : Stands tables lines (Done v certs)
    done = stand lines ws (Done v certs) way

    abbrev lead : FrontWay lines v (trees_in certs) []
    lead = front_lead lines [] v (trees_in certs) done.0 (done.1 ∙ sym (append-nil lines)) bound

    pub certificate_is : IsCertificate tables lines v (trees_in certs)
    certificate_is =
        let w = lead.way in
        let one = one_way lines start passed ws w.widths (Done v certs) w.state way w.way in
        record {
          trees_are = done.0;
          lines_are = sym done.1;
          small = subst AllSmall (one.widths ∙ w.widths_are) small;
        }

    pub read_is : IsReadBehind tables passed lines (record { version = v; trees = certs })
    read_is =
        let w = lead.way in
        let one = one_way lines start passed ws w.widths (Done v certs) w.state way w.way in
        let same = trees_done v v certs lead.dues.certs (one.state ∙ w.whole refl) in
        let line : suc (suc passed) ≡ passed + 2 = omega arith in
        record {
          trees = trees_in certs;
          trees_are = refl;
          certificate = certificate_is;
          heads =
              ap (λ (cs : List CertTree). map (λ (c : CertTree). c.heads) cs) same ∙ lead.dues.heads_are
              ∙ ap (λ (n : ℕ). due_heads v n (dues_of tables) (trees_in certs)) line;
        }
