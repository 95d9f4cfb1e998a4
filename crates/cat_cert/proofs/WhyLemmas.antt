-- How reading ends tells what is read, or why it is refused.
use Rattle.std.proofs.Common.{◌≡◌, ℕ, suc, ◌+◌, ◌^◌, ◌<◌, ◌≤◌, inl, inr, Bool, true, false, ◌&&◌, List, [], ◌∷◌, ◌++◌}
use Rattle.std.proofs.Common.{length, take, drop, get_or, Option, Some, None, slice_get, refl, sym, ap, ◌∙◌, subst}
use Rattle.std.proofs.Common.{arith}
use Rattle.std.proofs.Common.{append_assoc, append-nil, length-append, Result, Ok, Err}
use Rattle.std.specs.Prelude.{codes, nat_eq, nat_le, if◌then◌else◌}
use Rattle.std.specs.List.{starts_with}
use Rattle.std.specs.Str.{is_utf8}
use Rattle.std.proofs.Math.Seq.{take-append_seam, take-append-add}
use Rattle.std.proofs.lemmas.Bool.{and_parts}
use Rattle.std.proofs.lemmas.Bool.Decides.{nat_tests, Decides-eqb}
use Rattle.std.proofs.lemmas.List.{append_cancel_left}
use Rattle.std.proofs.lemmas.Slice.Eq.{starts_is}
use Rattle.cat_guard.specs.declared.table.Table.{Table}
use Rattle.cat_guard.specs.declared.tree.CitedNode.{CitedNode}
use Rattle.cat_guard.specs.declared.tree.CitedNode.TheVariants as cited
use Rattle.cat_cert.specs.declared.certificate.CertTree.{CertTree}
use Rattle.cat_cert.specs.declared.certificate.Certificate.{Certificate}
use Rattle.cat_cert.specs.declared.certificate.Version.{Version}
use Rattle.cat_walk.specs.Sizes.{most_leaves}
use Rattle.cat_cert.specs.declared.refusal.CertRefusal.{CertRefusal}
use Rattle.cat_cert.specs.declared.refusal.CertRefusal.TheVariants as refusal
use Rattle.cat_cert.specs.Lines.{Due, ScopeDue, TargetDue, dues_of, heading_word, due_name, heading_line}
use Rattle.cat_cert.specs.Lines.{first_line}
use Rattle.cat_cert.specs.Lines.{node_line}
use Rattle.cat_cert.specs.Fronts.{IsFront, IsSmallFront, IsCertificate}
use Rattle.cat_cert.specs.Causes.{IsReadBehind, IsMisnamed, IsStray, IsMet, IsNone, RefusedBehind}
use Rattle.cat_cert.specs.inside.States.{Growing, State, First, AtDue, AtList, AtNode, Done, Stepped}
use Rattle.cat_cert.specs.inside.Steps.{Plain, item_in, step, refusal_at, ended_in, met, outcome}
use Rattle.cat_cert.proofs.StepLemmas.{item_line, list_line, Took, took, takes_heading, line_of_item}
use Rattle.cat_cert.proofs.LeadLemmas.{LineLeads, line_leads_last, AreLow}
use Rattle.cat_cert.proofs.StandLemmas.{trees_in}
use Rattle.cat_cert.proofs.GoesLemmas.{finished, line_stands}
use Rattle.cat_cert.proofs.FrontLemmas.{AllSmall, small_last, start, stand, small_front, front_next, stray, wide}
use Rattle.cat_cert.proofs.FrontLemmas.{certificate_state, certificate_is, read_is}

-- ---- headings differ from other lines

-- a letter by which the headings of this kind differ from all other lines
abbrev letter : Due → List ℕ → ℕ
letter (ScopeDue name) line = get_or line 1 0
letter (TargetDue t) line = get_or line 0 0

abbrev letter_of : Due → ℕ
letter_of (ScopeDue name) = 99
letter_of (TargetDue t) = 118

heading_letter : (due : Due) (name : List ℕ) → letter due (heading_word due ++ name) ≡ letter_of due
heading_letter (ScopeDue other) name = refl
heading_letter (TargetDue t) name = refl

no_first : (due : Due) (v : Version) → letter due (first_line v) ≡ letter_of due → ⊥
no_first (ScopeDue name) v h = omega (arith, h)
no_first (TargetDue t) v h = omega (arith, h)

no_end : (due : Due) → letter due (codes "end") ≡ letter_of due → ⊥
no_end (ScopeDue name) h = omega (arith, h)
no_end (TargetDue t) h = omega (arith, h)

no_part : (due : Due) (main : Bool) (p : Growing) → letter due (list_line main p) ≡ letter_of due → ⊥
no_part (ScopeDue name) true p h = omega (arith, h)
no_part (ScopeDue name) false p h = omega (arith, h)
no_part (TargetDue t) true p h = omega (arith, h)
no_part (TargetDue t) false p h = omega (arith, h)

no_node : (due : Due) (n : CitedNode) → letter due (node_line n) ≡ letter_of due → ⊥
no_node (ScopeDue name) (cited.Split a) h = omega (arith, h)
no_node (ScopeDue name) cited.Leaf h = omega (arith, h)
no_node (ScopeDue name) (cited.Cite i) h = omega (arith, h)
no_node (TargetDue t) (cited.Split a) h = omega (arith, h)
no_node (TargetDue t) cited.Leaf h = omega (arith, h)
no_node (TargetDue t) (cited.Cite i) h = omega (arith, h)

-- a heading that is read is the one that is due
same_heading : (due other : Due) (name : List ℕ) → heading_word other ++ name ≡ heading_line due
    → (heading_word other ≡ heading_word due) × (name ≡ due_name due)
same_heading (ScopeDue a) (ScopeDue b) name is = (refl, append_cancel_left (codes "scope ") name a is)
same_heading (ScopeDue a) (TargetDue t) name is =
    absurd (let h = ap (λ (l : List ℕ). get_or l 0 0) is in omega (arith, h))
same_heading (TargetDue t) (ScopeDue b) name is =
    absurd (let h = ap (λ (l : List ℕ). get_or l 0 0) is in omega (arith, h))
same_heading (TargetDue t) (TargetDue u) name is = (refl, append_cancel_left (codes "var ") name t.name is)

-- the due heading, where a heading is read
abbrev IsDue : State → Due → List ℕ → Type 0
IsDue (First dues) other name = ⊥
IsDue (AtDue v [] trees) other name = ⊥
IsDue (AtDue v (due ∷ dues) trees) other name = (heading_word other ≡ heading_word due) × (name ≡ due_name due)
IsDue (AtList p) other name = ⊥
IsDue (AtNode v main p nodes pending count) other name = ⊥
IsDue (Done v trees) other name = ⊥

plain_is : (line word : List ℕ) → Plain line ≡ Plain word → line ≡ word
plain_is line word is = cc

heading_due : (s : State) (n : ℕ) (other : Due) (name : List ℕ) (st : Stepped)
    → step s n (item_in s (heading_word other ++ name)) ≡ Some st → IsDue s other name
heading_due s n other name st goes =
    by s (took s n (item_in s (heading_word other ++ name)) st goes) (line_of_item s (heading_word other ++ name))
  where
    by : (s : State) → Took s n (item_in s (heading_word other ++ name)) st
        → item_line (item_in s (heading_word other ++ name)) ≡ heading_word other ++ name → IsDue s other name
    by (First dues) h back =
        no_first other h.0 (ap (letter other) (sym (plain_is _ _ h.1.0)) ∙ heading_letter other name)
    by (AtDue v [] trees) h back =
        no_end other (ap (letter other) (sym (plain_is _ _ h.0)) ∙ heading_letter other name)
    by (AtDue v (due ∷ dues) trees) h back = same_heading due other name (plain_is _ _ h.0)
    by (AtList p) h back =
        no_part other h.0 p (ap (letter other) (sym (plain_is _ _ h.1.0)) ∙ heading_letter other name)
    by (AtNode v main p nodes pending count) h back =
        no_node other h.node (ap (letter other) (ap item_line (sym h.item_is) ∙ back) ∙ heading_letter other name)
    by (Done v trees) h back = h

-- ---- what reading tells

-- what is read of lines, or why they are refused, where so many were passed over
abbrev pub Explains : List Table → ℕ → List (List ℕ) → List ℕ → Result Certificate CertRefusal → Type 0
Explains tables passed lines rest (Ok c) = IsReadBehind tables passed lines c × (rest ≡ [])
Explains tables passed lines rest (Err why) = RefusedBehind tables passed lines rest why

slice_at : (before : List (List ℕ)) (line : List ℕ) (lines : List (List ℕ))
    → slice_get (before ++ line ∷ lines) (length before) ≡ Some line
slice_at [] line lines = refl
slice_at (x ∷ before) line lines = slice_at before line lines

-- nothing is due
abbrev is_done : State → Bool
is_done (First dues) = false
is_done (AtDue v dues trees) = false
is_done (AtList p) = false
is_done (AtNode v main p nodes pending count) = false
is_done (Done v trees) = true

module _ (tables : List Table) (low : AreLow (dues_of tables)) (passed : ℕ) (rest : List ℕ) where
  module _ (before : List (List ℕ)) (ws : List ℕ) (s : State)
      (way : LineLeads before (start tables low passed) passed ws s)
      (small : AllSmall ws) where
    -- ---- where something is still due

    pub none_here : is_done s ≡ false → passed + length before ≤ 2 ^ 64 → IsNone tables before
    none_here not_done bound v trees c =
        let is = certificate_state tables low passed before ws s way v trees c bound in
        let both : true ≡ false = ap is_done (sym is.1) ∙ not_done in
        absurd (cc)

    short_at : is_done s ≡ false → passed + length before ≤ 2 ^ 64
        → RefusedBehind tables passed before rest refusal.Short
    short_at not_done bound =
        (small_front tables low passed before ws s way small bound, none_here not_done bound)

  done_is : (before : List (List ℕ)) (ws : List ℕ) (v : Version) (certs : List CertTree)
      → LineLeads before (start tables low passed) passed ws (Done v certs) → AllSmall ws → (n : ℕ)
      → n ≡ passed + length before → passed + length before ≤ 2 ^ 64 → (bytes : List ℕ) → rest ≡ bytes
      → Explains tables passed before rest (ended_in (Done v certs) n bytes)
  done_is before ws v certs way small n count bound [] is =
      (read_is tables low passed before ws v certs way small bound, is)
  done_is before ws v certs way small n count bound (byte ∷ bytes) is =
      let all : take (length before) before ≡ before =
      ap (take (length before)) (sym (append-nil before)) ∙ take-append_seam before [] in
      let other : rest ≡ [] → ⊥ = λ none. let h : byte ∷ bytes ≡ [] = sym is ∙ none in absurd (cc) in (
        length before,
        v,
        trees_in certs,
        omega (arith, count),
        subst (λ (ls : List (List ℕ)). IsCertificate tables ls v (trees_in certs)) (sym all)
            (certificate_is tables low passed before ws v certs way small bound),
        inr (refl, other),
      )

  ends : (before : List (List ℕ)) (ws : List ℕ) (s : State) → LineLeads before (start tables low passed) passed ws s
      → AllSmall ws → (n : ℕ) → n ≡ passed + length before → passed + length before ≤ 2 ^ 64
      → Explains tables passed before rest (ended_in s n rest)
  ends before ws (First dues) way small n count bound =
      short_at before ws (First dues) way small refl bound
  ends before ws (AtDue v dues trees) way small n count bound =
      short_at before ws (AtDue v dues trees) way small refl bound
  ends before ws (AtList p) way small n count bound =
      short_at before ws (AtList p) way small refl bound
  ends before ws (AtNode v main p nodes pending count) way small n number bound =
      short_at before ws (AtNode v main p nodes pending count) way small refl bound
  ends before ws (Done v certs) way small n count bound = done_is before ws v certs way small n count bound rest refl

  -- ---- a line with which nothing goes on

  module _ (before : List (List ℕ)) (line : List ℕ) (lines : List (List ℕ)) where
    abbrev all : List (List ℕ)
    all = before ++ line ∷ lines

    abbrev front : take (length before) all ≡ before
    front = take-append_seam before (line ∷ lines)

    met_there : (ws : List ℕ) (s : State) → LineLeads before (start tables low passed) passed ws s → AllSmall ws
        → passed + length before ≤ 2 ^ 64 → IsMet tables all (length before) line
    met_there ws s way small bound = record {
      line_is = slice_at before line lines;
      before =
          subst (IsSmallFront tables) (sym front) (small_front tables low passed before ws s way small bound);
    }

    module _ (ws : List ℕ) (s : State) (way : LineLeads before (start tables low passed) passed ws s)
        (small : AllSmall ws) (bound : passed + suc (length before) ≤ 2 ^ 64)
        (none : step s (suc (passed + length before)) (item_in s line) ≡ None) where
      abbrev met_here : IsMet tables all (length before) line
      met_here = met_there ws s way small (omega (arith, bound))

      abbrev stray_here : IsStray tables (take (length before) all) line
      stray_here =
          subst (λ (ls : List (List ℕ)). IsStray tables ls line) (sym front)
          (stray tables low passed before ws s way line bound none)

      -- a misnamed line is one where something is due
      due_there : (m : IsMisnamed tables before line) → IsDue s m.due m.name
      due_there m =
          let f = m.due_there in
          let next =
          front_next tables low passed before ws s way (heading_word m.due ++ m.name) bound f.0 f.1 f.2 in
          heading_due s (suc (passed + length before)) m.due m.name next.next next.goes

      bad_here : (n : ℕ) → n ≡ suc (passed + length before) → is_done s ≡ false
          → ((m : IsMisnamed tables before line) → IsDue s m.due m.name → ⊥)
          → RefusedBehind tables passed all rest (refusal.BadLine n)
      bad_here n number not_done other = (
        length before,
        line,
        omega (arith, number),
        met_here,
        subst (IsNone tables) (sym front) (none_here before ws s way small not_done (omega (arith, bound))),
        stray_here,
        subst (λ (ls : List (List ℕ)). IsMisnamed tables ls line → ⊥) (sym front) (λ m. other m (due_there m)),
      )

    -- where something is due
    module _ (ws : List ℕ) (v : Version) (due : Due) (dues : List Due) (trees : List CertTree)
        (way : LineLeads before (start tables low passed) passed ws (AtDue v (due ∷ dues) trees)) (small : AllSmall ws)
        (bound : passed + suc (length before) ≤ 2 ^ 64)
        (none : step (AtDue v (due ∷ dues) trees) (suc (passed + length before)) (Plain line) ≡ None) where
      abbrev here : State
      here = AtDue v (due ∷ dues) trees

      abbrev due_front : IsFront tables (before ++ (heading_word due ++ due_name due) ∷ [])
      due_front =
          finished tables _ (before ++ heading_line due ∷ [])
          (line_stands tables here (suc (passed + length before)) (heading_line due) _ before
          (takes_heading v due dues (suc (passed + length before)) trees)
          (stand tables low passed before ws here way))

      misnamed : (starts_with nat_eq line (heading_word due) && is_utf8 line) ≡ true → IsMisnamed tables before line
      misnamed is =
          let parts = and_parts (starts_with nat_eq line (heading_word due)) (is_utf8 line) is in
          let begins =
          (starts_is Decides-eqb line (heading_word due) (starts_with nat_eq line (heading_word due)) refl).0 parts.0 in
          record {
            due = due;
            name = due_name due;
            other = drop (length (heading_word due)) line;
            due_there = due_front;
            line_is = begins;
            differs = λ same.
                let whole : line ≡ heading_line due =
                begins ∙ ap (λ (name : List ℕ). heading_word due ++ name) same in
                let goes = takes_heading v due dues (suc (passed + length before)) trees in
                let stops : step here (suc (passed + length before)) (Plain (heading_line due)) ≡ None =
                ap (λ (l : List ℕ). step here (suc (passed + length before)) (Plain l)) (sym whole) ∙ none in
                absurd (cc);
            text = parts.1;
          }

      named : (test : Bool) → (starts_with nat_eq line (heading_word due) && is_utf8 line) ≡ test → (n : ℕ)
          → n ≡ suc (passed + length before)
          → RefusedBehind tables passed all rest (if test then refusal.WrongName n else refusal.BadLine n)
      named true is n number = (
        length before,
        line,
        omega (arith, number),
        met_there ws here way small (omega (arith, bound)),
        stray_here ws here way small bound none,
        subst (λ (ls : List (List ℕ)). IsMisnamed tables ls line) (sym front) (misnamed is),
      )
      named false is n number =
          bad_here ws here way small bound none n number refl (λ m at.
          let starts =
          (starts_is Decides-eqb line (heading_word due) (starts_with nat_eq line (heading_word due)) refl).1
          m.other (m.line_is ∙ ap (λ (word : List ℕ). word ++ m.other) at.0) in
          let utf8 : is_utf8 line ≡ true = m.text in
          let both : (starts_with nat_eq line (heading_word due) && is_utf8 line) ≡ true = rw (starts, utf8) refl in
          absurd (cc))

    refused : (ws : List ℕ) (s : State) → LineLeads before (start tables low passed) passed ws s → AllSmall ws
        → passed + suc (length before) ≤ 2 ^ 64 → step s (suc (passed + length before)) (item_in s line) ≡ None
        → (n : ℕ) → n ≡ suc (passed + length before) → RefusedBehind tables passed all rest (refusal_at s n line)
    refused ws (First dues) way small bound none n number =
        bad_here ws (First dues) way small bound none n number refl (λ m at. at)
    refused ws (AtDue v [] trees) way small bound none n number =
        bad_here ws (AtDue v [] trees) way small bound none n number refl (λ m at. at)
    refused ws (AtDue v (due ∷ dues) trees) way small bound none n number =
        named ws v due dues trees way small bound none
        (starts_with nat_eq line (heading_word due) && is_utf8 line) refl n number
    refused ws (AtList p) way small bound none n number =
        bad_here ws (AtList p) way small bound none n number refl (λ m at. at)
    refused ws (AtNode v main p nodes pending count) way small bound none n number =
        bad_here ws (AtNode v main p nodes pending count) way small bound none n number refl (λ m at. at)
    refused ws (Done v certs) way small bound none n number = (
      length before,
      v,
      trees_in certs,
      omega (arith, number),
      subst (λ (ls : List (List ℕ)). IsCertificate tables ls v (trees_in certs)) (sym front)
          (certificate_is tables low passed before ws v certs way small (omega (arith, bound))),
      inl (omega (arith, length-append before (line ∷ lines))),
    )

    -- ---- a line with which a tree passes the most leaves

    wide_here : (ws : List ℕ) (s : State) → LineLeads before (start tables low passed) passed ws s → AllSmall ws
        → passed + suc (length before) ≤ 2 ^ 64 → (st : Stepped)
        → step s (suc (passed + length before)) (item_in s line) ≡ Some st → most_leaves < st.width → (n : ℕ)
        → n ≡ suc (passed + length before) → RefusedBehind tables passed all rest (refusal.TooWide n)
    wide_here ws s way small bound st goes large n number =
        let size : suc (length before) ≡ length before + 1 = omega arith in
        let more : take (suc (length before)) all ≡ before ++ line ∷ [] =
        ap (λ (k : ℕ). take k all) size ∙ take-append-add before (line ∷ lines) 1 in
        let stands = line_stands tables s (suc (passed + length before)) line st before goes
        (stand tables low passed before ws s way) in (
          length before,
          line,
          omega (arith, number),
          met_there ws s way small (omega (arith, bound)),
          subst (IsFront tables) (sym more) (finished tables st.state (before ++ line ∷ []) stands),
          subst (λ (ls : List (List ℕ)). IsSmallFront tables ls → ⊥) (sym more)
              (wide tables low passed before ws s way line bound st goes large),
        )

    -- ---- one line

    one_met : (ws : List ℕ) (s : State) → LineLeads before (start tables low passed) passed ws s → AllSmall ws → (n : ℕ)
        → n ≡ passed + length before → n + suc (length lines) ≤ 2 ^ 64
        → ((st : Stepped) → step s (suc n) (item_in s line) ≡ Some st → st.width ≤ most_leaves
        → Explains tables passed all rest (outcome lines st.state (suc n) rest))
        → (o : Option Stepped) → step s (suc n) (item_in s line) ≡ o
        → Explains tables passed all rest (met s (suc n) line o (λ next. outcome lines next (suc n) rest))
    one_met ws s way small n count bound further None at =
        refused ws s way small (omega (arith, bound, count))
        (subst (λ (k : ℕ). step s (suc k) (item_in s line) ≡ None) count at) (suc n) (ap suc count)
    one_met ws s way small n count bound further (Some st) at = by (nat_le st.width most_leaves) refl
      where
        by : (fits : Bool) → nat_le st.width most_leaves ≡ fits
            → Explains tables passed all rest
            (if fits then outcome lines st.state (suc n) rest else Err (refusal.TooWide (suc n)))
        by true fits = further st at (grind (arith, nat_tests))
        by false fits =
            wide_here ws s way small (omega (arith, bound, count)) st
            (subst (λ (k : ℕ). step s (suc k) (item_in s line) ≡ Some st) count at) (grind (arith, nat_tests)) (suc n)
            (ap suc count)

  pub explained : (lines before : List (List ℕ)) (ws : List ℕ) (s : State)
      → LineLeads before (start tables low passed) passed ws s → AllSmall ws → (n : ℕ) → n ≡ passed + length before
      → n + length lines ≤ 2 ^ 64 → Explains tables passed (before ++ lines) rest (outcome lines s n rest)
  explained [] before ws s way small n count bound =
      subst (λ (ls : List (List ℕ)). Explains tables passed ls rest (ended_in s n rest)) (sym (append-nil before))
      (ends before ws s way small n count (omega (arith, bound, count)))
  explained (line ∷ lines) before ws s way small n count bound =
      one_met before line lines ws s way small n count bound (λ st goes fits.
      subst (λ (ls : List (List ℕ)). Explains tables passed ls rest (outcome lines st.state (suc n) rest))
      (append_assoc before (line ∷ []) lines)
      (explained lines (before ++ line ∷ []) (ws ++ st.width ∷ []) st.state
      (line_leads_last before line (start tables low passed) passed n ws s st count way goes)
      (small_last ws st.width small fits) (suc n) (omega (arith, count, length-append before (line ∷ [])))
      (omega (arith, bound))))
      (step s (suc n) (item_in s line)) refl
