-- Where lines lead, one behind the other.
use Rattle.std.proofs.Common.{◌≡◌, ℕ, zero, suc, ◌+◌, ◌^◌, ◌<◌, ◌≤◌, Bool, true, false, List, [], ◌∷◌, ◌++◌, length}
use Rattle.std.proofs.Common.{map, take}
use Rattle.std.proofs.Common.{Some, None, refl, sym, ap, ◌∙◌, subst, arith, length-append}
use Rattle.std.proofs.lemmas.Option.{slice_get_within}
use Rattle.cat_guard.specs.declared.table.TableTarget.{TableTarget}
use Rattle.cat_guard.specs.declared.tree.CitedNode.{CitedNode}
use Rattle.cat_guard.specs.declared.tree.CitedNode.TheVariants as cited
use Rattle.cat_cert.specs.declared.certificate.CertTree.{CertTree}
use Rattle.cat_cert.specs.declared.certificate.Version.{Version}
use Rattle.cat_cert.specs.declared.certificate.Version.TheVariants as version
use Rattle.cat_cert.specs.Lines.{Due, ScopeDue, TargetDue}
use Rattle.cat_cert.specs.Certified.{is_atom_of}
use Rattle.cat_cert.specs.inside.States.{Growing, State, First, AtDue, AtList, AtNode, Done, Stepped}
use Rattle.cat_cert.specs.inside.States.{after_list, after_node, leaves_there}
use Rattle.cat_cert.specs.inside.Steps.{Item, item_in, step, after_heading}
use Rattle.cat_cert.proofs.LineLemmas.{IsLowNode, node_written}
use Rattle.cat_cert.proofs.StepLemmas.{item_line, took, Took}

-- what is read leads on, from a state behind so many lines: the leaves up to and with each, and the last state
abbrev pub Leads : List Item → State → ℕ → List ℕ → State → Type 0
Leads [] s n ws last = (ws ≡ []) × (last ≡ s)
Leads (item ∷ items) s n ws last =
    (st : Stepped) × (vs : List ℕ) × (step s (suc n) item ≡ Some st) × (ws ≡ st.width ∷ vs)
    × Leads items st.state (suc n) vs last

-- lines lead on
abbrev pub LineLeads : List (List ℕ) → State → ℕ → List ℕ → State → Type 0
LineLeads [] s n ws last = (ws ≡ []) × (last ≡ s)
LineLeads (line ∷ lines) s n ws last =
    (st : Stepped) × (vs : List ℕ) × (step s (suc n) (item_in s line) ≡ Some st) × (ws ≡ st.width ∷ vs)
    × LineLeads lines st.state (suc n) vs last

-- ---- one behind the other

pub leads_on : (xs ys : List Item) (s : State) (n m : ℕ) (ws vs : List ℕ) (mid last : State) → m ≡ n + length xs
    → Leads xs s n ws mid → Leads ys mid m vs last → Leads (xs ++ ys) s n (ws ++ vs) last
leads_on [] ys s n m ws vs mid last count one two =
    let same : m ≡ n = omega (arith, count) in
    subst (λ (all : List ℕ). Leads ys s n all last) (ap (λ z. z ++ vs) (sym one.0))
    (subst (λ (k : ℕ). Leads ys s k vs last) same (subst (λ from. Leads ys from m vs last) one.1 two))
leads_on (x ∷ xs) ys s n m ws vs mid last count one two = (
  one.0,
  one.1 ++ vs,
  one.2,
  ap (λ z. z ++ vs) one.3,
  leads_on xs ys one.0.state (suc n) m one.1 vs mid last (omega (arith, count)) one.4 two,
)

-- one more
pub leads_first : (x : Item) (xs : List Item) (s mid last : State) (n w : ℕ) (ws : List ℕ)
    → step s (suc n) x ≡ Some (record { width = w; state = mid }) → Leads xs mid (suc n) ws last
    → Leads (x ∷ xs) s n (w ∷ ws) last
leads_first x xs s mid last n w ws one rest = (record { width = w; state = mid }, ws, one, refl, rest)

pub line_leads_last : (lines : List (List ℕ)) (line : List ℕ) (s : State) (n m : ℕ) (ws : List ℕ) (mid : State)
    (st : Stepped) → m ≡ n + length lines → LineLeads lines s n ws mid → step mid (suc m) (item_in mid line) ≡ Some st
    → LineLeads (lines ++ line ∷ []) s n (ws ++ st.width ∷ []) st.state
line_leads_last [] line s n m ws mid st count one last =
    let same : m ≡ n = omega (arith, count) in
    let here : step s (suc n) (item_in s line) ≡ Some st =
    subst (λ (from : State). step from (suc n) (item_in from line) ≡ Some st) one.1
    (subst (λ (k : ℕ). step mid (suc k) (item_in mid line) ≡ Some st) same last) in
    (st, [], here, ap (λ z. z ++ st.width ∷ []) one.0, (refl, refl))
line_leads_last (x ∷ xs) line s n m ws mid st count one last = (
  one.0,
  one.1 ++ st.width ∷ [],
  one.2,
  ap (λ z. z ++ st.width ∷ []) one.3,
  line_leads_last xs line one.0.state (suc n) m one.1 mid st (omega (arith, count)) one.4 last,
)

-- ---- there is one way

same_step : (st to : Stepped) → Some st ≡ Some to → st ≡ to
same_step st to h = cc

-- two ways come to one
pub record AreOne (ws vs : List ℕ) (s t : State) : Type 0 where
  pub widths : ws ≡ vs
  pub state : s ≡ t

pub one_way : (lines : List (List ℕ)) (s : State) (n : ℕ) (ws vs : List ℕ) (last other : State)
    → LineLeads lines s n ws last → LineLeads lines s n vs other → AreOne ws vs last other
one_way [] s n ws vs last other one two = record { widths = one.0 ∙ sym two.0; state = one.1 ∙ sym two.1 }
one_way (x ∷ xs) s n ws vs last other one two =
    let same : one.0 ≡ two.0 = same_step one.0 two.0 (sym one.2 ∙ two.2) in
    let rest = one_way xs two.0.state (suc n) one.1 two.1 last other
    (subst (λ (st : Stepped). LineLeads xs st.state (suc n) one.1 last) same one.4) two.4 in
    record {
      widths =
          one.3 ∙ ap (λ (st : Stepped). st.width ∷ one.1) same ∙ ap (λ z. two.0.width ∷ z) rest.widths ∙ sym two.3;
      state = rest.state;
    }

-- the way of a front
pub record Front (lines : List (List ℕ)) (s : State) (n : ℕ) (line : List ℕ) : Type 0 where
  pub widths : List ℕ
  pub state : State
  pub way : LineLeads lines s n widths state
  pub next : Stepped
  pub goes : step state (suc (n + length lines)) (item_in state line) ≡ Some next

pub front_of : (lines : List (List ℕ)) (line : List ℕ) (s : State) (n : ℕ) (ws : List ℕ) (last : State)
    → LineLeads (lines ++ line ∷ []) s n ws last → (f : Front lines s n line) × (ws ≡ f.widths ++ f.next.width ∷ [])
front_of [] line s n ws last h =
    let same : suc (n + 0) ≡ suc n = omega arith in (
      record {
        widths = [];
        state = s;
        way = (refl, refl);
        next = h.0;
        goes = ap (λ (k : ℕ). step s k (item_in s line)) same ∙ h.2;
      },
      h.3 ∙ ap (λ z. h.0.width ∷ z) h.4.0,
    )
front_of (x ∷ xs) line s n ws last h =
    let rest = front_of xs line h.0.state (suc n) h.1 last h.4 in
    let f = rest.0 in
    let same : suc (n + length (x ∷ xs)) ≡ suc (suc n + length xs) = omega arith in (
      record {
        widths = h.0.width ∷ f.widths;
        state = f.state;
        way = (h.0, f.widths, h.2, refl, f.way);
        next = f.next;
        goes = ap (λ (k : ℕ). step f.state k (item_in f.state line)) same ∙ f.goes;
      },
      h.3 ∙ ap (λ z. h.0.width ∷ z) rest.1,
    )

-- ---- numbers that fit

-- the atoms of a target are numbered below 2 ^ 64
abbrev pub IsLowTarget : TableTarget → Type 0
IsLowTarget t = (a : ℕ) → is_atom_of t a ≡ true → a < 2 ^ 64

-- those of each target that is due
abbrev pub AreLow : List Due → Type 0
AreLow [] = Unit {0}
AreLow (ScopeDue name ∷ dues) = AreLow dues
AreLow (TargetDue t ∷ dues) = IsLowTarget t × AreLow dues

-- those of a state behind so many lines, with no more named trees
abbrev pub IsLow : State → ℕ → Type 0
IsLow (First dues) n = AreLow dues
IsLow (AtDue v dues trees) n = AreLow dues
IsLow (AtList p) n = IsLowTarget p.target × AreLow p.dues × (length p.named ≤ n)
IsLow (AtNode v main p nodes pending count) n = IsLowTarget p.target × AreLow p.dues × (length p.named ≤ n)
IsLow (Done v trees) n = Unit {0}

low_list : (v : Version) (main : Bool) (p : Growing) (nodes : List CitedNode) (count n : ℕ) → IsLowTarget p.target
    → AreLow p.dues → length p.named ≤ n → IsLow (after_list v main p nodes count) (suc n)
low_list v true p nodes count n target dues most = dues
low_list v false p nodes count n target dues most =
    (target, dues, omega (arith, length-append p.named (count ∷ []), most))

low_node : (v : Version) (main : Bool) (p : Growing) (nodes : List CitedNode) (pending count n : ℕ) (node : CitedNode)
    → IsLowTarget p.target → AreLow p.dues → length p.named ≤ n
    → IsLow (after_node v main p nodes pending count node) (suc n)
low_node v main p nodes pending count n (cited.Split a) target dues most = (target, dues, omega (arith, most))
low_node v main p nodes zero count n cited.Leaf target dues most = low_list v main p nodes count n target dues most
low_node v main p nodes (suc pending) count n cited.Leaf target dues most = (target, dues, omega (arith, most))
low_node v main p nodes zero count n (cited.Cite i) target dues most = low_list v main p nodes count n target dues most
low_node v main p nodes (suc pending) count n (cited.Cite i) target dues most = (target, dues, omega (arith, most))

low_heading : (v : Version) (due : Due) (dues : List Due) (trees : List CertTree) (n m : ℕ) → AreLow (due ∷ dues)
    → IsLow (after_heading v due dues trees n) m
low_heading v (ScopeDue name) dues trees n m low = low
low_heading version.One (TargetDue t) dues trees n m low = (low.0, low.1, omega arith)
low_heading version.Two (TargetDue t) dues trees n m low = (low.0, low.1, omega arith)

low_after : (s : State) (n : ℕ) (item : Item) (st : Stepped) → Took s (suc n) item st → IsLow s n
    → IsLow st.state (suc n)
low_after (First dues) n item st h low = subst (λ (to : Stepped). IsLow to.state (suc n)) (sym h.1.1) low
low_after (AtDue v [] trees) n item st h low = subst (λ (to : Stepped). IsLow to.state (suc n)) (sym h.1) tt
low_after (AtDue v (due ∷ dues) trees) n item st h low =
    subst (λ (to : Stepped). IsLow to.state (suc n)) (sym h.1) (low_heading v due dues trees (suc n) (suc n) low)
low_after (AtList p) n item st h low =
    subst (λ (to : Stepped). IsLow to.state (suc n)) (sym h.1.1) (low.0, low.1, omega (arith, low.2))
low_after (AtNode v main p nodes pending count) n item st h low =
    subst (λ (to : Stepped). IsLow to.state (suc n)) (sym h.step_is)
    (low_node v main p (nodes ++ h.node ∷ []) pending (count + h.leaves) n h.node low.0 low.1 low.2)
low_after (Done v trees) n item st h low = absurd (h)

-- ---- what is read is read of its line

pub atom_there : (test : ℕ → Bool) (named : List ℕ) (a l : ℕ) (yes : Bool) → test a ≡ yes
    → (leaves_there test named (cited.Split a) ≡ Some l) → test a ≡ true
atom_there test named a l true is h = is
atom_there test named a l false is h =
    let none : leaves_there test named (cited.Split a) ≡ None = rw is refl in absurd (cc)

node_low : (p : Growing) (n : ℕ) (node : CitedNode) (l : ℕ) → IsLowTarget p.target → length p.named ≤ n → n < 2 ^ 64
    → leaves_there (is_atom_of p.target) p.named node ≡ Some l → IsLowNode node
node_low p n (cited.Split a) l target most low there =
    target a (atom_there (is_atom_of p.target) p.named a l (is_atom_of p.target a) refl there)
node_low p n cited.Leaf l target most low there = tt
node_low p n (cited.Cite i) l target most low there = omega (arith, slice_get_within p.named i l there, most, low)

pub item_again : (s : State) (n : ℕ) (item : Item) (st : Stepped) → Took s (suc n) item st → IsLow s n → n < 2 ^ 64
    → item_in s (item_line item) ≡ item
item_again (First dues) n item st h low small = rw h.1.0 refl
item_again (AtDue v [] trees) n item st h low small = rw h.0 refl
item_again (AtDue v (due ∷ dues) trees) n item st h low small = rw h.0 refl
item_again (AtList p) n item st h low small = rw h.1.0 refl
item_again (AtNode v main p nodes pending count) n item st h low small =
    subst (λ (it : Item). item_in (AtNode v main p nodes pending count) (item_line it) ≡ it) (sym h.item_is)
    (rw (node_written h.node (node_low p n h.node h.leaves low.0 low.2 small h.there)) refl)
item_again (Done v trees) n item st h low small = absurd (h)

-- ---- fronts

-- the way of the first lines of what is read
pub record Way (lines more : List (List ℕ)) (s : State) (n : ℕ) (ws : List ℕ) (last : State) : Type 0 where
  pub widths : List ℕ
  pub state : State
  pub way : LineLeads lines s n widths state
  pub widths_are : widths ≡ take (length lines) ws
  pub whole : more ≡ [] → state ≡ last

pub front_way : (items : List Item) (lines more : List (List ℕ)) (s : State) (n : ℕ) (ws : List ℕ) (last : State)
    → Leads items s n ws last → map item_line items ≡ lines ++ more → IsLow s n → n + length lines ≤ 2 ^ 64
    → Way lines more s n ws last
front_way [] [] more s n ws last h is low small =
    record { widths = []; state = s; way = (refl, refl); widths_are = refl; whole = λ none. sym h.1 }
front_way (item ∷ items) [] more s n ws last h is low small = record {
  widths = [];
  state = s;
  way = (refl, refl);
  widths_are = refl;
  whole = λ none. absurd (cc);
}
front_way [] (line ∷ lines) more s n ws last h is low small = absurd (cc)
front_way (item ∷ items) (line ∷ lines) more s n ws last h is low small =
    let first : item_line item ≡ line = cc in
    let others : map item_line items ≡ lines ++ more = cc in
    let taken = took s (suc n) item h.0 h.2 in
    let again : item_in s line ≡ item =
    ap (item_in s) (sym first) ∙ item_again s n item h.0 taken low (omega (arith, small)) in
    let rest = front_way items lines more h.0.state (suc n) h.1 last h.4 others (low_after s n item h.0 taken low)
    (omega (arith, small)) in
    record {
      widths = h.0.width ∷ rest.widths;
      state = rest.state;
      way = (h.0, rest.widths, ap (step s (suc n)) again ∙ h.2, refl, rest.way);
      widths_are = ap (λ z. h.0.width ∷ z) rest.widths_are ∙ sym (ap (take (suc (length lines))) h.3);
      whole = rest.whole;
    }
