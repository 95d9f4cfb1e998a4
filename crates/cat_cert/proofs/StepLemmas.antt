-- The steps of reading, by what is read in each state.
use Rattle.std.proofs.Common.{◌≡◌, ℕ, ◌+◌, Bool, true, false, List, [], ◌∷◌, ◌++◌, length, Option, Some, None}
use Rattle.std.proofs.Common.{◌∙◌, refl, sym, ap, arith}
use Rattle.std.proofs.lemmas.Fmt.{decimal_digit}
use Rattle.std.specs.Prelude.{codes, if◌then◌else◌}
use Rattle.std.specs.Str.{bytes_eq}
use Rattle.std.proofs.lemmas.Slice.Eq.{bytes_eq-Decides}
use Rattle.cat_guard.specs.declared.tree.CitedNode.{CitedNode}
use Rattle.cat_cert.specs.declared.certificate.CertTree.{CertTree}
use Rattle.cat_cert.specs.declared.certificate.Version.{Version}
use Rattle.cat_cert.specs.declared.certificate.Version.TheVariants as version
use Rattle.cat_cert.specs.Lines.{Due, heading_line, first_line, node_line}
use Rattle.cat_cert.specs.Certified.{is_atom_of}
use Rattle.cat_cert.specs.inside.LineForms.{node_of, name_line, list_begun}
use Rattle.cat_cert.specs.inside.States.{Growing, State, First, AtDue, AtList, AtNode, Done, Stepped, to}
use Rattle.cat_cert.specs.inside.States.{with_head}
use Rattle.cat_cert.specs.inside.States.{leaves_there, after_node}
use Rattle.cat_cert.specs.inside.Steps.{Item, Plain, Node, node_item, item_in, after_heading, stepped_on}
use Rattle.cat_cert.specs.inside.Steps.{list_step, step}
use Rattle.cat_cert.proofs.LineLemmas.{node_read}

-- the line of what is read
abbrev pub item_line : Item → List ℕ
item_line (Plain line) = line
item_line (Node n) = node_line n

-- the line before a list of a tree of version 2: of the tree itself, or of its next named tree
abbrev pub list_line : Bool → Growing → List ℕ
list_line true p = codes "tree"
list_line false p = name_line (length p.names)

-- a step that belongs to no tree
abbrev pub Goes : Item → List ℕ → Stepped → State → Type 0
Goes item line st s = (item ≡ Plain line) × (st ≡ record { width = 0; state = s })

-- a node that may stand there
pub record IsNode (v : Version) (main : Bool) (p : Growing) (nodes : List CitedNode) (pending count : ℕ) (item : Item)
    (st : Stepped) : Type 0
  where
    pub node : CitedNode
    pub leaves : ℕ
    pub item_is : item ≡ Node node
    pub there : leaves_there (is_atom_of p.target) p.named node ≡ Some leaves
    pub step_is : st ≡ record {
      width = count + leaves;
      state = after_node v main p (nodes ++ node ∷ []) pending (count + leaves) node;
    }

-- what is read in each state, and where it leads
abbrev pub Took : State → ℕ → Item → Stepped → Type 0
Took (First dues) n item st = (v : Version) × Goes item (first_line v) st (AtDue v dues [])
Took (AtDue v [] trees) n item st = Goes item (codes "end") st (Done v trees)
Took (AtDue v (due ∷ dues) trees) n item st = Goes item (heading_line due) st (after_heading v due dues trees n)
Took (AtList p) n item st =
    (main : Bool) × Goes item (list_line main p) st (AtNode version.Two main (with_head p n) [] 0 0)
Took (AtNode v main p nodes pending count) n item st = IsNode v main p nodes pending count item st
Took (Done v trees) n item st = ⊥

-- ---- each step is one of these

-- one test of a line
tested : (line word : List ℕ) (s : State) (st : Stepped) (same : Bool) → bytes_eq line word ≡ same
    → (if same then to s else None) ≡ Some st → Goes (Plain line) word st s
tested line word s st true is h =
    let there : record { width = 0; state = s } ≡ st = cc in
    (ap (λ (l : List ℕ). Plain l) ((bytes_eq-Decides line word).0 is), sym there)
tested line word s st false is h = absurd (cc)

begun_is : (p : Growing) (line : List ℕ) (tree name : Bool) → bytes_eq line (codes "tree") ≡ tree
    → bytes_eq line (name_line (length p.names)) ≡ name → (main : Bool)
    → (if tree then Some true else if name then Some false else None) ≡ Some main → line ≡ list_line main p
begun_is p line true name one two main is =
    let same : true ≡ main = cc in
    (bytes_eq-Decides line (codes "tree")).0 one ∙ ap (λ (m : Bool). list_line m p) same
begun_is p line false true one two main is =
    let same : false ≡ main = cc in
    (bytes_eq-Decides line (name_line (length p.names))).0 two ∙ ap (λ (m : Bool). list_line m p) same
begun_is p line false false one two main is = absurd (cc)

took_list : (p : Growing) (n : ℕ) (line : List ℕ) (st : Stepped) (begun : Option Bool)
    → list_begun (length p.names) line ≡ begun → list_step p n begun ≡ Some st → Took (AtList p) n (Plain line) st
took_list p n line st None is h = absurd (cc)
took_list p n line st (Some main) is h =
    let there : record { width = 0; state = AtNode version.Two main (with_head p n) [] 0 0 } ≡ st = cc in
    let line_is =
    begun_is p line (bytes_eq line (codes "tree")) (bytes_eq line (name_line (length p.names))) refl refl main is in
    (main, (ap (λ (l : List ℕ). Plain l) line_is, sym there))

took_first : (dues : List Due) (n : ℕ) (line : List ℕ) (st : Stepped) (same : Bool)
    → bytes_eq line (first_line version.One) ≡ same
    → (if same then to (AtDue version.One dues [])
    else if bytes_eq line (first_line version.Two) then to (AtDue version.Two dues []) else None) ≡ Some st
    → Took (First dues) n (Plain line) st
took_first dues n line st true is h =
    (version.One, tested line (first_line version.One) (AtDue version.One dues []) st true is h)
took_first dues n line st false is h = (
  version.Two,
  tested line (first_line version.Two) (AtDue version.Two dues []) st
      (bytes_eq line (first_line version.Two)) refl h,
)

took_node : (v : Version) (main : Bool) (p : Growing) (nodes : List CitedNode) (pending count : ℕ) (node : CitedNode)
    (st : Stepped) (there : Option ℕ) → leaves_there (is_atom_of p.target) p.named node ≡ there
    → stepped_on v main p nodes pending count node there ≡ Some st
    → IsNode v main p nodes pending count (Node node) st
took_node v main p nodes pending count node st None is h = absurd (cc)
took_node v main p nodes pending count node st (Some leaves) is h =
    let there : record {
      width = count + leaves;
      state = after_node v main p (nodes ++ node ∷ []) pending (count + leaves) node;
    } ≡ st = cc in
    record { node = node; leaves = leaves; item_is = refl; there = is; step_is = sym there }

pub took : (s : State) (n : ℕ) (item : Item) (st : Stepped) → step s n item ≡ Some st → Took s n item st
unfolding step
took (First dues) n (Plain line) st h = took_first dues n line st (bytes_eq line (first_line version.One)) refl h
took (First dues) n (Node node) st h = absurd (cc)
took (AtDue v [] trees) n (Plain line) st h =
    tested line (codes "end") (Done v trees) st (bytes_eq line (codes "end")) refl h
took (AtDue v [] trees) n (Node node) st h = absurd (cc)
took (AtDue v (due ∷ dues) trees) n (Plain line) st h =
    tested line (heading_line due) (after_heading v due dues trees n) st (bytes_eq line (heading_line due)) refl h
took (AtDue v (due ∷ dues) trees) n (Node node) st h = absurd (cc)
took (AtList p) n (Plain line) st h = took_list p n line st (list_begun (length p.names) line) refl h
took (AtList p) n (Node node) st h = absurd (cc)
took (AtNode v main p nodes pending count) n (Plain line) st h = absurd (cc)
took (AtNode v main p nodes pending count) n (Node node) st h =
    took_node v main p nodes pending count node st (leaves_there (is_atom_of p.target) p.named node) refl h
took (Done v trees) n item st h = absurd (cc)

-- ---- and each of these is a step

itself : (word : List ℕ) → bytes_eq word word ≡ true
itself word = (bytes_eq-Decides word word).1 refl

two_is_not_one : bytes_eq (first_line version.Two) (first_line version.One) ≡ false
two_is_not_one = rw (decimal_digit 1 (omega arith), decimal_digit 2 (omega arith)) refl

pub takes_first : (v : Version) (dues : List Due) (n : ℕ)
    → step (First dues) n (Plain (first_line v)) ≡ to (AtDue v dues [])
unfolding step
takes_first version.One dues n = rw (itself (first_line version.One)) refl
takes_first version.Two dues n = rw (two_is_not_one, itself (first_line version.Two)) refl

pub takes_end : (v : Version) (n : ℕ) (trees : List CertTree)
    → step (AtDue v [] trees) n (Plain (codes "end")) ≡ to (Done v trees)
unfolding step
takes_end v n trees = refl

pub takes_heading : (v : Version) (due : Due) (dues : List Due) (n : ℕ) (trees : List CertTree)
    → step (AtDue v (due ∷ dues) trees) n (Plain (heading_line due)) ≡ to (after_heading v due dues trees n)
unfolding step
takes_heading v due dues n trees = rw (itself (heading_line due)) refl

pub takes_list : (main : Bool) (p : Growing) (n : ℕ)
    → step (AtList p) n (Plain (list_line main p)) ≡ to (AtNode version.Two main (with_head p n) [] 0 0)
unfolding step
takes_list true p n = refl
takes_list false p n = rw (itself (name_line (length p.names))) refl

pub takes_node : (v : Version) (main : Bool) (p : Growing) (nodes : List CitedNode) (pending count n : ℕ)
    (node : CitedNode) (leaves : ℕ) → leaves_there (is_atom_of p.target) p.named node ≡ Some leaves
    → step (AtNode v main p nodes pending count) n (Node node) ≡ Some (record {
      width = count + leaves;
      state = after_node v main p (nodes ++ node ∷ []) pending (count + leaves) node;
    })
unfolding step
takes_node v main p nodes pending count n node leaves there = rw there refl

-- ---- lines

from_node : (line : List ℕ) (o : Option CitedNode) → node_of line ≡ o → item_line (node_item line o) ≡ line
from_node line None at = refl
from_node line (Some n) at = sym (node_read line n at)

-- what a line is read as has that line
pub line_of_item : (s : State) (line : List ℕ) → item_line (item_in s line) ≡ line
line_of_item (First dues) line = refl
line_of_item (AtDue v dues trees) line = refl
line_of_item (AtList p) line = refl
line_of_item (AtNode v main p nodes pending count) line = from_node line (node_of line) refl
line_of_item (Done v trees) line = refl
