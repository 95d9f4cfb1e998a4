-- How reading goes on from line to line.
use Rattle.std.specs.Prelude.{ℕ, suc, ◌+◌, nat_eq, nat_le, ◌&&◌, Bool, true, List, [], ◌∷◌, ◌++◌, length}
use Rattle.std.specs.Prelude.{Option, Some}
use Rattle.std.specs.Prelude.{None, codes, Result, Ok, Err, if◌then◌else◌}
use Rattle.std.specs.List.{starts_with}
use Rattle.std.specs.Str.{bytes_eq, is_utf8}
use Rattle.cat_guard.specs.declared.table.TableTarget.{TableTarget}
use Rattle.cat_guard.specs.declared.tree.CitedNode.{CitedNode}
use Rattle.cat_cert.specs.declared.certificate.CertTree.{CertTree}
use Rattle.cat_cert.specs.declared.certificate.Certificate.{Certificate}
use Rattle.cat_cert.specs.declared.certificate.Version.{Version}
use Rattle.cat_cert.specs.declared.certificate.Version.TheVariants as version
use Rattle.cat_walk.specs.Sizes.{most_leaves}
use Rattle.cat_cert.specs.declared.refusal.CertRefusal.{CertRefusal}
use Rattle.cat_cert.specs.declared.refusal.CertRefusal.TheVariants as refusal
use Rattle.cat_cert.specs.Lines.{Due, ScopeDue, TargetDue, heading_word, heading_line, first_line}
use Rattle.cat_cert.specs.Certified.{is_atom_of}
use Rattle.cat_cert.specs.inside.LineForms.{node_of, list_begun}
use Rattle.cat_cert.specs.inside.States.{Growing, State, First, AtDue, AtList, AtNode, Done, Stepped, to}
use Rattle.cat_cert.specs.inside.States.{with_head}
use Rattle.cat_cert.specs.inside.States.{leaves_there, after_node}

-- ---- one line

-- what a line is read as: a node, or a line of another form
pub data Item : Type 0 where
  Plain : List ℕ → Item
  Node : CitedNode → Item

-- a line where nodes are read
abbrev pub node_item : List ℕ → Option CitedNode → Item
node_item line None = Plain line
node_item line (Some n) = Node n

-- a line in that state
abbrev pub item_in : State → List ℕ → Item
item_in (First dues) line = Plain line
item_in (AtDue v dues trees) line = Plain line
item_in (AtList p) line = Plain line
item_in (AtNode v main p nodes pending count) line = node_item line (node_of line)
item_in (Done v trees) line = Plain line

-- behind the heading of a target in that line
abbrev pub at_tree : Version → TableTarget → List Due → List CertTree → ℕ → State
at_tree version.One t dues trees n =
    AtNode version.One true
    (record { target = t; dues = dues; trees = trees; names = []; named = []; heads = n ∷ [] }) [] 0 0
at_tree version.Two t dues trees n =
    AtList (record { target = t; dues = dues; trees = trees; names = []; named = []; heads = [] })

-- behind the heading of something due
abbrev pub after_heading : Version → Due → List Due → List CertTree → ℕ → State
after_heading v (ScopeDue name) dues trees n = AtDue v dues trees
after_heading v (TargetDue t) dues trees n = at_tree v t dues trees n

-- behind a node with so many leaves
abbrev pub stepped_on : Version → Bool → Growing → List CitedNode → ℕ → ℕ → CitedNode → Option ℕ → Option Stepped
stepped_on v main p nodes pending count n None = None
stepped_on v main p nodes pending count n (Some leaves) = Some (record {
  width = count + leaves;
  state = after_node v main p (nodes ++ n ∷ []) pending (count + leaves) n;
})

-- behind the line before a list of a tree of version 2
abbrev pub list_step : Growing → ℕ → Option Bool → Option Stepped
list_step p n None = None
list_step p n (Some main) = to (AtNode version.Two main (with_head p n) [] 0 0)

-- where what is read in the line of that number leads
unfoldable pub step : State → ℕ → Item → Option Stepped
step (First dues) n (Plain line) =
    if bytes_eq line (first_line version.One) then to (AtDue version.One dues [])
    else if bytes_eq line (first_line version.Two) then to (AtDue version.Two dues []) else None
step (First dues) n (Node node) = None
step (AtDue v [] trees) n (Plain line) = if bytes_eq line (codes "end") then to (Done v trees) else None
step (AtDue v (due ∷ dues) trees) n (Plain line) =
    if bytes_eq line (heading_line due) then to (after_heading v due dues trees n) else None
step (AtDue v dues trees) n (Node node) = None
step (AtList p) n (Plain line) = list_step p n (list_begun (length p.names) line)
step (AtList p) n (Node node) = None
step (AtNode v main p nodes pending count) n (Plain line) = None
step (AtNode v main p nodes pending count) n (Node node) =
    stepped_on v main p nodes pending count node (leaves_there (is_atom_of p.target) p.named node)
step (Done v trees) n item = None

-- ---- the whole

-- why a line is refused where a heading of that word is due
abbrev pub heading_refusal : List ℕ → ℕ → List ℕ → CertRefusal
heading_refusal word n line =
    if starts_with nat_eq line word && is_utf8 line then refusal.WrongName n else refusal.BadLine n

-- why a line with which nothing goes on is refused
abbrev pub refusal_at : State → ℕ → List ℕ → CertRefusal
refusal_at (First dues) n line = refusal.BadLine n
refusal_at (AtDue v [] trees) n line = refusal.BadLine n
refusal_at (AtDue v (due ∷ dues) trees) n line = heading_refusal (heading_word due) n line
refusal_at (AtList p) n line = refusal.BadLine n
refusal_at (AtNode v main p nodes pending count) n line = refusal.BadLine n
refusal_at (Done v trees) n line = refusal.Trailing n

-- where the lines end, behind so many, and these bytes follow
abbrev pub ended_in : State → ℕ → List ℕ → Result Certificate CertRefusal
ended_in (First dues) n rest = Err refusal.Short
ended_in (AtDue v dues trees) n rest = Err refusal.Short
ended_in (AtList p) n rest = Err refusal.Short
ended_in (AtNode v main p nodes pending count) n rest = Err refusal.Short
ended_in (Done v trees) n [] = Ok (record { version = v; trees = trees })
ended_in (Done v trees) n (byte ∷ rest) = Err (refusal.Trailing (suc n))

-- a step, and how reading ends behind it
abbrev pub met : State → ℕ → List ℕ → Option Stepped → (State → Result Certificate CertRefusal)
    → Result Certificate CertRefusal
met s n line None further = Err (refusal_at s n line)
met s n line (Some to) further = if nat_le to.width most_leaves then further to.state else Err (refusal.TooWide n)

-- how reading ends, from a state behind so many lines
abbrev pub outcome : List (List ℕ) → State → ℕ → List ℕ → Result Certificate CertRefusal
outcome [] s n rest = ended_in s n rest
outcome (line ∷ lines) s n rest =
    met s (suc n) line (step s (suc n) (item_in s line)) (λ next. outcome lines next (suc n) rest)
