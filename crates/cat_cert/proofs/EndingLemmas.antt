-- How reading ends, line by line.
use Rattle.std.proofs.Common.{◌≡◌, ℕ, zero, suc, ◌+◌, ◌<◌, ◌≤◌, inl, inr, Bool, true, false, List, [], ◌∷◌, ◌++◌}
use Rattle.std.proofs.Common.{length}
use Rattle.std.proofs.Common.{drop, Option, Some, None, Result, Ok, Err, refl, sym, ap, ◌∙◌, arith, length-drop}
use Rattle.std.specs.Prelude.{nat_le, codes, ◌==◌}
use Rattle.std.specs.Str.{bytes_eq}
use Rattle.std.proofs.lemmas.Bool.Decides.{nat_tests}
use Rattle.std.proofs.lemmas.Fmt.{decimal_digit}
use Rattle.std.proofs.lemmas.Slice.Eq.{bytes_eq-Decides}
use Rattle.cat_guard.specs.declared.table.TableTarget.{TableTarget}
use Rattle.cat_guard.specs.declared.tree.CitedNode.{CitedNode}
use Rattle.cat_guard.specs.declared.tree.CitedNode.TheVariants as cited
use Rattle.cat_cert.specs.declared.certificate.CertTree.{CertTree}
use Rattle.cat_cert.specs.declared.certificate.Certificate.{Certificate}
use Rattle.cat_cert.specs.declared.certificate.Version.{Version}
use Rattle.cat_cert.specs.declared.certificate.Version.TheVariants as version
use Rattle.cat_walk.specs.Sizes.{most_leaves}
use Rattle.cat_cert.specs.declared.refusal.CertRefusal.{CertRefusal}
use Rattle.cat_cert.specs.declared.refusal.CertRefusal.TheVariants as refusal
use Rattle.cat_cert.specs.Lines.{Due, heading_word, due_name, heading_line, first_line}
use Rattle.cat_cert.specs.Certified.{is_atom_of}
use Rattle.cat_cert.specs.Texts.{parted, byte_before}
use Rattle.cat_cert.specs.declared.place.Place.{Place}
use Rattle.cat_cert.specs.inside.LineForms.{node_of, list_begun}
use Rattle.cat_cert.specs.inside.States.{Growing, State, First, AtDue, AtList, AtNode, Done, Stepped, with_head}
use Rattle.cat_cert.specs.inside.States.{to, after_list, after_node, leaves_there, pending_after}
use Rattle.cat_cert.specs.inside.Steps.{Plain, Node, item_in, step, refusal_at, ended_in, met, outcome}
use Rattle.cat_cert.specs.inside.Steps.{after_heading, heading_refusal, list_step}
use Rattle.cat_cert.specs.inside.Outcomes.{lines_at, rest_at, IsNext, ending, StopsIn}
use Rattle.cat_cert.proofs.StepLemmas.{takes_first, takes_end, takes_heading, takes_node}

-- ---- a line

module _ (s : State) (bytes : List ℕ) (old new : Place) (line : List ℕ) (next : IsNext bytes old new (Some line)) where
  one_line : ending s bytes old ≡ met s new.line line (step s new.line (item_in s line))
      (λ to. outcome (lines_at bytes new) to new.line (rest_at bytes new))
  unfolding ending
  one_line =
      ap (λ (ls : List (List ℕ)). outcome ls s old.line (rest_at bytes old)) next.0
      ∙ ap (λ (rest : List ℕ). outcome (line ∷ lines_at bytes new) s old.line rest) next.1
      ∙ ap (λ (n : ℕ). met s n line (step s n (item_in s line))
      (λ to. outcome (lines_at bytes new) to n (rest_at bytes new))) (sym next.2)

  pub line_goes : (to : Stepped) → step s new.line (item_in s line) ≡ Some to → to.width ≤ most_leaves
      → ending s bytes old ≡ ending to.state bytes new
  unfolding ending
  line_goes to goes small =
      let fits : nat_le to.width most_leaves ≡ true = grind (arith, nat_tests) in
      one_line ∙ ap (λ (o : Option Stepped). met s new.line line o
      (λ to. outcome (lines_at bytes new) to new.line (rest_at bytes new))) goes ∙ rw fits refl

  pub line_stops : step s new.line (item_in s line) ≡ None → ending s bytes old ≡ Err (refusal_at s new.line line)
  line_stops none =
      one_line ∙ ap (λ (o : Option Stepped). met s new.line line o
      (λ to. outcome (lines_at bytes new) to new.line (rest_at bytes new))) none

  pub line_wide : (to : Stepped) → step s new.line (item_in s line) ≡ Some to → most_leaves < to.width
      → ending s bytes old ≡ Err (refusal.TooWide new.line)
  line_wide to goes large =
      let fits : nat_le to.width most_leaves ≡ false = grind (arith, nat_tests) in
      one_line ∙ ap (λ (o : Option Stepped). met s new.line line o
      (λ to. outcome (lines_at bytes new) to new.line (rest_at bytes new))) goes ∙ rw fits refl

pub no_line : (s : State) (bytes : List ℕ) (old new : Place) → IsNext bytes old new None
    → ending s bytes old ≡ ended_in s old.line (rest_at bytes old)
unfolding ending
no_line s bytes old new none = ap (λ (ls : List (List ℕ)). outcome ls s old.line (rest_at bytes old)) none

-- ---- nodes

module _ (v : Version) (main : Bool) (p : Growing) (nodes : List CitedNode) (pending count : ℕ) (bytes : List ℕ)
    (old new : Place) (line : List ℕ) (next : IsNext bytes old new (Some line)) where
  abbrev here : State
  here = AtNode v main p nodes pending count

  node_at : (n : CitedNode) → node_of line ≡ Some n → item_in here line ≡ Node n
  node_at n is = rw is refl

  pub no_node : node_of line ≡ None → ending here bytes old ≡ Err (refusal.BadLine new.line)
  unfolding step
  no_node none =
      let plain : item_in here line ≡ Plain line = rw none refl in
      line_stops here bytes old new line next (ap (step here new.line) plain ∙ plain_stops)
    where
      plain_stops : step here new.line (Plain line) ≡ None
      plain_stops = refl

  pub no_leaves : (n : CitedNode) → node_of line ≡ Some n → leaves_there (is_atom_of p.target) p.named n ≡ None
      → ending here bytes old ≡ Err (refusal.BadLine new.line)
  unfolding step
  no_leaves n is none =
      line_stops here bytes old new line next (ap (step here new.line) (node_at n is) ∙ node_stops)
    where
      node_stops : step here new.line (Node n) ≡ None
      node_stops = rw none refl

  module _ (n : CitedNode) (leaves : ℕ) (is : node_of line ≡ Some n)
      (there : leaves_there (is_atom_of p.target) p.named n ≡ Some leaves) where
    abbrev taken : step here new.line (item_in here line) ≡ Some (record {
      width = count + leaves;
      state = after_node v main p (nodes ++ n ∷ []) pending (count + leaves) n;
    })
    taken = ap (step here new.line) (node_at n is) ∙ takes_node v main p nodes pending count new.line n leaves there

    pub node_wide : most_leaves < count + leaves → ending here bytes old ≡ Err (refusal.TooWide new.line)
    node_wide large = line_wide here bytes old new line next _ taken large

    pub node_goes : count + leaves ≤ most_leaves
        → ending here bytes old ≡ ending (after_node v main p (nodes ++ n ∷ []) pending (count + leaves) n) bytes new
    node_goes small = line_goes here bytes old new line next _ taken small

-- behind a node, by how many subtrees follow
pub after_pending : (v : Version) (main : Bool) (p : Growing) (nodes : List CitedNode) (pending count : ℕ)
    (n : CitedNode)
    → (more : ℕ) → pending_after n pending ≡ Some more
    → after_node v main p nodes pending count n ≡ AtNode v main p nodes more count
after_pending v main p nodes pending count (cited.Split a) more is =
    let same : suc pending ≡ more = cc in
    ap (λ (k : ℕ). AtNode v main p nodes k count) same
after_pending v main p nodes zero count cited.Leaf more is = absurd (cc)
after_pending v main p nodes (suc pending) count cited.Leaf more is =
    let same : pending ≡ more = cc in
    ap (λ (k : ℕ). AtNode v main p nodes k count) same
after_pending v main p nodes zero count (cited.Cite i) more is = absurd (cc)
after_pending v main p nodes (suc pending) count (cited.Cite i) more is =
    let same : pending ≡ more = cc in
    ap (λ (k : ℕ). AtNode v main p nodes k count) same

pub after_none : (v : Version) (main : Bool) (p : Growing) (nodes : List CitedNode) (pending count : ℕ) (n : CitedNode)
    → pending_after n pending ≡ None → after_node v main p nodes pending count n ≡ after_list v main p nodes count
after_none v main p nodes pending count (cited.Split a) is = absurd (cc)
after_none v main p nodes zero count cited.Leaf is = refl
after_none v main p nodes (suc pending) count cited.Leaf is = absurd (cc)
after_none v main p nodes zero count (cited.Cite i) is = refl
after_none v main p nodes (suc pending) count (cited.Cite i) is = absurd (cc)

-- ---- lists of a tree of version 2

module _ (p : Growing) (bytes : List ℕ) (old new : Place) (line : List ℕ)
    (next : IsNext bytes old new (Some line)) where
  pub part_goes : (main : Bool) → list_begun (length p.names) line ≡ Some main
      → ending (AtList p) bytes old ≡ ending (AtNode version.Two main (with_head p new.line) [] 0 0) bytes new
  unfolding step
  part_goes main is =
      line_goes (AtList p) bytes old new line next _ (ap (list_step p new.line) is) (omega arith)

  pub part_bad : list_begun (length p.names) line ≡ None
      → ending (AtList p) bytes old ≡ Err (refusal.BadLine new.line)
  unfolding step
  part_bad none = line_stops (AtList p) bytes old new line next (ap (list_step p new.line) none)

-- behind the tree itself, and behind a named tree, with the numbers of lines as they are kept
module _ (t : TableTarget) (dues : List Due) (trees : List CertTree) (names : List (List CitedNode))
    (named heads more_heads : List ℕ) (n : ℕ) (heads_are : more_heads ≡ heads ++ n ∷ []) (nodes : List CitedNode)
    (count : ℕ) (bytes : List ℕ) (last : Place) where
  abbrev begun : Growing
  begun = with_head (record {
    target = t;
    dues = dues;
    trees = trees;
    names = names;
    named = named;
    heads = heads;
  }) n

  pub main_listed : (main : Bool) → main ≡ true → ending (after_list version.Two main begun nodes count) bytes last
      ≡ ending (AtDue version.Two dues (trees ++ record {
        tree = record { names = names; main = nodes };
        heads = more_heads;
      } ∷ [])) bytes last
  main_listed main is =
      ap (λ (b : Bool). ending (after_list version.Two b begun nodes count) bytes last) is
      ∙ ap (λ (hs : List ℕ). ending (AtDue version.Two dues (trees ++ record {
        tree = record { names = names; main = nodes };
        heads = hs;
      } ∷ [])) bytes last) (sym heads_are)

  pub name_listed : (main : Bool) → main ≡ false → (more_names : List (List CitedNode)) (more_named : List ℕ)
      → more_names ≡ names ++ nodes ∷ [] → more_named ≡ named ++ count ∷ []
      → ending (after_list version.Two main begun nodes count) bytes last
      ≡ ending (AtList (record {
        target = t;
        dues = dues;
        trees = trees;
        names = more_names;
        named = more_named;
        heads = more_heads;
      })) bytes last
  name_listed main is more_names more_named names_are named_are =
      ap (λ (b : Bool). ending (after_list version.Two b begun nodes count) bytes last) is
      ∙ ap (λ (ns : List (List CitedNode)). ending (AtList (record {
        target = t;
        dues = dues;
        trees = trees;
        names = ns;
        named = named ++ count ∷ [];
        heads = heads ++ n ∷ [];
      })) bytes last) (sym names_are)
      ∙ ap (λ (ls : List ℕ). ending (AtList (record {
        target = t;
        dues = dues;
        trees = trees;
        names = more_names;
        named = ls;
        heads = heads ++ n ∷ [];
      })) bytes last) (sym named_are)
      ∙ ap (λ (hs : List ℕ). ending (AtList (record {
        target = t;
        dues = dues;
        trees = trees;
        names = more_names;
        named = more_named;
        heads = hs;
      })) bytes last) (sym heads_are)

-- ---- refusals

pub stops_before : (why : CertRefusal) (begin end : Result Certificate CertRefusal) → begin ≡ end → StopsIn why end
    → StopsIn why begin
stops_before why begin end same (inl memory) = inl memory
stops_before why begin end same (inr is) = inr (same ∙ is)

pub pending_least : (n : CitedNode) (pending more : ℕ) → pending_after n pending ≡ Some more → more ≤ suc pending
pending_least (cited.Split a) pending more is = let same : suc pending ≡ more = cc in omega (arith, same)
pending_least cited.Leaf zero more is = absurd (cc)
pending_least cited.Leaf (suc pending) more is = let same : pending ≡ more = cc in omega (arith, same)
pending_least (cited.Cite i) zero more is = absurd (cc)
pending_least (cited.Cite i) (suc pending) more is = let same : pending ≡ more = cc in omega (arith, same)

-- ---- the first line

-- the word and the number
abbrev pub first_text : Version → List ℕ
first_text version.One = codes "catala-certificate 1"
first_text version.Two = codes "catala-certificate 2"

first_texts : (v : Version) → first_line v ≡ first_text v
first_texts version.One = rw (decimal_digit 1 (omega arith)) refl
first_texts version.Two = rw (decimal_digit 2 (omega arith)) refl

module _ (dues : List Due) (bytes : List ℕ) (old new : Place) (line : List ℕ) (next : IsNext bytes old new (Some line))
  where
    pub first_goes : (v : Version) → bytes_eq line (first_text v) ≡ true
        → ending (First dues) bytes old ≡ ending (AtDue v dues []) bytes new
    first_goes v is =
        let same : line ≡ first_line v = (bytes_eq-Decides line (first_text v)).0 is ∙ sym (first_texts v) in
        line_goes (First dues) bytes old new line next _
        (ap (λ (l : List ℕ). step (First dues) new.line (Plain l)) same ∙ takes_first v dues new.line) (omega arith)

    pub first_bad : bytes_eq line (first_text version.One) ≡ false → bytes_eq line (first_text version.Two) ≡ false
        → ending (First dues) bytes old ≡ Err (refusal.BadLine new.line)
    unfolding step
    first_bad one two = line_stops (First dues) bytes old new line next stops
      where
        no_one : bytes_eq line (first_line version.One) ≡ false
        no_one = ap (bytes_eq line) (first_texts version.One) ∙ one

        no_two : bytes_eq line (first_line version.Two) ≡ false
        no_two = ap (bytes_eq line) (first_texts version.Two) ∙ two

        stops : step (First dues) new.line (Plain line) ≡ None
        stops = rw (no_one, no_two) refl

-- ---- headings

module _ (v : Version) (due : Due) (dues : List Due) (trees : List CertTree) (word name : List ℕ)
    (word_is : heading_word due ≡ word) (name_is : due_name due ≡ name) (bytes : List ℕ) (old new : Place)
    (line : List ℕ) (next : IsNext bytes old new (Some line)) where
  abbrev heading_is : heading_line due ≡ word ++ name
  heading_is = ap (λ (w : List ℕ). w ++ due_name due) word_is ∙ ap (λ (n : List ℕ). word ++ n) name_is

  pub heading_goes : bytes_eq line (word ++ name) ≡ true
      → ending (AtDue v (due ∷ dues) trees) bytes old ≡ ending (after_heading v due dues trees new.line) bytes new
  heading_goes is =
      let same : line ≡ heading_line due = (bytes_eq-Decides line (word ++ name)).0 is ∙ sym heading_is in
      line_goes (AtDue v (due ∷ dues) trees) bytes old new line next _
      (ap (λ (l : List ℕ). step (AtDue v (due ∷ dues) trees) new.line (Plain l)) same
      ∙ takes_heading v due dues new.line trees) (omega arith)

  pub heading_stops : bytes_eq line (word ++ name) ≡ false
      → ending (AtDue v (due ∷ dues) trees) bytes old ≡ Err (heading_refusal word new.line line)
  unfolding step
  heading_stops other =
      line_stops (AtDue v (due ∷ dues) trees) bytes old new line next stops
      ∙ ap (λ (w : List ℕ). Err (heading_refusal w new.line line)) word_is
    where
      no_heading : bytes_eq line (heading_line due) ≡ false
      no_heading = ap (bytes_eq line) heading_is ∙ other

      stops : step (AtDue v (due ∷ dues) trees) new.line (Plain line) ≡ None
      stops = rw no_heading refl

-- ---- the end

-- a byte in front of parts
byte_parts : (byte : ℕ) (e : List (List ℕ)) (r : List ℕ) → (byte_before byte e r).ended ≡ []
    → (byte_before byte e r).rest ≡ [] → ⊥
byte_parts byte [] r none empty = absurd (cc)
byte_parts byte (line ∷ lines) r none empty = absurd (cc)

some_parts : (b : ℕ) (text : List ℕ) (feed : Bool) → (b == 10) ≡ feed → (parted (b ∷ text)).ended ≡ []
    → (parted (b ∷ text)).rest ≡ [] → ⊥
unfolding parted
some_parts b text true is none empty = let h = rw is at none in absurd (cc)
some_parts b text false is none empty =
    byte_parts b (parted text).ended (parted text).rest (rw is at none) (rw is at empty)

done_parts : (v : Version) (trees : List CertTree) (n : ℕ) (e : List (List ℕ)) (r : List ℕ)
    → (e ≡ [] → r ≡ [] → ⊥) → outcome e (Done v trees) n r ≡ Err (refusal.Trailing (suc n))
unfolding step
done_parts v trees n [] [] some = absurd (some refl refl)
done_parts v trees n [] (byte ∷ r) some = refl
done_parts v trees n (line ∷ lines) r some = refl

done_bytes : (v : Version) (trees : List CertTree) (n : ℕ) (text : List ℕ) → 0 < length text
    → outcome (parted text).ended (Done v trees) n (parted text).rest ≡ Err (refusal.Trailing (suc n))
done_bytes v trees n [] some = absurd (omega (arith, some))
done_bytes v trees n (b ∷ text) some =
    done_parts v trees n (parted (b ∷ text)).ended (parted (b ∷ text)).rest (some_parts b text (b == 10) refl)

done_all : (v : Version) (trees : List CertTree) (n : ℕ) (text : List ℕ) → length text ≡ 0
    → outcome (parted text).ended (Done v trees) n (parted text).rest ≡ Ok (record { version = v; trees = trees })
unfolding parted
done_all v trees n [] none = refl
done_all v trees n (b ∷ text) none = absurd (omega (arith, none))

module _ (v : Version) (trees : List CertTree) (bytes : List ℕ) (old new : Place) (line : List ℕ)
    (next : IsNext bytes old new (Some line)) where
  pub end_bad : bytes_eq line (codes "end") ≡ false
      → ending (AtDue v [] trees) bytes old ≡ Err (refusal.BadLine new.line)
  unfolding step
  end_bad other = line_stops (AtDue v [] trees) bytes old new line next stops
    where
      stops : step (AtDue v [] trees) new.line (Plain line) ≡ None
      stops = rw other refl

  end_goes : bytes_eq line (codes "end") ≡ true → ending (AtDue v [] trees) bytes old ≡ ending (Done v trees) bytes new
  end_goes is =
      let same : line ≡ codes "end" = (bytes_eq-Decides line (codes "end")).0 is in
      line_goes (AtDue v [] trees) bytes old new line next _
      (ap (λ (l : List ℕ). step (AtDue v [] trees) new.line (Plain l)) same ∙ takes_end v new.line trees) (omega arith)

  pub end_trailing : bytes_eq line (codes "end") ≡ true → new.at < length bytes
      → ending (AtDue v [] trees) bytes old ≡ Err (refusal.Trailing (new.line + 1))
  unfolding ending
  end_trailing is more =
      let count = length-drop new.at bytes in
      let number : suc new.line ≡ new.line + 1 = omega arith in
      end_goes is ∙ done_bytes v trees new.line (drop new.at bytes) (omega (arith, count, more))
      ∙ ap (λ (n : ℕ). Err (refusal.Trailing n)) number

  pub end_all : bytes_eq line (codes "end") ≡ true → length bytes ≤ new.at
      → ending (AtDue v [] trees) bytes old ≡ Ok (record { version = v; trees = trees })
  unfolding ending
  end_all is all =
      let count = length-drop new.at bytes in
      end_goes is ∙ done_all v trees new.line (drop new.at bytes) (omega (arith, count, all))
