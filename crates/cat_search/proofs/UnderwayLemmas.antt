-- What each step does to a search that is under way.
use Rattle.std.proofs.Common.{◌≡◌, ℕ, suc, ◌+◌, ◌-◌, ◌<◌, ◌≤◌, Bool, true, false, IsTrue, if◌then◌else◌, List, []}
use Rattle.std.proofs.Common.{◌∷◌, ◌++◌, length, Option, Some, None, slice_get, refl, sym, ap, ◌∙◌, subst, arith}
use Rattle.std.proofs.Common.{append_assoc}
use Rattle.std.proofs.lemmas.List.{append-nil}
use Rattle.std.proofs.Math.Logic.{∥∥₁_elim}
use Rattle.std.proofs.Props.{props}
use Rattle.std.specs.Prelude.{max}
use Rattle.cat_region.specs.declared.narrowing.Narrowing.{Narrowing}
use Rattle.cat_region.specs.Regions.{Constraints, IsInhabited, IsEmpty}
use Rattle.cat_region.specs.Sides.{along, IsAt, turns, false_side, Turns}
use Rattle.cat_region.proofs.Exported.{along_dims, along_alike, inhabited_alike, at_base}
use Rattle.cat_guard.specs.declared.table.Term.{Term}
use Rattle.cat_guard.specs.declared.table.Atom.{Atom}
use Rattle.cat_guard.specs.declared.table.TableTarget.{TableTarget}
use Rattle.cat_guard.specs.declared.tree.TreeNode.{TreeNode}
use Rattle.cat_guard.specs.declared.tree.TreeNode.TheVariants as node
use Rattle.cat_guard.specs.Judged.{atom_decided, answers_in, judged_in}
use Rattle.cat_guard.specs.Formulas.{asked}
use Rattle.cat_guard.specs.Soundness.{is_sound}
use Rattle.cat_guard.specs.Trees.{Tree, with_answer, answering, height, tree_of, is_tree}
use Rattle.cat_guard.specs.Trees as tree
use Rattle.cat_guard.specs.Verdicts.{verdict_of}
use Rattle.cat_guard.proofs.Exported.{answers_alike}
use Rattle.cat_search.specs.declared.bad.BadLeaf.{BadLeaf}
use Rattle.cat_search.specs.declared.bad.Flaw.{Flaw}
use Rattle.cat_search.specs.declared.node.NextNode.TheVariants as next
use Rattle.cat_search.specs.declared.searching.Searching.{Searching}
use Rattle.cat_search.specs.Searched.{everything, IsSplit, IsSearched, leaves_from, bad_among, size, is_known}
use Rattle.cat_search.specs.Searched.{IsFound, roomy}
use Rattle.cat_search.specs.inside.Underway.{flaw_at, bad_one, IsMadeOf, AreAsked}
use Rattle.cat_search.specs.inside.ToCome.{in_front, AreSearched}
use Rattle.cat_search.specs.inside.ToCome.{highest, leaves_along}
use Rattle.cat_search.specs.inside.Underway.{Completes, IsUnderway, IsComplete, IsTurned}
use Rattle.cat_search.specs.inside.Underway.{start}
use Rattle.cat_search.proofs.TreeLemmas.{front_more, one_more, bad_one_front, tree_made, is_tree_of}
use Rattle.cat_search.proofs.WayLemmas.{inhabited, room_left}

-- ---- regions that differ in room alone

judged_alike : (atoms : List Atom) (t : TableTarget) (region other : Constraints) → region.dims ≡ other.dims
    → region.narrowings ≡ other.narrowings → judged_in atoms region t ≡ judged_in atoms other t
judged_alike atoms t region other dims narrowings =
    ap (verdict_of t) (answers_alike atoms region other dims narrowings)

split_alike : (atoms : List Atom) (t : TableTarget) (region other : Constraints) (a : ℕ) → region.dims ≡ other.dims
    → region.narrowings ≡ other.narrowings → IsSplit atoms t region a → IsSplit atoms t other a
split_alike atoms t region other a dims narrowings is = record {
  unknown = sym (judged_alike atoms t region other dims narrowings) ∙ is.unknown;
  asked = is.asked;
  undecided =
      sym (ap (λ (answers : ℕ → Option Bool). answers a) (answers_alike atoms region other dims narrowings))
      ∙ is.undecided;
}

-- a search's region, but for its room, is that of its path
pub dims_at : (terms : List Term) (atoms : List Atom) (path : List Narrowing) (region : Constraints)
    → IsAt (roomy terms atoms) path region → region.dims ≡ (along (everything terms) path).dims
dims_at terms atoms path region at = at.dims ∙ sym (along_dims (everything terms) path)

pub narrowings_at : (terms : List Term) (atoms : List Atom) (path : List Narrowing) (region : Constraints)
    → IsAt (roomy terms atoms) path region → region.narrowings ≡ (along (everything terms) path).narrowings
narrowings_at terms atoms path region at =
    at.narrowings ∙ along_alike (roomy terms atoms) (everything terms) path refl

-- an atom's answer, as a narrowing
abbrev pub answering_with : Atom → Bool → Narrowing
answering_with atom b = record { dim = atom.term; cut = atom.cut; yes = b }

module _ (terms : List Term) (atoms : List Atom) (t : TableTarget) where
  abbrev Base : Constraints
  Base = everything terms

  abbrev Most : ℕ
  Most = length atoms

  -- ---- a split

  module _ (a : ℕ) (atom : Atom) (at : slice_get atoms a ≡ Some atom) (path : List Narrowing) where
    abbrev Side : Bool → List Narrowing
    Side b = answering_with atom b ∷ path

    side_is : (b : Bool) → answering atoms (along Base path) a b ≡ along Base (Side b)
    side_is b = ap (λ o. with_answer (along Base path) o b) at

    split_leaves : (place : ℕ) (ps : List (List Narrowing)) (l r : Tree) (more : List Tree)
        → leaves_along atoms Base place (path ∷ ps) (tree.Split a l r ∷ more)
        ≡ leaves_along atoms Base (place + 1) (Side true ∷ Side false ∷ ps) (l ∷ r ∷ more)
    split_leaves place ps l r more =
        let one = ap (λ region. leaves_from atoms (place + 1) region l) (side_is true) in
        let other = ap (λ region. leaves_from atoms (place + 1 + size l) region r) (side_is false) in
        let behind : place + (1 + (size l + size r)) ≡ place + 1 + size l + size r = omega arith in
        let rest = ap (λ k. leaves_along atoms Base k ps more) behind in
        append_assoc (leaves_from atoms (place + 1) (answering atoms (along Base path) a true) l)
        (leaves_from atoms (place + 1 + size l) (answering atoms (along Base path) a false) r)
        (leaves_along atoms Base (place + (1 + (size l + size r))) ps more)
        ∙ ap (λ xs. xs ++ (leaves_from atoms (place + 1 + size l) (answering atoms (along Base path) a false) r
        ++ leaves_along atoms Base (place + (1 + (size l + size r))) ps more)) one
        ∙ ap (λ xs. leaves_from atoms (place + 1) (along Base (Side true)) l
        ++ (xs ++ leaves_along atoms Base (place + (1 + (size l + size r))) ps more)) other
        ∙ ap (λ xs. leaves_from atoms (place + 1) (along Base (Side true)) l
        ++ (leaves_from atoms (place + 1 + size l) (along Base (Side false)) r ++ xs)) rest

    asked_now : AreAsked atoms Base path → (b : Bool) → answers_in atoms (along Base path) a ≡ None
        → AreAsked atoms Base (Side b)
    asked_now asked b none = (
      record { number = a; atom_is = at; undecided = sym (ap (atom_decided (along Base path)) at) ∙ none },
      asked,
    )

    module _ (s s' : Searching) (ps : List (List Narrowing))
        (nodes : s'.nodes ≡ s.nodes ++ node.Split a ∷ []) (depth : s'.depth ≡ s.depth) (bad : s'.bad ≡ s.bad) where
      split_completes : (l r : Tree) (more : List Tree)
          → Completes atoms t Base s (path ∷ ps) (tree.Split a l r ∷ more)
          → Completes atoms t Base s' (Side true ∷ Side false ∷ ps) (l ∷ r ∷ more)
      split_completes l r more c = record {
        tree = c.tree;
        tree_is =
            ap (λ ns. in_front ns (l ∷ r ∷ more)) nodes
            ∙ front_more s.nodes (node.Split a) (l ∷ r ∷ more) (tree.Split a l r ∷ more) refl ∙ c.tree_is;
        searched = c.searched;
        height_is =
            let same : max s.depth (length path + (1 + max (height l) (height r)))
            ≡ max (max s'.depth (suc (length path) + height l)) (suc (length path) + height r) =
            omega (arith, depth) in
            c.height_is ∙ ap (λ d. highest d ps more) same;
        bad_are =
            let place : length s.nodes + 1 ≡ length s'.nodes =
            sym (ap length nodes ∙ one_more s.nodes (node.Split a)) in
            c.bad_are
            ∙ ap (λ ls. s.bad ++ bad_among atoms t ls) (split_leaves (length s.nodes) ps l r more)
            ∙ ap (λ k. s.bad ++ bad_among atoms t (leaves_along atoms Base k (Side true ∷ Side false ∷ ps)
            (l ∷ r ∷ more))) place
            ∙ ap (λ b. b ++ bad_among atoms t (leaves_along atoms Base (length s'.nodes) (Side true ∷ Side false ∷ ps)
            (l ∷ r ∷ more))) (sym bad);
      }

      split_rest : IsSplit atoms t (along Base path) a
          → ((trees : List Tree) → AreSearched atoms t Base (path ∷ ps) trees
          → Completes atoms t Base s (path ∷ ps) trees)
          → (trees : List Tree) → AreSearched atoms t Base (Side true ∷ Side false ∷ ps) trees
          → Completes atoms t Base s' (Side true ∷ Side false ∷ ps) trees
      split_rest is rest [] searched = absurd (searched)
      split_rest is rest (l ∷ []) searched = absurd (searched.1)
      split_rest is rest (l ∷ r ∷ more) searched =
          split_completes l r more (rest (tree.Split a l r ∷ more) (
            (
              is,
              subst (λ region. IsSearched atoms t region l) (sym (side_is true)) searched.0,
              subst (λ region. IsSearched atoms t region r) (sym (side_is false)) searched.1.0,
            ),
            searched.1.1,
          ))

  pub split_step : (s s' : Searching) (a : ℕ) (atom : Atom) → slice_get atoms a ≡ Some atom
      → IsUnderway terms atoms t true s → IsSplit atoms t s.region a
      → s'.nodes ≡ s.nodes ++ node.Split a ∷ [] → s'.depth ≡ s.depth → s'.bad ≡ s.bad
      → s'.region.dims ≡ s.region.dims → s'.region.narrowings ≡ (answering atoms s.region a true).narrowings
      → s'.region.room + 1 ≡ s.region.room → IsUnderway terms atoms t true s'
  split_step s s' a atom at u is nodes depth bad dims narrowings room =
      let here = split_alike atoms t s.region (along Base u.path) a (dims_at terms atoms u.path s.region u.at)
      (narrowings_at terms atoms u.path s.region u.at) is in
      let before = u.at.room in
      record {
        some = u.some;
        path = answering_with atom true ∷ u.path;
        at = record {
          dims = dims ∙ u.at.dims;
          narrowings =
              narrowings ∙ ap (λ o. (with_answer s.region o true).narrowings) at
              ∙ ap (λ ns. ns ++ answering_with atom true ∷ []) u.at.narrowings;
          room = omega (arith, before, room);
        };
        asked = asked_now a atom at u.path u.asked true here.undecided;
        rest = split_rest a atom at u.path s s' (turns u.path) nodes depth bad here u.rest;
      }

  -- there is room for an answer to an atom that may be split on
  pub split_room : (targets : List TableTarget) → IsTrue (is_sound terms atoms targets) → (s : Searching) (a : ℕ)
      (atom : Atom) → slice_get atoms a ≡ Some atom → IsUnderway terms atoms t true s → IsSplit atoms t s.region a
      → 0 < s.region.room
  split_room targets sound s a atom at u is =
      let here = split_alike atoms t s.region (along Base u.path) a (dims_at terms atoms u.path s.region u.at)
      (narrowings_at terms atoms u.path s.region u.at) is in
      let few = room_left terms atoms targets sound u.path (answering_with atom true)
      (asked_now a atom at u.path u.asked true here.undecided) u.some in
      let all = u.at.room in
      omega (arith, few, all)

  -- ---- a leaf, and a rest

  module _ (targets : List TableTarget) (sound : IsTrue (is_sound terms atoms targets)) (s s' : Searching)
      (u : IsUnderway terms atoms t true s) (region : s'.region ≡ s.region)
      (depth : s'.depth ≡ max s.depth (Most - s.region.room)) where
    at_still : IsAt (roomy terms atoms) u.path s'.region
    at_still = subst (λ r. IsAt (roomy terms atoms) u.path r) (sym region) u.at

    some_here : IsInhabited (along Base u.path)
    some_here = inhabited terms atoms targets sound u.path u.asked u.some

    deep : max s.depth (length u.path + 0) ≡ s'.depth
    deep = let all = u.at.room in omega (arith, all, depth)

    pub leaf_step : (flaw : Option Flaw) → IsMadeOf atoms t s.region (next.Leaf flaw)
        → s'.nodes ≡ s.nodes ++ node.Leaf ∷ [] → s'.bad ≡ s.bad ++ bad_one (length s.nodes) flaw
        → IsUnderway terms atoms t false s'
    leaf_step flaw is nodes bad = record {
      some = u.some;
      path = u.path;
      at = at_still;
      asked = u.asked;
      rest = λ trees searched. completes trees (u.rest (tree.Leaf ∷ trees) ((some_here, known), searched));
    }
      where
        alike : judged_in atoms s.region t ≡ judged_in atoms (along Base u.path) t
        alike = judged_alike atoms t s.region (along Base u.path) (dims_at terms atoms u.path s.region u.at)
            (narrowings_at terms atoms u.path s.region u.at)

        known : IsTrue (is_known (judged_in atoms (along Base u.path) t))
        known = subst (λ v. IsTrue (is_known v)) alike is.0

        completes : (trees : List Tree) → Completes atoms t Base s (u.path ∷ turns u.path) (tree.Leaf ∷ trees)
            → Completes atoms t Base s' (turns u.path) trees
        completes trees c = record {
          tree = c.tree;
          tree_is =
              ap (λ ns. in_front ns trees) nodes ∙ front_more s.nodes node.Leaf trees (tree.Leaf ∷ trees) refl
              ∙ c.tree_is;
          searched = c.searched;
          height_is = c.height_is ∙ ap (λ d. highest d (turns u.path) trees) deep;
          bad_are =
              let rest : ℕ → List BadLeaf =
              λ k. bad_among atoms t (leaves_along atoms Base k (turns u.path) trees) in
              let place : length s.nodes + 1 ≡ length s'.nodes =
              sym (ap length nodes ∙ one_more s.nodes node.Leaf) in
              let wrong : flaw_at t (judged_in atoms (along Base u.path) t) ≡ flaw =
              sym (is.1 ∙ ap (flaw_at t) alike) in
              c.bad_are
              ∙ ap (λ b. s.bad ++ b)
              (bad_one_front t (length s.nodes) (judged_in atoms (along Base u.path) t) (rest (length s.nodes + 1))
              ∙ ap (λ f. bad_one (length s.nodes) f ++ rest (length s.nodes + 1)) wrong)
              ∙ sym (append_assoc s.bad (bad_one (length s.nodes) flaw) (rest (length s.nodes + 1)))
              ∙ ap (λ b. b ++ rest (length s.nodes + 1)) (sym bad)
              ∙ ap (λ k. s'.bad ++ rest k) place;
        }

    pub rest_step : s'.nodes ≡ s.nodes ++ node.Rest ∷ [] → s'.bad ≡ s.bad → IsUnderway terms atoms t false s'
    rest_step nodes bad = record {
      some = u.some;
      path = u.path;
      at = at_still;
      asked = u.asked;
      rest = λ trees searched. completes trees (u.rest (tree.Rest ∷ trees) (some_here, searched));
    }
      where
        completes : (trees : List Tree) → Completes atoms t Base s (u.path ∷ turns u.path) (tree.Rest ∷ trees)
            → Completes atoms t Base s' (turns u.path) trees
        completes trees c = record {
          tree = c.tree;
          tree_is =
              ap (λ ns. in_front ns trees) nodes ∙ front_more s.nodes node.Rest trees (tree.Rest ∷ trees) refl
              ∙ c.tree_is;
          searched = c.searched;
          height_is = c.height_is ∙ ap (λ d. highest d (turns u.path) trees) deep;
          bad_are =
              let rest : ℕ → List BadLeaf =
              λ k. bad_among atoms t (leaves_along atoms Base k (turns u.path) trees) in
              let place : length s.nodes + 1 ≡ length s'.nodes =
              sym (ap length nodes ∙ one_more s.nodes node.Rest) in
              c.bad_are ∙ ap (λ b. b ++ rest (length s.nodes + 1)) (sym bad) ∙ ap (λ k. s'.bad ++ rest k) place;
        }

  -- ---- the way back

  asked_turn : (path next : List Narrowing) (more : List (List Narrowing)) → AreAsked atoms Base path
      → turns path ≡ next ∷ more → AreAsked atoms Base next
  asked_turn [] next more asked is = absurd (cc)
  asked_turn (n ∷ path) next more asked is = by n.yes is (asked_turn path next more asked.1)
    where
      other : AreAsked atoms Base (false_side n ∷ path)
      other = (
        record { number = asked.0.number; atom_is = asked.0.atom_is; undecided = asked.0.undecided },
        asked.1,
      )

      by : (b : Bool) → (if b then (false_side n ∷ path) ∷ turns path else turns path) ≡ next ∷ more
          → (turns path ≡ next ∷ more → AreAsked atoms Base next) → AreAsked atoms Base next
      by true e before =
          let same : false_side n ∷ path ≡ next = cc in subst (λ p. AreAsked atoms Base p) same other
      by false e before = before e

  moved : (s : Searching) (region : Constraints) (paths : List (List Narrowing)) (trees : List Tree)
      → Completes atoms t Base s paths trees
      → Completes atoms t Base (record { region = region; nodes = s.nodes; depth = s.depth; bad = s.bad }) paths trees
  moved s region paths trees c = record {
    tree = c.tree;
    tree_is = c.tree_is;
    searched = c.searched;
    height_is = c.height_is;
    bad_are = c.bad_are;
  }

  pub turn_step : (s : Searching) (region : Constraints) (found : Bool) → (u : IsUnderway terms atoms t false s)
      → Turns (roomy terms atoms) u.path found region
      → IsTurned terms atoms t found (record { region = region; nodes = s.nodes; depth = s.depth; bad = s.bad })
  turn_step s region true u is = record {
    some = u.some;
    path = is.0;
    at = is.2;
    asked = asked_turn u.path is.0 (turns is.0) u.asked is.1;
    rest = λ trees searched. moved s region (is.0 ∷ turns is.0) trees
        (subst (λ ps. Completes atoms t Base s ps trees) is.1
        (u.rest trees (subst (λ ps. AreSearched atoms t Base ps trees) (sym is.1) searched)));
  }
  turn_step s region false u is = record {
    written =
        moved s region [] []
        (subst (λ ps. Completes atoms t Base s ps []) is.0
        (u.rest [] (subst (λ ps. AreSearched atoms t Base ps []) (sym is.0) tt)));
    back = is.1;
  }

-- where a search is, something is admitted
pub inhabited_here : (terms : List Term) (atoms : List Atom) (targets : List TableTarget)
    → IsTrue (is_sound terms atoms targets) → (t : TableTarget) (here : Bool) (s : Searching)
    → IsUnderway terms atoms t here s → IsInhabited s.region
inhabited_here terms atoms targets sound t here s u =
    inhabited_alike (along (everything terms) u.path) s.region (sym (dims_at terms atoms u.path s.region u.at))
    (sym (narrowings_at terms atoms u.path s.region u.at)) (inhabited terms atoms targets sound u.path u.asked u.some)

pub room_within : (terms : List Term) (atoms : List Atom) (t : TableTarget) (here : Bool) (s : Searching)
    → IsUnderway terms atoms t here s → s.region.room ≤ length atoms
room_within terms atoms t here s u = let all = u.at.room in omega (arith, all)

-- ---- the beginning and the end

module _ (terms : List Term) (atoms : List Atom) (t : TableTarget) where
  first_completes : (trees : List Tree) → AreSearched atoms t (everything terms) ([] ∷ []) trees
      → Completes atoms t (everything terms) (start terms atoms) ([] ∷ []) trees
  first_completes [] searched = absurd (searched)
  first_completes (x ∷ []) searched = record {
    tree = x;
    tree_is = refl;
    searched = searched.0;
    height_is = omega arith;
    bad_are = ap (bad_among atoms t) (sym (append-nil (leaves_from atoms 0 (everything terms) x)));
  }
  first_completes (x ∷ y ∷ more) searched = absurd (searched.1)

  first_step : IsInhabited (everything terms) → IsUnderway terms atoms t true (start terms atoms)
  first_step some = record {
    some = some;
    path = [];
    at = record { dims = refl; narrowings = refl; room = omega arith };
    asked = tt;
    rest = first_completes;
  }

  pub begins : (s : Searching) → s ≡ start terms atoms → IsInhabited s.region → IsUnderway terms atoms t true s
  begins s is some =
      subst (λ (s : Searching). IsUnderway terms atoms t true s) (sym is)
      (first_step (roomless (subst (λ (s : Searching). IsInhabited s.region) is some)))
    where
      roomless : IsInhabited (start terms atoms).region → IsInhabited (everything terms)
      roomless some = ∥∥₁_elim some (hlevel props) (λ found. (∣ (
        found.0,
        record { valuation = found.1.valuation; agreeing = found.1.agreeing },
      ) ∣₁))

  pub nothing_begins : (s : Searching) → s ≡ start terms atoms → IsEmpty s.region → IsEmpty (everything terms)
  nothing_begins s is empty v admits =
      subst (λ (s : Searching). IsEmpty s.region) is empty v
      (record { valuation = admits.valuation; agreeing = admits.agreeing })

  pub complete_is_tree : (s : Searching) → IsComplete terms atoms t s → IsTrue (is_tree s.nodes s.depth)
  complete_is_tree s c = is_tree_of s.nodes s.depth c.written.tree c.written.tree_is c.written.height_is

  pub complete_found : (s : Searching) (c : IsComplete terms atoms t s) (nodes : List TreeNode) (bad : List BadLeaf)
      → nodes ≡ s.nodes → bad ≡ s.bad → IsFound terms atoms t nodes bad c.written.tree
  complete_found s c nodes bad nodes_same bad_same = record {
    nodes_are = ap tree_of nodes_same ∙ tree_made s.nodes c.written.tree c.written.tree_is;
    searched = c.written.searched;
    bad_are = bad_same ∙ sym (c.written.bad_are ∙ append-nil s.bad);
  }

  pub complete_is_back : (s : Searching) → IsComplete terms atoms t s → s.region ≡ roomy terms atoms
  complete_is_back s c = at_base (roomy terms atoms) s.region c.back
