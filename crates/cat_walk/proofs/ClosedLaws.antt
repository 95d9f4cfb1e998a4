-- A tree is closed where none of its leaves is uncovered.
use Rattle.std.proofs.Common.{◌≡◌, ℕ, zero, suc, Bool, true, false, not, ◌||◌, IsTrue, List, [], ◌∷◌}
use Rattle.std.proofs.Common.{Option, Some, None, Result, Ok, Err, slice_get, IfOk, IfSome, refl, sym, ◌∙◌}
use Rattle.std.proofs.Common.{subst}
use Rattle.std.proofs.Common.{true≢false}
use Rattle.std.proofs.lemmas.List.Folds.{list_any-append}
use Rattle.std.proofs.lemmas.Bool.{or_parts}
use Rattle.std.specs.List.{list_any, list_all}
use Rattle.cat_value.proofs.Exported.{list_all_at}
use Rattle.cat_region.specs.declared.dim.Dim.{Dim}
use Rattle.cat_region.specs.Regions.{Constraints, IsRegion, is_cut_at}
use Rattle.cat_region.specs.Decided.{admits_none}
use Rattle.cat_region.proofs.Exported.{IsRegion-with_narrowing, IsEmpty-of_admits_none}
use Rattle.cat_scope.specs.Names.{AllHave}
use Rattle.cat_guard.specs.declared.table.Term.{Term}
use Rattle.cat_guard.specs.declared.table.Atom.{Atom}
use Rattle.cat_guard.specs.declared.table.TableTarget.{TableTarget}
use Rattle.cat_guard.specs.declared.tree.CitedTree.{CitedTree}
use Rattle.cat_guard.specs.Judged.{judged_in, covers}
use Rattle.cat_guard.specs.Soundness.{atom_is_sound, is_sound}
use Rattle.cat_guard.specs.Trees.{Tree, Closed, is_whole, with_answer, answering, IsCitedClosed, expanded}
use Rattle.cat_guard.specs.Trees as tree
use Rattle.cat_guard.specs.Valuations.{dims_of}
use Rattle.cat_guard.proofs.Exported.{both_true, all_more, cut_of_term, sound_atoms}
use Rattle.cat_walk.specs.declared.refusal.WalkRefusal.{WalkRefusal}
use Rattle.cat_walk.specs.Coverage.{is_uncovered, leaf_regions, AnswersOf, IsWalked}
use Rattle.cat_walk.specs.LeafPlaces.{leaf_places}
use Rattle.cat_walk.proofs.WholeLemmas.{expanded_whole}

-- ---- narrowing by an atom of a table leaves a region

-- the atoms of a table are cuts of its terms
pub atom_cut : (terms : List Term) (atoms : List Atom) (targets : List TableTarget)
    → IsTrue (is_sound terms atoms targets) → (a : ℕ) (atom : Atom) → slice_get atoms a ≡ Some atom
    → IsTrue (is_cut_at (dims_of terms) atom.term atom.cut)
atom_cut terms atoms targets sound a atom at =
    cut_of_term terms atom.term atom
    (list_all_at (atom_is_sound terms) atoms a atom (sound_atoms terms atoms targets sound) at)

module _ (terms : List Term) (atoms : List Atom) where
  -- a leaf is closed in a region that is judged covered
  abbrev pub LeafClosed : TableTarget → Type 0
  LeafClosed t = (region : Constraints) → IsRegion region → region.dims ≡ dims_of terms
      → IsTrue (covers t.may_be_empty (judged_in atoms region t)) → Closed atoms t region tree.Leaf

  -- a whole tree is closed where none of its leaves is uncovered
  abbrev pub TreeClosed : TableTarget → Type 0
  TreeClosed t = (region : Constraints) (w : Tree) → IsRegion region → region.dims ≡ dims_of terms
      → IsTrue (is_whole w) → list_any (is_uncovered atoms t) (leaf_regions atoms region w) ≡ false
      → Closed atoms t region w

module _ (terms : List Term) (atoms : List Atom) (sound : IsTrue (list_all (atom_is_sound terms) atoms)) where
  pub answered : (region : Constraints) (a : ℕ) (b : Bool) (o : Option Atom) → slice_get atoms a ≡ o → IsRegion region
      → region.dims ≡ dims_of terms → IsRegion (with_answer region o b)
  answered region a b None at is dims = is
  answered region a b (Some atom) at is dims =
      let cut = cut_of_term terms atom.term atom (list_all_at (atom_is_sound terms) atoms a atom sound at) in
      IsRegion-with_narrowing region (record { dim = atom.term; cut = atom.cut; yes = b }) is
      (subst (λ (ds : List Dim). is_cut_at ds atom.term atom.cut ≡ true) (sym dims) cut)

  pub answered_dims : (region : Constraints) (o : Option Atom) (b : Bool) → (with_answer region o b).dims ≡ region.dims
  answered_dims region None b = refl
  answered_dims region (Some atom) b = refl

  leaf_closed : (t : TableTarget) → LeafClosed terms atoms t → (region : Constraints) (none : Bool)
      → admits_none region ≡ none
      → IsRegion region → region.dims ≡ dims_of terms
      → not (none || covers t.may_be_empty (judged_in atoms region t)) ≡ false → Closed atoms t region tree.Leaf
  leaf_closed t leaf region true none is dims h =
      λ v admits. absurd (IsEmpty-of_admits_none region is none v admits)
  leaf_closed t leaf region false none is dims h =
      leaf region is dims (by (covers t.may_be_empty (judged_in atoms region t)) h)
    where
      by : (b : Bool) → not b ≡ false → b ≡ true
      by true h = refl
      by false h = absurd (true≢false h)

  tree_closed : (t : TableTarget) → LeafClosed terms atoms t → TreeClosed terms atoms t
  tree_closed t leaf region tree.Leaf is dims whole none =
      leaf_closed t leaf region (admits_none region) refl is dims
      (or_parts (is_uncovered atoms t region) false none).0
  tree_closed t leaf region tree.Rest is dims whole none = absurd (true≢false (sym whole))
  tree_closed t leaf region (tree.Split a left right) is dims whole none =
      let both = both_true (is_whole left) (is_whole right) whole in
      let one = leaf_regions atoms (answering atoms region a true) left in
      let other = leaf_regions atoms (answering atoms region a false) right in
      let sides = or_parts (list_any (is_uncovered atoms t) one) (list_any (is_uncovered atoms t) other)
      (sym (list_any-append (is_uncovered atoms t) one other) ∙ none) in
      let next = λ (b : Bool). answered region a b (slice_get atoms a) refl is dims in
      let same = λ (b : Bool). answered_dims region (slice_get atoms a) b ∙ dims in (
        tree_closed t leaf (answering atoms region a true) left (next true) (same true) both.0 sides.0,
        tree_closed t leaf (answering atoms region a false) right (next false) (same false) both.1 sides.1,
      )

pub trees_closed : (terms : List Term) (atoms : List Atom) (targets : List TableTarget)
    → IsTrue (is_sound terms atoms targets) → AllHave (LeafClosed terms atoms) targets
    → AllHave (TreeClosed terms atoms) targets
trees_closed terms atoms targets sound leaves =
    all_more (LeafClosed terms atoms) (TreeClosed terms atoms) targets leaves
    (tree_closed terms atoms (sound_atoms terms atoms targets sound))

-- ---- a yes says that a tree is closed

pub yes_closes : (terms : List Term) (atoms : List Atom) (t : TableTarget) → TreeClosed terms atoms t
    → (region : Constraints) → IsRegion region → region.dims ≡ dims_of terms → (c : CitedTree)
    → (answer : Result (Unit {0}) WalkRefusal) → IsWalked atoms t region c answer
    → IfOk answer (λ u. IsCitedClosed atoms t region c)
yes_closes terms atoms t closed region is dims c (Err e) walked = tt
yes_closes terms atoms t closed region is dims c (Ok u) walked = by (expanded c) refl walked
  where
    by : (o : Option Tree) → expanded c ≡ o
        → AnswersOf (is_uncovered atoms t) atoms region (leaf_places c) o (Ok u) → IsCitedClosed atoms t region c
    by None at walked = absurd (walked)
    by (Some w) at walked = (w, at, closed region w is dims (expanded_whole c w at) walked)

pub yes_is_closed : (terms : List Term) (atoms : List Atom) (targets : List TableTarget) (target : ℕ)
    → AllHave (TreeClosed terms atoms) targets → (region : Constraints) → IsRegion region
    → region.dims ≡ dims_of terms → (c : CitedTree) (answer : Result (Unit {0}) WalkRefusal)
    → IfSome (slice_get targets target) (λ t. IsWalked atoms t region c answer)
    → IfSome (slice_get targets target) (λ t. IfOk answer (λ u. IsCitedClosed atoms t region c))
yes_is_closed terms atoms [] target all region is dims c answer walked = tt
yes_is_closed terms atoms (t ∷ ts) zero all region is dims c answer walked =
    yes_closes terms atoms t all.0 region is dims c answer walked
yes_is_closed terms atoms (t ∷ ts) (suc target) all region is dims c answer walked =
    yes_is_closed terms atoms ts target all.1 region is dims c answer walked
