-- The leaves of a tree that is searched and closed are covered, and its splits are on the target's atoms.
use Rattle.std.proofs.Common.{◌≡◌, inl, inr, ℕ, Bool, true, false, not, ◌||◌, IsTrue, List, [], ◌∷◌}
use Rattle.std.proofs.Common.{Option, Some, None, slice_get, refl, sym, ◌∙◌, true≢false, arith}
use Rattle.std.specs.Prelude.{nat_eq}
use Rattle.std.specs.List.{list_any, list_all}
use Rattle.std.proofs.Math.Logic.{∥∥₁_elim}
use Rattle.std.proofs.Props.{props}
use Rattle.std.proofs.lemmas.Bool.Decides.{nat_tests}
use Rattle.std.proofs.lemmas.List.Folds.{list_any-append}
use Rattle.cat_value.proofs.Exported.{list_all_at}
use Rattle.cat_region.specs.Regions.{Constraints, Valuation, Admits, IsRegion, IsInhabited, is_cut_at}
use Rattle.cat_region.specs.Decided.{admits_none}
use Rattle.cat_region.proofs.Exported.{IsRegion-with_narrowing}
use Rattle.cat_scope.specs.Names.{IsOneOf}
use Rattle.cat_guard.specs.declared.table.Term.{Term}
use Rattle.cat_guard.specs.declared.table.Atom.{Atom}
use Rattle.cat_guard.specs.declared.table.TableTarget.{TableTarget}
use Rattle.cat_guard.specs.Judged.{judged_in, covers}
use Rattle.cat_guard.specs.Soundness.{atom_is_sound}
use Rattle.cat_guard.specs.TableJudging.{Covers}
use Rattle.cat_guard.specs.Trees.{Tree, Closed, answering, with_answer}
use Rattle.cat_guard.specs.Trees as tree
use Rattle.cat_guard.specs.Valuations.{dims_of, holds_at}
use Rattle.cat_guard.specs.Verdicts.{Verdict}
use Rattle.cat_guard.specs.Verdicts as v
use Rattle.cat_guard.specs.Judgements.{atoms_in, is_bad}
use Rattle.cat_guard.proofs.RegionLaws.{cuts_of}
use Rattle.cat_walk.specs.Coverage.{is_uncovered, leaf_regions}
use Rattle.cat_walk.specs.Walkable.{splits_pass}
use Rattle.cat_search.specs.Searched.{IsSearched, is_known}
use Rattle.cat_cert.specs.Certified.{is_atom_of}

-- ---- splits

same_number : (a n : ℕ) → a ≡ n → nat_eq a n ≡ true
same_number a n e = grind (arith, nat_tests)

either : (a b : Bool) → b ≡ true → (a || b) ≡ true
either true b h = refl
either false b h = h

among : (a : ℕ) (ns : List ℕ) → IsOneOf a ns → list_any (nat_eq a) ns ≡ true
among a [] is = elim is [ ]
among a (n ∷ ns) (inl e) = rw (same_number a n e) refl
among a (n ∷ ns) (inr more) = either (nat_eq a n) (list_any (nat_eq a) ns) (among a ns more)

-- a searched tree splits on the target's atoms
pub splits_on_own : (atoms : List Atom) (t : TableTarget) (region : Constraints) (w : Tree)
    → IsSearched atoms t region w → splits_pass (is_atom_of t) w ≡ true
splits_on_own atoms t region tree.Leaf is = refl
splits_on_own atoms t region tree.Rest is = refl
splits_on_own atoms t region (tree.Split a one other) is =
    rw (
      among a (atoms_in t) is.0.asked,
      splits_on_own atoms t (answering atoms region a true) one is.1,
      splits_on_own atoms t (answering atoms region a false) other is.2,
    ) refl

-- ---- leaves

always : (none : Bool) → not (none || true) ≡ false
always true = refl
always false = refl

covered_verdict : (empty none : Bool) (w : Verdict) → IsTrue (is_known w) → (IsTrue (is_bad empty w) → ⊥)
    → not (none || covers empty w) ≡ false
covered_verdict empty none (v.Holds d) known fine = always none
covered_verdict true none v.Empty known fine = always none
covered_verdict false none v.Empty known fine = absurd (fine refl)
covered_verdict empty none v.Conflict known fine = absurd (fine refl)
covered_verdict empty none v.Open known fine = absurd (true≢false (sym known))

module _ (terms : List Term) (atoms : List Atom) where
  -- no valuation of a region that is judged bad is covered
  abbrev pub CoversNothing : TableTarget → Type 0
  CoversNothing t = (region : Constraints) (w : Valuation) → IsRegion region → region.dims ≡ dims_of terms
      → IsTrue (is_bad t.may_be_empty (judged_in atoms region t)) → Admits region w → Covers t (holds_at atoms w) → ⊥

module _ (terms : List Term) (atoms : List Atom) (sound : IsTrue (list_all (atom_is_sound terms) atoms)) where
  answered : (region : Constraints) (a : ℕ) (b : Bool) (o : Option Atom) → slice_get atoms a ≡ o → IsRegion region
      → region.dims ≡ dims_of terms → IsRegion (with_answer region o b)
  answered region a b None at is dims = is
  answered region a b (Some atom) at is dims =
      IsRegion-with_narrowing region (record { dim = atom.term; cut = atom.cut; yes = b }) is
      (list_all_at (λ x. is_cut_at region.dims x.term x.cut) atoms a atom
      (cuts_of region.dims terms atoms dims sound) at)

  answered_dims : (region : Constraints) (o : Option Atom) (b : Bool) → (with_answer region o b).dims ≡ region.dims
  answered_dims region None b = refl
  answered_dims region (Some atom) b = refl

  module _ (t : TableTarget) (nothing : CoversNothing terms atoms t) where
    leaf_covered : (region : Constraints) → IsRegion region → region.dims ≡ dims_of terms → IsInhabited region
        → IsTrue (is_known (judged_in atoms region t))
        → ((w : Valuation) → Admits region w → Covers t (holds_at atoms w)) → is_uncovered atoms t region ≡ false
    leaf_covered region is dims some known closed =
        covered_verdict t.may_be_empty (admits_none region) (judged_in atoms region t) known
        (λ bad. ∥∥₁_elim some (hlevel props)
        (λ found. nothing region found.0 is dims bad found.1 (closed found.0 found.1)))

    -- a tree that is searched and closed has no uncovered leaf
    pub leaves_covered : (region : Constraints) (w : Tree) → IsRegion region → region.dims ≡ dims_of terms
        → IsSearched atoms t region w → Closed atoms t region w
        → list_any (is_uncovered atoms t) (leaf_regions atoms region w) ≡ false
    leaves_covered region tree.Leaf is dims searched closed =
        rw (leaf_covered region is dims searched.0 searched.1 closed) refl
    leaves_covered region tree.Rest is dims searched closed = refl
    leaves_covered region (tree.Split a one other) is dims searched closed =
        let next = λ (b : Bool). answered region a b (slice_get atoms a) refl is dims in
        let same = λ (b : Bool). answered_dims region (slice_get atoms a) b ∙ dims in
        list_any-append (is_uncovered atoms t) (leaf_regions atoms (answering atoms region a true) one)
        (leaf_regions atoms (answering atoms region a false) other)
        ∙ rw (
          leaves_covered (answering atoms region a true) one (next true) (same true) searched.1 closed.0,
          leaves_covered (answering atoms region a false) other (next false) (same false) searched.2 closed.1,
        ) refl
