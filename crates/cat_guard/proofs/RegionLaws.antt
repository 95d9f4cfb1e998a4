-- What a region answers of atoms, and what is judged by its answers, is so for each admitted valuation.
use Rattle.std.proofs.Common.{◌≡◌, inl, inr, ℕ, zero, suc, Bool, true, false, IsTrue, List, [], ◌∷◌, length}
use Rattle.std.proofs.Common.{Option, Some, None, Result, Ok, Err, slice_get, refl, sym, ap, ◌∙◌, subst, true≢false}
use Rattle.std.proofs.Math.Logic.{∥∥₁_elim}
use Rattle.std.proofs.Props.{props}
use Rattle.std.specs.List.{list_all}
use Rattle.std.proofs.lemmas.List.Folds.{list_all-map}
use Rattle.cat_value.proofs.Exported.{list_all_at}
use Rattle.cat_region.specs.declared.dim.Dim.{Dim}
use Rattle.cat_region.specs.Points.{answer}
use Rattle.cat_region.specs.Regions.{Constraints, Valuation, Admits, IsRegion, IsDecision, is_dim, is_cut_at}
use Rattle.cat_region.specs.Regions.{is_cut_of as is_dim_cut}
use Rattle.cat_region.specs.Decided.{decided_at}
use Rattle.cat_region.proofs.Exported.{answer-of_decided_at, IsDecision-decided_at}
use Rattle.cat_scope.specs.Names.{AllHave}
use Rattle.cat_scope.specs.Judging.{Held}
use Rattle.cat_scope.specs.declared.stop.Stop.{Stop}
use Rattle.cat_value.specs.declared.outcome.Target.{Target}
use Rattle.cat_guard.specs.declared.guard.GuardDef.{GuardDef}
use Rattle.cat_guard.specs.declared.table.Term.{Term}
use Rattle.cat_guard.specs.declared.table.Atom.{Atom}
use Rattle.cat_guard.specs.declared.table.TableTarget.{TableTarget}
use Rattle.cat_guard.specs.Formulas.{IsSo}
use Rattle.cat_guard.specs.Judged.{atom_decided, answers_in, judged_in, covers}
use Rattle.cat_guard.specs.Soundness.{is_cut_of, term_is_sound, atom_is_sound, target_is_sound, is_sound}
use Rattle.cat_guard.specs.TableJudging.{IsCovered, Covers, decided}
use Rattle.cat_guard.specs.Valuations.{dims_of, atom_answer, holds_at}
use Rattle.cat_guard.specs.Verdicts.{Verdict, Stands}
use Rattle.cat_guard.specs.Verdicts as v
use Rattle.cat_guard.proofs.TableLaws.{both_true, all_more, targets_sound, sound_parts, target_stands}
use Rattle.cat_guard.specs.Judgements.{IsAnswer, is_bad}
use Rattle.cat_guard.specs.inside.Telling.{are_cuts_of}

-- ---- the atoms of a table are cuts of its terms

pub cut_of_term : (terms : List Term) (i : ℕ) (atom : Atom) → IsTrue (is_cut_of (slice_get terms i) atom)
    → IsTrue (is_dim_cut (slice_get (dims_of terms) i) atom.cut)
cut_of_term [] i atom h = absurd (true≢false (sym h))
cut_of_term (t ∷ ts) zero atom h = h
cut_of_term (t ∷ ts) (suc i) atom h = cut_of_term ts i atom h

pub cuts_of : (dims : List Dim) (terms : List Term) (atoms : List Atom) → dims ≡ dims_of terms
    → IsTrue (list_all (atom_is_sound terms) atoms) → IsTrue (are_cuts_of dims atoms)
cuts_of dims terms [] same h = refl
cuts_of dims terms (a ∷ atoms) same h =
    let two = both_true (atom_is_sound terms a) (list_all (atom_is_sound terms) atoms) h in
    let first : is_cut_at dims a.term a.cut ≡ true =
    subst (λ (ds : List Dim). IsTrue (is_cut_at ds a.term a.cut)) (sym same) (cut_of_term terms a.term a two.0) in
    rw first (cuts_of dims terms atoms same two.1)

-- each dimension is one that regions have
pub sound_dims : (terms : List Term) (atoms : List Atom) (targets : List TableTarget)
    → IsTrue (is_sound terms atoms targets) → IsTrue (list_all is_dim (dims_of terms))
unfolding is_sound
sound_dims terms atoms targets h =
    list_all-map is_dim (λ (term : Term). term.dim) terms
    ∙ (both_true (list_all term_is_sound terms) (list_all (atom_is_sound terms) atoms)
    (both_true _ (list_all (target_is_sound (length atoms)) targets) h).0).0

pub sound_atoms : (terms : List Term) (atoms : List Atom) (targets : List TableTarget)
    → IsTrue (is_sound terms atoms targets) → IsTrue (list_all (atom_is_sound terms) atoms)
unfolding is_sound
sound_atoms terms atoms targets h =
    (both_true _ (list_all (atom_is_sound terms) atoms)
    (both_true _ (list_all (target_is_sound (length atoms)) targets) h).0).1

module _ (atoms : List Atom) (region : Constraints) (sound : IsRegion region)
    (cuts : IsTrue (are_cuts_of region.dims atoms)) where
  cut_at : (a : ℕ) (atom : Atom) → slice_get atoms a ≡ Some atom → IsTrue (is_cut_at region.dims atom.term atom.cut)
  cut_at a atom is = list_all_at (λ x. is_cut_at region.dims x.term x.cut) atoms a atom cuts is

  pub answers_so : (v : Valuation) → Admits region v → (a : ℕ) → IsSo (answers_in atoms region a) (holds_at atoms v a)
  answers_so v admits a = by (slice_get atoms a) refl
    where
      by : (o : Option Atom) → slice_get atoms a ≡ o → IsSo (atom_decided region o) (atom_answer v o)
      by None is b e = absurd (cc)
      by (Some atom) is b e = answer-of_decided_at region atom.term atom.cut b v sound (cut_at a atom is) e admits

  pub answers_exact : (a : ℕ) (atom : Atom) → slice_get atoms a ≡ Some atom
      → IsAnswer atoms region a (answers_in atoms region a)
  answers_exact a atom is =
      subst (λ o. IsAnswer atoms region a (atom_decided region o)) (sym is)
      (by (decided_at region atom.term atom.cut)
      (IsDecision-decided_at region atom.term atom.cut sound (cut_at a atom is)))
    where
      here : (w : Valuation) → answer atom.cut (w atom.term) ≡ holds_at atoms w a
      here w = ap (atom_answer w) (sym is)

      by : (o : Option Bool) → IsDecision region atom.term atom.cut o → IsAnswer atoms region a o
      by (Some b) is_decision = (is_decision.0, λ w admits. sym (here w) ∙ is_decision.1 w admits)
      by None (inl empty) = inl empty
      by None (inr two) = inr (
        ∥∥₁_elim two.0 (hlevel props) (λ found. (∣ (found.0, found.1, sym (here found.0) ∙ found.2) ∣₁)),
        ∥∥₁_elim two.1 (hlevel props) (λ found. (∣ (found.0, found.1, sym (here found.0) ∙ found.2) ∣₁)),
      )

-- ---- targets

abbrev End : Type 0
End = Result (Option (Held (Unit {0}))) Stop

covered_stands : (target : Target) (defs : List GuardDef) (empty : Bool) (w : Verdict) (end : End)
    → Stands target defs w end → IsTrue (covers empty w) → IsCovered empty end
covered_stands target defs empty (v.Holds d) (Ok (Some h)) stands c = tt
covered_stands target defs empty (v.Holds d) (Ok None) stands c = elim stands [ ]
covered_stands target defs empty (v.Holds d) (Err stop) stands c = elim stands [ ]
covered_stands target defs empty v.Empty (Ok None) stands c = c
covered_stands target defs empty v.Empty (Ok (Some h)) stands c = elim stands [ ]
covered_stands target defs empty v.Empty (Err stop) stands c = elim stands [ ]
covered_stands target defs empty v.Conflict end stands c = absurd (true≢false (sym c))
covered_stands target defs empty v.Open end stands c = absurd (true≢false (sym c))

bad_stands : (target : Target) (defs : List GuardDef) (empty : Bool) (w : Verdict) (end : End)
    → Stands target defs w end → IsTrue (is_bad empty w) → IsCovered empty end → ⊥
bad_stands target defs empty (v.Holds d) end stands bad covered = true≢false (sym bad)
bad_stands target defs true v.Empty (Ok None) stands bad covered = true≢false (sym bad)
bad_stands target defs false v.Empty (Ok None) stands bad covered = true≢false (sym covered)
bad_stands target defs empty v.Empty (Ok (Some h)) stands bad covered = elim stands [ ]
bad_stands target defs empty v.Empty (Err stop) stands bad covered = elim stands [ ]
bad_stands target defs empty v.Conflict (Ok found) stands bad covered = elim stands [ ]
bad_stands target defs empty v.Conflict (Err stop) stands bad covered = elim covered [ ]
bad_stands target defs empty v.Open end stands bad covered = true≢false (sym bad)

module _ (terms : List Term) (atoms : List Atom) (targets : List TableTarget)
    (sound : IsTrue (is_sound terms atoms targets)) where
  -- what a region judges of a target is so for each admitted valuation
  abbrev pub StandsIn : TableTarget → Type 0
  StandsIn t = (region : Constraints) (w : Valuation) → IsRegion region → region.dims ≡ dims_of terms
      → Admits region w → Stands t.target t.defs (judged_in atoms region t) (decided t (holds_at atoms w)).end

  stands_in : (t : TableTarget) → IsTrue (target_is_sound (length atoms) t) → StandsIn t
  stands_in t h region w is dims admits =
      target_stands t (sound_parts (length atoms) t h).1 (answers_in atoms region) (holds_at atoms w)
      (answers_so atoms region is (cuts_of region.dims terms atoms dims (sound_atoms terms atoms targets sound)) w
      admits)

  pub stand : AllHave StandsIn targets
  stand = all_more (λ t. IsTrue (target_is_sound (length atoms) t)) StandsIn targets
      (targets_sound terms atoms targets sound) stands_in

  abbrev pub ClosesLeaf : TableTarget → Type 0
  ClosesLeaf t = (region : Constraints) → IsRegion region → region.dims ≡ dims_of terms
      → IsTrue (covers t.may_be_empty (judged_in atoms region t)) → (w : Valuation) → Admits region w
      → Covers t (holds_at atoms w)

  pub close : AllHave ClosesLeaf targets
  close = all_more StandsIn ClosesLeaf targets stand (λ t stands region is dims covered w admits.
      covered_stands t.target t.defs t.may_be_empty (judged_in atoms region t) (decided t (holds_at atoms w)).end
      (stands region w is dims admits) covered)

  abbrev pub CoversNothing : TableTarget → Type 0
  CoversNothing t = (region : Constraints) (w : Valuation) → IsRegion region → region.dims ≡ dims_of terms
      → IsTrue (is_bad t.may_be_empty (judged_in atoms region t)) → Admits region w → Covers t (holds_at atoms w) → ⊥

  pub cover_nothing : AllHave CoversNothing targets
  cover_nothing = all_more StandsIn CoversNothing targets stand (λ t stands region w is dims bad admits covered.
      bad_stands t.target t.defs t.may_be_empty (judged_in atoms region t) (decided t (holds_at atoms w)).end
      (stands region w is dims admits) bad covered)
