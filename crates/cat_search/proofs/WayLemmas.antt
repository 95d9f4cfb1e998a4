-- The way down: what is admitted at its end, what is decided there, and that it answers no atom twice.
use Rattle.std.proofs.Common.{◌≡◌, inl, inr, ℕ, suc, ◌<◌, ◌≤◌, Bool, true, false, ◌||◌, IsTrue, List, [], ◌∷◌}
use Rattle.std.proofs.Common.{length, Option, Some, None, slice_get, refl, sym, ap, ◌∙◌, subst, true≢false, arith}
use Rattle.std.proofs.Math.Bool.{beq}
use Rattle.std.proofs.Math.Dec.{eqb}
use Rattle.std.proofs.Math.Logic.{∥∥₁_elim}
use Rattle.std.proofs.Props.{props}
use Rattle.std.specs.List.{list_any, IsDistinct}
use Rattle.std.proofs.lemmas.Bool.{eqb-true}
use Rattle.std.proofs.lemmas.Map.Steps.{length-le_from_distinct_below}
use Rattle.std.proofs.lemmas.Option.{slice_get_within}
use Rattle.cat_order.proofs.Exported.{apart_push}
use Rattle.cat_value.proofs.Exported.{list_all_at}
use Rattle.cat_region.specs.declared.dim.Dim.{Dim}
use Rattle.cat_region.specs.declared.narrowing.Narrowing.{Narrowing}
use Rattle.cat_region.specs.declared.point.Point.{Point}
use Rattle.cat_region.specs.Points.{answer}
use Rattle.cat_region.specs.Regions.{Constraints, Valuation, Admits, IsRegion, IsDecision, is_cut_at}
use Rattle.cat_region.specs.Regions.{with_narrowing, agrees, IsInhabited}
use Rattle.cat_region.specs.Decided.{decided_at}
use Rattle.cat_region.specs.Sides.{along}
use Rattle.cat_region.proofs.Exported.{IsDecision-decided_at, IsRegion-with_narrowing, Admits-with_narrowing}
use Rattle.cat_region.proofs.Exported.{decided_at-narrowed, along_dims}
use Rattle.cat_guard.specs.declared.table.Term.{Term}
use Rattle.cat_guard.specs.declared.table.Atom.{Atom}
use Rattle.cat_guard.specs.declared.table.TableTarget.{TableTarget}
use Rattle.cat_guard.specs.Judged.{atom_decided, answers_in}
use Rattle.cat_guard.specs.Soundness.{atom_is_sound, is_sound}
use Rattle.cat_guard.specs.Valuations.{dims_of}
use Rattle.cat_guard.proofs.Exported.{cut_of_term, sound_dims, sound_atoms}
use Rattle.cat_search.specs.Searched.{everything}
use Rattle.cat_search.specs.inside.Underway.{IsAsked, AreAsked}

-- ---- one narrowing

pub agrees_so : (x : Point) (n : Narrowing) → answer n.cut x ≡ n.yes → IsTrue (agrees x n)
agrees_so x n h = by (answer n.cut x) n.yes h
  where
    by : (a b : Bool) → a ≡ b → beq a b ≡ true
    by true true e = refl
    by true false e = absurd (true≢false e)
    by false true e = absurd (true≢false (sym e))
    by false false e = refl

pub so_agrees : (x : Point) (n : Narrowing) → IsTrue (agrees x n) → answer n.cut x ≡ n.yes
so_agrees x n h = by (answer n.cut x) n.yes h
  where
    by : (a b : Bool) → beq a b ≡ true → a ≡ b
    by true true e = refl
    by true false e = absurd (true≢false (sym e))
    by false true e = absurd (true≢false (sym e))
    by false false e = refl

-- an undecided cut has both answers where something is admitted
both_sides : (region : Constraints) (n : Narrowing) (o : Option Bool) → IsDecision region n.dim n.cut o → o ≡ None
    → IsInhabited region → IsInhabited (with_narrowing region n)
both_sides region n (Some b) is e some = absurd (cc)
both_sides region n None (inl empty) e some =
    absurd (∥∥₁_elim some (hlevel props) (λ found. empty found.0 found.1))
both_sides region n None (inr two) e some = by n.yes refl
  where
    at : (v : Valuation) → Admits region v → answer n.cut (v n.dim) ≡ n.yes → IsInhabited (with_narrowing region n)
    at v admits so = (∣ (v, (Admits-with_narrowing region n v).1 (admits, agrees_so (v n.dim) n so)) ∣₁)

    by : (b : Bool) → n.yes ≡ b → IsInhabited (with_narrowing region n)
    by true on = ∥∥₁_elim two.0 (hlevel props) (λ found. at found.0 found.1 (found.2 ∙ sym on))
    by false on = ∥∥₁_elim two.1 (hlevel props) (λ found. at found.0 found.1 (found.2 ∙ sym on))

-- a cut is decided where it was answered
answered : (region : Constraints) (n : Narrowing) (o : Option Bool)
    → IsDecision (with_narrowing region n) n.dim n.cut o → IsInhabited (with_narrowing region n) → ¬ (o ≡ None)
answered region n (Some b) is some e = absurd (cc)
answered region n None (inl empty) some e = ∥∥₁_elim some (hlevel props) (λ found. empty found.0 found.1)
answered region n None (inr two) some e = by n.yes refl
  where
    so : (v : Valuation) → Admits (with_narrowing region n) v → answer n.cut (v n.dim) ≡ n.yes
    so v admits = so_agrees (v n.dim) n ((Admits-with_narrowing region n v).0 admits).1

    by : (b : Bool) → n.yes ≡ b → ⊥
    by true on = ∥∥₁_elim two.1 (hlevel props)
        (λ found. true≢false (sym on ∙ sym (so found.0 found.1) ∙ found.2))
    by false on = ∥∥₁_elim two.0 (hlevel props)
        (λ found. true≢false (sym found.2 ∙ so found.0 found.1 ∙ on))

-- ---- a way

module _ (terms : List Term) (atoms : List Atom) (targets : List TableTarget)
    (sound : IsTrue (is_sound terms atoms targets)) where
  abbrev Way : List Narrowing → Constraints
  Way path = along (everything terms) path

  abbrev Asked : List Narrowing → Type 0
  Asked path = AreAsked atoms (everything terms) path

  pub cut_is : (a : ℕ) (atom : Atom) → slice_get atoms a ≡ Some atom
      → IsTrue (is_cut_at (dims_of terms) atom.term atom.cut)
  cut_is a atom is = cut_of_term terms atom.term atom
      (list_all_at (atom_is_sound terms) atoms a atom (sound_atoms terms atoms targets sound) is)

  cut_on : (path : List Narrowing) (a : ℕ) (atom : Atom) → slice_get atoms a ≡ Some atom
      → IsTrue (is_cut_at (Way path).dims atom.term atom.cut)
  cut_on path a atom is =
      subst (λ (ds : List Dim). IsTrue (is_cut_at ds atom.term atom.cut)) (sym (along_dims (everything terms) path))
      (cut_is a atom is)

  pub region_is : (path : List Narrowing) → Asked path → IsRegion (Way path)
  region_is [] asked = record { dims = sound_dims terms atoms targets sound; narrowings = refl }
  region_is (n ∷ path) asked =
      IsRegion-with_narrowing (Way path) n (region_is path asked.1) (cut_on path asked.0.number _ asked.0.atom_is)

  decision : (path : List Narrowing) (n : Narrowing) → Asked path → IsAsked atoms (Way path) n
      → IsDecision (Way path) n.dim n.cut (decided_at (Way path) n.dim n.cut)
  decision path n asked one =
      IsDecision-decided_at (Way path) n.dim n.cut (region_is path asked) (cut_on path one.number _ one.atom_is)

  pub inhabited : (path : List Narrowing) → Asked path → IsInhabited (Way []) → IsInhabited (Way path)
  inhabited [] asked some = some
  inhabited (n ∷ path) asked some =
      both_sides (Way path) n (decided_at (Way path) n.dim n.cut) (decision path n asked.1 asked.0) asked.0.undecided
      (inhabited path asked.1 some)

  -- ---- the atoms that are answered

  abbrev numbers : (path : List Narrowing) → Asked path → List ℕ
  numbers [] asked = []
  numbers (n ∷ path) asked = asked.0.number ∷ numbers path asked.1

  abbrev IsKnown : List Narrowing → ℕ → Type 0
  IsKnown path q = ¬ (answers_in atoms (Way path) q ≡ None)

  -- what is decided stays so further on the way
  kept : (path : List Narrowing) (n : Narrowing) → Asked (n ∷ path) → IsInhabited (Way []) → (q : ℕ) (o : Option Atom)
      → slice_get atoms q ≡ o → ¬ (atom_decided (Way path) o ≡ None) → ¬ (atom_decided (Way (n ∷ path)) o ≡ None)
  kept path n asked some q None is known none = known refl
  kept path n asked some q (Some atom) is known none = by (decided_at (Way path) atom.term atom.cut) refl
    where
      by : (d : Option Bool) → decided_at (Way path) atom.term atom.cut ≡ d → ⊥
      by None e = known e
      by (Some b) e =
          let same = decided_at-narrowed (Way path) n atom.term atom.cut b (region_is path asked.1)
          (cut_on path asked.0.number _ asked.0.atom_is) (cut_on path q atom is) (inhabited (n ∷ path) asked some) e in
          absurd (cc)

  known_at : (path : List Narrowing) (asked : Asked path) → IsInhabited (Way []) → (q : ℕ)
      → list_any (eqb q) (numbers path asked) ≡ true → IsKnown path q
  known_at [] asked some q among = absurd (true≢false (sym among))
  known_at (n ∷ path) asked some q among =
      by (eqb q asked.0.number) refl among (known_at path asked.1 some q)
    where
      here : IsKnown (n ∷ path) asked.0.number
      here none = answered (Way path) n (decided_at (Way (n ∷ path)) n.dim n.cut)
          (IsDecision-decided_at (Way (n ∷ path)) n.dim n.cut (region_is (n ∷ path) asked)
          (cut_on (n ∷ path) asked.0.number _ asked.0.atom_is))
          (inhabited (n ∷ path) asked some) (sym (ap (atom_decided (Way (n ∷ path))) asked.0.atom_is) ∙ none)

      by : (b : Bool) → eqb q asked.0.number ≡ b → (b || list_any (eqb q) (numbers path asked.1)) ≡ true
          → (list_any (eqb q) (numbers path asked.1) ≡ true → IsKnown path q) → IsKnown (n ∷ path) q
      by true e g before = subst (IsKnown (n ∷ path)) (sym (eqb-true q asked.0.number e)) here
      by false e g before = kept path n asked some q (slice_get atoms q) refl (before g)

  -- an atom that is asked wasn't asked before
  fresh : (path : List Narrowing) (n : Narrowing) (asked : Asked (n ∷ path)) → IsInhabited (Way [])
      → list_any (eqb asked.0.number) (numbers path asked.1) ≡ false
  fresh path n asked some = by (list_any (eqb asked.0.number) (numbers path asked.1)) refl
    where
      by : (b : Bool) → list_any (eqb asked.0.number) (numbers path asked.1) ≡ b → b ≡ false
      by false e = refl
      by true e = absurd (known_at path asked.1 some asked.0.number e
          (ap (atom_decided (Way path)) asked.0.atom_is ∙ asked.0.undecided))

  distinct : (path : List Narrowing) (asked : Asked path) → IsInhabited (Way []) → IsDistinct eqb (numbers path asked)
  unfolding IsDistinct
  distinct [] asked some = tt
  distinct (n ∷ path) asked some =
      apart_push asked.0.number (numbers path asked.1) (fresh path n asked some) (distinct path asked.1 some)

  below : (path : List Narrowing) (asked : Asked path) (q : ℕ) → list_any (eqb q) (numbers path asked) ≡ true
      → q < length atoms
  below [] asked q among = absurd (true≢false (sym among))
  below (n ∷ path) asked q among = by (eqb q asked.0.number) refl among (below path asked.1 q)
    where
      by : (b : Bool) → eqb q asked.0.number ≡ b → (b || list_any (eqb q) (numbers path asked.1)) ≡ true
          → (list_any (eqb q) (numbers path asked.1) ≡ true → q < length atoms) → q < length atoms
      by true e g before = subst (λ (k : ℕ). k < length atoms) (sym (eqb-true q asked.0.number e))
          (slice_get_within atoms asked.0.number _ asked.0.atom_is)
      by false e g before = before g

  as_many : (path : List Narrowing) (asked : Asked path) → length (numbers path asked) ≡ length path
  as_many [] asked = refl
  as_many (n ∷ path) asked = ap suc (as_many path asked.1)

  -- before a further answer there is room for it
  pub room_left : (path : List Narrowing) (n : Narrowing) → Asked (n ∷ path) → IsInhabited (Way [])
      → length path < length atoms
  room_left path n asked some =
      let all = numbers (n ∷ path) asked in
      let few : length all ≤ length atoms =
      length-le_from_distinct_below all (length atoms) (distinct (n ∷ path) asked some) (below (n ∷ path) asked) in
      let counted : length (numbers path asked.1) ≡ length path = as_many path asked.1 in
      omega (arith, few, counted)
