-- What is judged stays so where more is known.
use Rattle.std.proofs.Common.{◌≡◌, ℕ, zero, suc, ◌≤◌, Bool, true, false, ◌||◌, IsTrue, List, [], ◌∷◌, map, length}
use Rattle.std.proofs.Common.{Option, Some, None, slice_get, refl, sym, ap, ◌∙◌, subst, true≢false, arith}
use Rattle.std.proofs.Common.{if◌then◌else◌}
use Rattle.cat_region.specs.declared.narrowing.Narrowing.{Narrowing}
use Rattle.cat_region.specs.Regions.{Constraints, IsRegion, IsInhabited, with_narrowing, is_cut_at}
use Rattle.cat_region.proofs.Exported.{decided_at-narrowed}
use Rattle.cat_value.proofs.Exported.{list_all_at}
use Rattle.cat_scope.specs.Names.{AllHave}
use Rattle.cat_scope.specs.Chains.{longest_chain}
use Rattle.cat_guard.specs.declared.guard.GuardDef.{GuardDef}
use Rattle.cat_guard.specs.declared.guard.GuardGroup.{GuardGroup}
use Rattle.cat_guard.specs.declared.table.Term.{Term}
use Rattle.cat_guard.specs.declared.table.Atom.{Atom}
use Rattle.cat_guard.specs.declared.table.TableTarget.{TableTarget}
use Rattle.cat_guard.specs.Formulas.{IsKept, known}
use Rattle.cat_guard.specs.GuardFormulas.{formula_of}
use Rattle.cat_guard.specs.Judged.{atom_decided, answers_in, judged_in}
use Rattle.cat_guard.specs.Soundness.{is_sound}
use Rattle.cat_guard.specs.Valuations.{dims_of}
use Rattle.cat_guard.specs.Verdicts.{Verdict, some_conflict, some_open, holders, are_two, first_of, listed}
use Rattle.cat_guard.specs.Verdicts.{else_verdict, verdict_by, def_verdict, own_verdict, excepting_in}
use Rattle.cat_guard.specs.Verdicts.{group_verdict, verdict_of, IsFurther}
use Rattle.cat_guard.specs.Verdicts as v
use Rattle.cat_guard.proofs.FormulaLaws.{known_kept}
use Rattle.cat_guard.specs.inside.Telling.{are_cuts_of}
use Rattle.cat_guard.proofs.RegionLaws.{cuts_of, sound_atoms}
use Rattle.cat_guard.specs.declared.live.LiveGroup.{LiveGroup}
use Rattle.cat_guard.specs.Live.{IsLiveOf}

same_further : (w x : Verdict) → w ≡ x → IsFurther w x
same_further (v.Holds d) x e = e
same_further v.Empty x e = e
same_further v.Conflict x e = e
same_further v.Open x e = tt

-- ---- lists

record Grown (vs ws : List Verdict) : Type 0 where
  conflict : some_conflict vs ≡ true → some_conflict ws ≡ true
  few : length (holders vs) ≤ length (holders ws)
  same : some_open vs ≡ false → vs ≡ ws

grown_open : (w : Verdict) (vs ws : List Verdict) → Grown vs ws → Grown (v.Open ∷ vs) (w ∷ ws)
grown_open (v.Holds d) vs ws g = record {
  conflict = g.conflict;
  few = let few = g.few in omega arith;
  same = λ shut. absurd (true≢false shut);
}
grown_open v.Empty vs ws g =
    record { conflict = g.conflict; few = g.few; same = λ shut. absurd (true≢false shut) }
grown_open v.Conflict vs ws g =
    record { conflict = λ h. refl; few = g.few; same = λ shut. absurd (true≢false shut) }
grown_open v.Open vs ws g =
    record { conflict = g.conflict; few = g.few; same = λ shut. absurd (true≢false shut) }

grown_more : (w x : Verdict) (vs ws : List Verdict) → IsFurther w x → Grown vs ws → Grown (w ∷ vs) (x ∷ ws)
grown_more (v.Holds d) x vs ws e g = subst (λ y. Grown (v.Holds d ∷ vs) (y ∷ ws)) e (record {
  conflict = g.conflict;
  few = let few = g.few in omega arith;
  same = λ shut. ap (λ us. v.Holds d ∷ us) (g.same shut);
})
grown_more v.Empty x vs ws e g = subst (λ y. Grown (v.Empty ∷ vs) (y ∷ ws)) e
    (record { conflict = g.conflict; few = g.few; same = λ shut. ap (λ us. v.Empty ∷ us) (g.same shut) })
grown_more v.Conflict x vs ws e g = subst (λ y. Grown (v.Conflict ∷ vs) (y ∷ ws)) e
    (record { conflict = λ h. refl; few = g.few; same = λ shut. ap (λ us. v.Conflict ∷ us) (g.same shut) })
grown_more v.Open x vs ws e g = grown_open x vs ws g

two_more : (ds es : List ℕ) → length ds ≤ length es → are_two ds ≡ true → are_two es ≡ true
two_more [] es few two = absurd (true≢false (sym two))
two_more (d ∷ []) es few two = absurd (true≢false (sym two))
two_more (d ∷ e ∷ ds) [] few two = absurd (omega arith)
two_more (d ∷ e ∷ ds) (f ∷ []) few two = absurd (omega arith)
two_more (d ∷ e ∷ ds) (f ∷ g ∷ es) few two = refl

either_more : (a b c d : Bool) → (a ≡ true → c ≡ true) → (b ≡ true → d ≡ true) → (a || b) ≡ true → (c || d) ≡ true
either_more true b c d h i e = rw (h refl) refl
either_more false b true d h i e = refl
either_more false b false d h i e = i e

listed_further : (vs ws : List Verdict) → Grown vs ws → IsFurther (listed vs) (listed ws)
listed_further vs ws g = by (some_conflict vs || are_two (holders vs)) (some_open vs) refl refl
  where
    by : (b o : Bool) → (some_conflict vs || are_two (holders vs)) ≡ b → some_open vs ≡ o
        → IsFurther (if b then v.Conflict else if o then v.Open else first_of (holders vs)) (listed ws)
    by true o e f = sym (ap (λ b. if b then v.Conflict else if some_open ws then v.Open else first_of (holders ws))
        (either_more (some_conflict vs) (are_two (holders vs)) (some_conflict ws) (are_two (holders ws)) g.conflict
        (two_more (holders vs) (holders ws) g.few) e))
    by false true e f = tt
    by false false e f = same_further (first_of (holders vs)) (listed ws)
        (sym (ap (λ b. if b then v.Conflict else if some_open vs then v.Open else first_of (holders vs)) e
        ∙ ap (λ o. if o then v.Open else first_of (holders vs)) f) ∙ ap listed (g.same f))

maps_grown : {B : Type 0} (f g : B → Verdict) (bs : List B) → ((b : B) → IsFurther (f b) (g b))
    → Grown (map f bs) (map g bs)
maps_grown f g [] each = record { conflict = λ h. h; few = omega arith; same = λ shut. refl }
maps_grown f g (b ∷ bs) each = grown_more (f b) (g b) (map f bs) (map g bs) (each b) (maps_grown f g bs each)

else_further : (w x y z : Verdict) → IsFurther w x → IsFurther y z → IsFurther (else_verdict w y) (else_verdict x z)
else_further (v.Holds d) x y z e f = ap (λ u. else_verdict u z) e
else_further v.Conflict x y z e f = ap (λ u. else_verdict u z) e
else_further v.Open x y z e f = tt
else_further v.Empty x y z e f = subst (λ u. IsFurther y (else_verdict u z)) e f

-- ---- a target

module _ (t : TableTarget) (answers more : ℕ → Option Bool) (each : (a : ℕ) → IsKept (answers a) (more a)) where
  by_further : (o p : Option Bool) (d : ℕ) → IsKept o p → IsFurther (verdict_by o d) (verdict_by p d)
  by_further None p d kept = tt
  by_further (Some true) p d kept = sym (ap (λ q. verdict_by q d) (kept true refl))
  by_further (Some false) p d kept = sym (ap (λ q. verdict_by q d) (kept false refl))

  def_further : (d : ℕ) (o : Option GuardDef) → IsFurther (def_verdict answers d o) (def_verdict more d o)
  def_further d None = tt
  def_further d (Some def) =
      by_further (known answers (formula_of def.guard)) (known more (formula_of def.guard)) d
      (known_kept answers more each (formula_of def.guard))

  own_further : (o : Option GuardGroup) → IsFurther (own_verdict t answers o) (own_verdict t more o)
  own_further None = tt
  own_further (Some g) = listed_further _ _ (maps_grown (λ d. def_verdict answers d (slice_get t.defs d))
      (λ d. def_verdict more d (slice_get t.defs d)) g.defs (λ d. def_further d (slice_get t.defs d)))

  group_further : (n g : ℕ) → IsFurther (group_verdict t answers n g) (group_verdict t more n g)
  group_further zero g = tt
  group_further (suc n) g =
      else_further (listed (map (group_verdict t answers n) (excepting_in (slice_get t.groups g))))
      (listed (map (group_verdict t more n) (excepting_in (slice_get t.groups g))))
      (own_verdict t answers (slice_get t.groups g)) (own_verdict t more (slice_get t.groups g))
      (listed_further _ _ (maps_grown (group_verdict t answers n) (group_verdict t more n)
      (excepting_in (slice_get t.groups g)) (group_further n)))
      (own_further (slice_get t.groups g))

  pub verdict_further : IsFurther (verdict_of t answers) (verdict_of t more)
  verdict_further = listed_further _ _ (maps_grown (group_verdict t answers longest_chain)
      (group_verdict t more longest_chain) t.roots (group_further longest_chain))

-- ---- a region

pub answers_kept : (atoms : List Atom) (region : Constraints) (n : Narrowing) → IsRegion region
    → IsTrue (are_cuts_of region.dims atoms) → IsTrue (is_cut_at region.dims n.dim n.cut)
    → IsInhabited (with_narrowing region n)
    → (a : ℕ) → IsKept (answers_in atoms region a) (answers_in atoms (with_narrowing region n) a)
answers_kept atoms region n sound cuts kind some a = by (slice_get atoms a) refl
  where
    by : (o : Option Atom) → slice_get atoms a ≡ o
        → IsKept (atom_decided region o) (atom_decided (with_narrowing region n) o)
    by None is b e = absurd (cc)
    by (Some atom) is b e = decided_at-narrowed region n atom.term atom.cut b sound kind
        (list_all_at (λ x. is_cut_at region.dims x.term x.cut) atoms a atom cuts is) some e

all_have : {A : Type 0} (P : A → Type 0) (xs : List A) → ((x : A) → P x) → AllHave P xs
all_have P [] each = tt
all_have P (x ∷ xs) each = (each x, all_have P xs each)

pub judged_further : (terms : List Term) (atoms : List Atom) (targets : List TableTarget)
    → IsTrue (is_sound terms atoms targets)
    → AllHave (λ t. (region : Constraints) (n : Narrowing) → IsRegion region → region.dims ≡ dims_of terms
    → IsTrue (is_cut_at region.dims n.dim n.cut) → IsInhabited (with_narrowing region n)
    → IsFurther (judged_in atoms region t) (judged_in atoms (with_narrowing region n) t)) targets
judged_further terms atoms targets sound = all_have _ targets (λ t region n is dims kind some.
    verdict_further t (answers_in atoms region) (answers_in atoms (with_narrowing region n))
    (answers_kept atoms region n is (cuts_of region.dims terms atoms dims (sound_atoms terms atoms targets sound)) kind
    some))

-- what is live stays so where a region is narrowed
abbrev pub KeepsLive : List Term → List Atom → Type 0
KeepsLive terms atoms = (t : TableTarget) (region : Constraints) (n : Narrowing) (live : List LiveGroup)
    → IsRegion region → region.dims ≡ dims_of terms → IsTrue (is_cut_at region.dims n.dim n.cut)
    → IsInhabited (with_narrowing region n) → IsLiveOf t (answers_in atoms region) live
    → IsLiveOf t (answers_in atoms (with_narrowing region n)) live
