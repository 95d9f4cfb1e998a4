-- What is known of the judging of a table's target is so, where its numbers name what they should.
use Rattle.std.proofs.Common.{◌≡◌, ℕ, zero, suc, ◌+◌, ◌<◌, nat_eq, nat_lt, Bool, true, false, ◌&&◌, IsTrue, List, []}
use Rattle.std.proofs.Common.{◌∷◌}
use Rattle.std.proofs.Common.{◌++◌, map, length, Option, Some, slice_get, refl, sym, ap, ◌∙◌, subst, arith}
use Rattle.std.proofs.Common.{true≢false}
use Rattle.std.proofs.Common.{if◌then◌else◌}
use Rattle.std.proofs.lemmas.Bool.Decides.{nat_tests}
use Rattle.std.specs.List.{list_all}
use Rattle.cat_order.specs.Order.{dependencies_of}
use Rattle.cat_value.proofs.Exported.{list_all_at}
use Rattle.cat_scope.specs.Names.{AllHave}
use Rattle.cat_scope.specs.Groups.{excepting}
use Rattle.cat_scope.specs.Judging.{settle}
use Rattle.cat_scope.specs.Chains.{longest_chain, is_within, are_within}
use Rattle.cat_guard.specs.declared.guard.GuardGroup.{GuardGroup}
use Rattle.cat_guard.specs.declared.table.TableTarget.{TableTarget}
use Rattle.cat_guard.specs.declared.table.Term.{Term}
use Rattle.cat_guard.specs.declared.table.Atom.{Atom}
use Rattle.cat_guard.specs.Formulas.{IsSo, known, truth}
use Rattle.cat_guard.specs.GuardFormulas.{formula_of}
use Rattle.cat_guard.specs.Soundness.{are_below, def_is_sound, group_is_sound, above, target_is_sound, is_sound}
use Rattle.cat_guard.specs.TableJudging.{decided_def, decided_own, each_before, pairs_from, decided_group}
use Rattle.cat_guard.specs.TableJudging.{decided}
use Rattle.cat_guard.specs.Verdicts.{listed, def_verdict, own_verdict, excepting_in, group_verdict, verdict_of}
use Rattle.cat_guard.specs.Verdicts.{Stands}
use Rattle.cat_guard.proofs.FormulaLaws.{known_so}
use Rattle.cat_guard.proofs.VerdictLaws.{settle_stands, or_else_stands, maps_stand, truth_stands}

pub both_true : (a b : Bool) → IsTrue (a && b) → IsTrue a × IsTrue b
both_true true b h = (refl, h)
both_true false b h = absurd (true≢false (sym h))

pub all_true : {A : Type 0} (test : A → Bool) (xs : List A) → IsTrue (list_all test xs)
    → AllHave (λ x. IsTrue (test x)) xs
all_true test [] h = tt
all_true test (x ∷ xs) h = let two = both_true (test x) (list_all test xs) h in (two.0, all_true test xs two.1)

pub all_more : {A : Type 0} (P Q : A → Type 0) (xs : List A) → AllHave P xs → ((x : A) → P x → Q x) → AllHave Q xs
all_more P Q [] h go = tt
all_more P Q (x ∷ xs) h go = (go x h.0, all_more P Q xs h.1 go)

pub all_and : {A : Type 0} (P Q R : A → Type 0) (xs : List A) → AllHave P xs → AllHave Q xs
    → ((x : A) → P x → Q x → R x) → AllHave R xs
all_and P Q R [] h k go = tt
all_and P Q R (x ∷ xs) h k go = (go x h.0 k.0, all_and P Q R xs h.1 k.1 go)

-- an entry below the length is there
pub record Entry {A : Type 0} (xs : List A) (n : ℕ) : Type 0 where
  pub value : A
  pub is : slice_get xs n ≡ Some value

pub entry : {A : Type 0} (xs : List A) (n : ℕ) → IsTrue (nat_lt n (length xs)) → Entry xs n
entry [] n h = absurd (grind (arith, nat_tests))
entry (x ∷ xs) zero h = record { value = x; is = refl }
entry (x ∷ xs) (suc n) h = let e = entry xs n (grind (arith, nat_tests)) in record { value = e.value; is = e.is }

-- ---- which groups except a group

excepting_each : (h : ℕ) (gs : List ℕ) (pairs : List (ℕ × ℕ)) (n : ℕ) (b : Bool) → nat_eq h n ≡ b
    → excepting (each_before h gs pairs) n ≡ (if b then gs ++ excepting pairs n else excepting pairs n)
excepting_each h [] pairs n true e = refl
excepting_each h [] pairs n false e = refl
excepting_each h (g ∷ gs) pairs n true e =
    ap (λ b. if b then g ∷ excepting (each_before h gs pairs) n else excepting (each_before h gs pairs) n) e
    ∙ ap (λ ns. g ∷ ns) (excepting_each h gs pairs n true e)
excepting_each h (g ∷ gs) pairs n false e =
    ap (λ b. if b then g ∷ excepting (each_before h gs pairs) n else excepting (each_before h gs pairs) n) e
    ∙ excepting_each h gs pairs n false e

excepting_none : (n : ℕ) (gs : List GuardGroup) (k : ℕ) → k < n → excepting (pairs_from n gs) k ≡ []
excepting_none n [] k h = refl
excepting_none n (g ∷ gs) k h =
    excepting_each n g.excepted_by (pairs_from (n + 1) gs) k false (grind (arith, nat_tests))
    ∙ excepting_none (n + 1) gs k (omega (arith, h))

append_nil : (ns : List ℕ) → ns ++ [] ≡ ns
append_nil [] = refl
append_nil (n ∷ ns) = ap (λ ms. n ∷ ms) (append_nil ns)

excepting_from : (n : ℕ) (gs : List GuardGroup) (k : ℕ)
    → excepting (pairs_from n gs) (n + k) ≡ excepting_in (slice_get gs k)
excepting_from n [] k = refl
excepting_from n (g ∷ gs) zero =
    excepting_each n g.excepted_by (pairs_from (n + 1) gs) (n + 0) true (grind (arith, nat_tests))
    ∙ ap (λ ns. g.excepted_by ++ ns) (excepting_none (n + 1) gs (n + 0) (omega arith)) ∙ append_nil g.excepted_by
excepting_from n (g ∷ gs) (suc k) =
    excepting_each n g.excepted_by (pairs_from (n + 1) gs) (n + suc k) false (grind (arith, nat_tests))
    ∙ ap (excepting (pairs_from (n + 1) gs)) (omega arith) ∙ excepting_from (n + 1) gs k

pub excepting_is : (gs : List GuardGroup) (k : ℕ) → excepting (pairs_from 0 gs) k ≡ excepting_in (slice_get gs k)
excepting_is gs k = ap (excepting (pairs_from 0 gs)) (omega arith) ∙ excepting_from 0 gs k

pub above_is : (gs : List GuardGroup) (k : ℕ) → dependencies_of (above gs) k ≡ excepting_in (slice_get gs k)
above_is [] k = refl
above_is (g ∷ gs) zero = refl
above_is (g ∷ gs) (suc k) = above_is gs k

-- ---- a target

pub record IsSoundTarget (t : TableTarget) : Type 0 where
  pub groups : IsTrue (list_all (group_is_sound (length t.defs) (length t.groups)) t.groups)
  pub roots : IsTrue (are_below (length t.groups) t.roots)
  pub within : IsTrue (are_within (above t.groups) longest_chain (length t.groups))

pub sound_parts : (atoms : ℕ) (t : TableTarget) → IsTrue (target_is_sound atoms t)
    → IsTrue (list_all (def_is_sound atoms) t.defs) × IsSoundTarget t
sound_parts atoms t h =
    let front = both_true _ (are_within (above t.groups) longest_chain (length t.groups)) h in
    let middle = both_true _ (are_below (length t.groups) t.roots) front.0 in
    let first = both_true (list_all (def_is_sound atoms) t.defs) _ middle.0 in
    (first.0, record { groups = first.1; roots = middle.1; within = front.1 })

pub are_within_at : (deps : List (List ℕ)) (k bound n : ℕ) → IsTrue (are_within deps k bound) → IsTrue (nat_lt n bound)
    → IsTrue (is_within deps k n)
are_within_at deps k zero n h below = absurd (grind (arith, nat_tests))
are_within_at deps k (suc bound) n h below =
    by (nat_eq n bound) refl (are_within_at deps k bound n two.1)
  where
    two : IsTrue (is_within deps k bound) × IsTrue (are_within deps k bound)
    two = both_true (is_within deps k bound) (are_within deps k bound) h

    by : (b : Bool) → nat_eq n bound ≡ b → (IsTrue (nat_lt n bound) → IsTrue (is_within deps k n))
        → IsTrue (is_within deps k n)
    by true e front = subst (λ m. IsTrue (is_within deps k m)) (sym (grind (arith, nat_tests))) two.0
    by false e front = front (grind (arith, nat_tests))

pub no_chain : (deps : List (List ℕ)) (n : ℕ) → IsTrue (is_within deps 0 n) → ⊥
unfolding is_within
no_chain deps n h = true≢false (sym h)

pub chain_on : (deps : List (List ℕ)) (k n : ℕ) → IsTrue (is_within deps (suc k) n)
    → IsTrue (list_all (is_within deps k) (dependencies_of deps n))
unfolding is_within
chain_on deps k n h = h

module _ (t : TableTarget) (sound : IsSoundTarget t) (answers : ℕ → Option Bool) (holds : ℕ → Bool)
    (each : (a : ℕ) → IsSo (answers a) (holds a)) where
  def_stands : (d : ℕ) → IsTrue (nat_lt d (length t.defs))
      → Stands t.target t.defs (def_verdict answers d (slice_get t.defs d)) (decided_def holds (slice_get t.defs d)).end
  def_stands d below =
      let e = entry t.defs d below in
      subst (λ o. Stands t.target t.defs (def_verdict answers d o) (decided_def holds o).end) (sym e.is)
      (truth_stands t.target t.defs (known answers (formula_of e.value.guard)) (truth holds (formula_of e.value.guard))
      (known_so answers holds each (formula_of e.value.guard)) d e.value e.is)

  own_stands : (g : ℕ) (group : GuardGroup) → slice_get t.groups g ≡ Some group
      → Stands t.target t.defs (own_verdict t answers (slice_get t.groups g))
      (decided_own t holds (slice_get t.groups g)).end
  own_stands g group is =
      let two = both_true (are_below (length t.defs) group.defs) (are_below (length t.groups) group.excepted_by)
      (list_all_at (group_is_sound (length t.defs) (length t.groups)) t.groups g group sound.groups is) in
      subst (λ o. Stands t.target t.defs (own_verdict t answers o) (decided_own t holds o).end) (sym is)
      (settle_stands t.target t.defs _ _
      (maps_stand t.target t.defs (λ d. def_verdict answers d (slice_get t.defs d))
      (λ d. decided_def holds (slice_get t.defs d)) group.defs
      (all_more (λ d. IsTrue (nat_lt d (length t.defs))) _ group.defs
      (all_true (λ d. nat_lt d (length t.defs)) group.defs two.0) def_stands)))

  group_stands : (n g : ℕ) → IsTrue (is_within (above t.groups) n g) → IsTrue (nat_lt g (length t.groups))
      → Stands t.target t.defs (group_verdict t answers n g) (decided_group t holds n g).end
  group_stands zero g within below = absurd (no_chain (above t.groups) g within)
  group_stands (suc n) g within below =
      let e = entry t.groups g below in
      let two = both_true (are_below (length t.defs) e.value.defs) (are_below (length t.groups) e.value.excepted_by)
      (list_all_at (group_is_sound (length t.defs) (length t.groups)) t.groups g e.value sound.groups e.is) in
      let on : IsTrue (list_all (is_within (above t.groups) n) (excepting_in (slice_get t.groups g))) =
      subst (λ hs. IsTrue (list_all (is_within (above t.groups) n) hs)) (above_is t.groups g)
      (chain_on (above t.groups) n g within) in
      let here : IsTrue (list_all (λ h. nat_lt h (length t.groups)) (excepting_in (slice_get t.groups g))) =
      subst (λ o. IsTrue (list_all (λ h. nat_lt h (length t.groups)) (excepting_in o))) (sym e.is) two.1 in
      or_else_stands t.target t.defs (listed (map (group_verdict t answers n) (excepting_in (slice_get t.groups g))))
      (own_verdict t answers (slice_get t.groups g))
      (settle t.target (map (decided_group t holds n) (excepting (pairs_from 0 t.groups) g)))
      (decided_own t holds (slice_get t.groups g))
      (subst (λ hs. Stands t.target t.defs
      (listed (map (group_verdict t answers n) (excepting_in (slice_get t.groups g))))
      (settle t.target (map (decided_group t holds n) hs)).end) (sym (excepting_is t.groups g))
      (settle_stands t.target t.defs _ _
      (maps_stand t.target t.defs (group_verdict t answers n) (decided_group t holds n)
      (excepting_in (slice_get t.groups g))
      (all_and (λ h. IsTrue (is_within (above t.groups) n h)) (λ h. IsTrue (nat_lt h (length t.groups))) _
      (excepting_in (slice_get t.groups g))
      (all_true (is_within (above t.groups) n) (excepting_in (slice_get t.groups g)) on)
      (all_true (λ h. nat_lt h (length t.groups)) (excepting_in (slice_get t.groups g)) here)
      (group_stands n)))))
      (own_stands g e.value e.is)

  pub target_stands : Stands t.target t.defs (verdict_of t answers) (decided t holds).end
  target_stands =
      settle_stands t.target t.defs _ _
      (maps_stand t.target t.defs (group_verdict t answers longest_chain) (decided_group t holds longest_chain) t.roots
      (all_more (λ g. IsTrue (nat_lt g (length t.groups))) _ t.roots
      (all_true (λ g. nat_lt g (length t.groups)) t.roots sound.roots)
      (λ g below. group_stands longest_chain g
      (are_within_at (above t.groups) longest_chain (length t.groups) g sound.within below) below)))

pub targets_sound : (terms : List Term) (atoms : List Atom) (targets : List TableTarget)
    → IsTrue (is_sound terms atoms targets) → AllHave (λ t. IsTrue (target_is_sound (length atoms) t)) targets
unfolding is_sound
targets_sound terms atoms targets h =
    all_true (target_is_sound (length atoms)) targets
    (both_true _ (list_all (target_is_sound (length atoms)) targets) h).1

pub known_of_tables : (terms : List Term) (atoms : List Atom) (targets : List TableTarget)
    → IsTrue (is_sound terms atoms targets)
    → AllHave (λ t. (answers : ℕ → Option Bool) (holds : ℕ → Bool) → ((a : ℕ) → IsSo (answers a) (holds a))
    → Stands t.target t.defs (verdict_of t answers) (decided t holds).end) targets
known_of_tables terms atoms targets h =
    all_more (λ t. IsTrue (target_is_sound (length atoms) t)) _ targets (targets_sound terms atoms targets h)
    (λ t sound answers holds each. target_stands t (sound_parts (length atoms) t sound).1 answers holds each)
