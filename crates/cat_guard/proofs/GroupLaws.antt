-- A target's groups: what is there, what stands above it, and its verdict by theirs.
use Rattle.std.proofs.Common.{◌≡◌, ℕ, zero, suc, ◌-◌, ◌<◌, nat_lt, Bool, true, IsTrue, List, [], ◌∷◌, map, length}
use Rattle.std.proofs.Common.{Option, Some, None, slice_get, refl, sym, ap, ◌∙◌, subst, arith, All}
use Rattle.std.proofs.lemmas.Bool.Decides.{nat_tests}
use Rattle.std.specs.List.{list_all}
use Rattle.cat_value.proofs.Exported.{list_all_at}
use Rattle.cat_scope.specs.Names.{IsOneOf}
use Rattle.cat_scope.specs.Chains.{longest_chain, is_within}
use Rattle.cat_guard.specs.declared.guard.GuardDef.{GuardDef}
use Rattle.cat_guard.specs.declared.guard.GuardGroup.{GuardGroup}
use Rattle.cat_guard.specs.declared.table.Term.{Term}
use Rattle.cat_guard.specs.declared.table.Atom.{Atom}
use Rattle.cat_guard.specs.declared.table.TableTarget.{TableTarget}
use Rattle.cat_guard.specs.Formulas.{asked}
use Rattle.cat_guard.specs.GuardFormulas.{formula_of}
use Rattle.cat_guard.specs.Soundness.{are_below, group_is_sound, above, target_is_sound, is_sound}
use Rattle.cat_guard.specs.Verdicts.{Verdict, listed, else_verdict, own_verdict, excepting_in, group_verdict}
use Rattle.cat_guard.specs.Verdicts as v
use Rattle.cat_guard.proofs.TableLaws.{both_true, sound_parts, are_within_at, chain_on, no_chain, above_is}
use Rattle.cat_guard.specs.declared.tally.MemberJudgement.{MemberJudgement}
use Rattle.cat_guard.specs.declared.tally.MemberJudgement.TheVariants as finding
use Rattle.cat_guard.specs.Judgements.{asked_in, atoms_in}
use Rattle.cat_guard.specs.inside.Found.{Finds}
use Rattle.cat_guard.proofs.TellLaws.{in_front, in_back}

-- what passes a test, as a property
pub all_pass : {A : Type 0} (P : A → Type 0) (test : A → Bool) (xs : List A) → ((x : A) → IsTrue (test x) → P x)
    → IsTrue (list_all test xs) → All P xs
all_pass P test [] go h k d within = absurd (omega (arith, within))
all_pass P test (x ∷ xs) go h zero d within = go x (both_true (test x) (list_all test xs) h).0
all_pass P test (x ∷ xs) go h (suc k) d within =
    all_pass P test xs go (both_true (test x) (list_all test xs) h).1 k d (omega (arith, within))

pub all_below : (bound : ℕ) (ns : List ℕ) → IsTrue (are_below bound ns) → All (λ n. n < bound) ns
all_below bound ns h = all_pass (λ n. n < bound) (λ n. nat_lt n bound) ns (λ n is. grind (arith, nat_tests)) h

pub sound_target : (terms : List Term) (atoms : List Atom) (targets : List TableTarget) (n : ℕ) (t : TableTarget)
    → IsTrue (is_sound terms atoms targets) → slice_get targets n ≡ Some t
    → IsTrue (target_is_sound (length atoms) t)
unfolding is_sound
sound_target terms atoms targets n t h is =
    list_all_at (target_is_sound (length atoms)) targets n t
    (both_true _ (list_all (target_is_sound (length atoms)) targets) h).1 is

-- ---- definitions

asked_of : (defs : List GuardDef) (d : ℕ) (def : GuardDef) (a : ℕ) → slice_get defs d ≡ Some def
    → IsOneOf a (asked (formula_of def.guard)) → IsOneOf a (asked_in defs)
asked_of [] d def a is among = absurd (cc)
asked_of (e ∷ defs) zero def a is among =
    in_front a (asked (formula_of e.guard)) (asked_in defs)
    (subst (λ (g : GuardDef). IsOneOf a (asked (formula_of g.guard))) (sym (same_def e def is)) among)
  where
    or_this : GuardDef → Option GuardDef → GuardDef
    or_this e None = e
    or_this e (Some g) = g

    same_def : (e def : GuardDef) → Some e ≡ Some def → e ≡ def
    same_def e def is = ap (or_this e) is
asked_of (e ∷ defs) (suc d) def a is among =
    in_back a (asked (formula_of e.guard)) (asked_in defs) (asked_of defs d def a is among)

pub atom_of_def : (t : TableTarget) (d : ℕ) (def : GuardDef) (a : ℕ) → slice_get t.defs d ≡ Some def
    → IsOneOf a (asked (formula_of def.guard)) → IsOneOf a (atoms_in t)
atom_of_def t d def a is among = asked_of t.defs d def a is among

-- ---- groups

-- what is known of a group of which no chain has more than `room` groups
pub record IsReached (atoms : ℕ) (t : TableTarget) (room : ℕ) (g : GuardGroup) : Type 0 where
  pub defs : All (λ d. d < length t.defs) g.defs
  pub there : All (λ e. e < length t.groups) g.excepted_by
  pub short : All (λ e. is_within (above t.groups) (room - 1) e ≡ true) g.excepted_by

pub has_room : (t : TableTarget) (room g : ℕ) → is_within (above t.groups) room g ≡ true → 0 < room
has_room t zero g short = absurd (no_chain (above t.groups) g short)
has_room t (suc room) g short = omega arith

less : (room : ℕ) → suc room - 1 ≡ room
less room = omega arith

pub above_short : (t : TableTarget) (room n : ℕ) (g : GuardGroup) → slice_get t.groups n ≡ Some g
    → is_within (above t.groups) room n ≡ true → All (λ e. is_within (above t.groups) (room - 1) e ≡ true) g.excepted_by
above_short t zero n g is short = absurd (no_chain (above t.groups) n short)
above_short t (suc room) n g is short =
    subst (λ (r : ℕ). All (λ e. is_within (above t.groups) r e ≡ true) g.excepted_by) (sym (less room))
    (all_pass (λ e. is_within (above t.groups) room e ≡ true) (is_within (above t.groups) room) g.excepted_by
    (λ e h. h)
    (subst (λ hs. IsTrue (list_all (is_within (above t.groups) room) hs))
    (above_is t.groups n ∙ ap excepting_in is) (chain_on (above t.groups) room n short)))

pub reached : (atoms : ℕ) (t : TableTarget) (room n : ℕ) (g : GuardGroup) → IsTrue (target_is_sound atoms t)
    → slice_get t.groups n ≡ Some g → is_within (above t.groups) room n ≡ true → IsReached atoms t room g
reached atoms t room n g sound is short =
    let parts = (sound_parts atoms t sound).1 in
    let two = both_true (are_below (length t.defs) g.defs) (are_below (length t.groups) g.excepted_by)
    (list_all_at (group_is_sound (length t.defs) (length t.groups)) t.groups n g parts.groups is) in
    record {
      defs = all_below (length t.defs) g.defs two.0;
      there = all_below (length t.groups) g.excepted_by two.1;
      short = above_short t room n g is short;
    }

pub roots_there : (atoms : ℕ) (t : TableTarget) → IsTrue (target_is_sound atoms t)
    → All (λ n. n < length t.groups) t.roots
roots_there atoms t sound = all_below (length t.groups) t.roots (sound_parts atoms t sound).1.roots

pub roots_short : (atoms : ℕ) (t : TableTarget) → IsTrue (target_is_sound atoms t)
    → All (λ n. is_within (above t.groups) longest_chain n ≡ true) t.roots
roots_short atoms t sound =
    let parts = (sound_parts atoms t sound).1 in
    all_pass (λ n. is_within (above t.groups) longest_chain n ≡ true) (λ n. nat_lt n (length t.groups)) t.roots
    (λ n below. are_within_at (above t.groups) longest_chain (length t.groups) n parts.within below) parts.roots

module _ (answers : ℕ → Option Bool) (t : TableTarget) where
  -- the verdict of a group by that of the groups that except it
  pub group_is : (room n : ℕ) (g : GuardGroup) → slice_get t.groups n ≡ Some g
      → is_within (above t.groups) room n ≡ true
      → group_verdict t answers room n
      ≡ else_verdict (listed (map (group_verdict t answers (room - 1)) g.excepted_by)) (own_verdict t answers (Some g))
  group_is zero n g is short = absurd (no_chain (above t.groups) n short)
  group_is (suc room) n g is short =
      ap (λ o. else_verdict (listed (map (group_verdict t answers room) (excepting_in o))) (own_verdict t answers o)) is
      ∙ ap (λ (r : ℕ). else_verdict (listed (map (group_verdict t answers r) g.excepted_by))
      (own_verdict t answers (Some g))) (sym (less room))

  -- where nothing excepts it, a group is judged by its own definitions
  pub found_own : (w x : Verdict) (f : MemberJudgement) → w ≡ v.Empty → Finds answers t x f
      → Finds answers t (else_verdict w x) f
  found_own w x f is found = subst (λ u. Finds answers t (else_verdict u x) f) (sym is) found

  pub found_above : (w x : Verdict) (f : MemberJudgement) → (f ≡ finding.Empty → ⊥) → Finds answers t w f
      → Finds answers t (else_verdict w x) f
  found_above w x (finding.Holds d) not_empty is = ap (λ u. else_verdict u x) is
  found_above w x finding.Empty not_empty is = absurd (not_empty refl)
  found_above w x finding.Conflict not_empty is = ap (λ u. else_verdict u x) is
  found_above w x (finding.Needs a) not_empty is = (ap (λ u. else_verdict u x) is.0, is.1, is.2)
