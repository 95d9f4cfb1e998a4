-- A target before anything is known.
use Rattle.std.proofs.Common.{◌≡◌, ℕ, ◌+◌, ◌-◌, ◌<◌, Bool, true, ◌&&◌, IsTrue, List, [], ◌∷◌, ◌++◌, map}
use Rattle.std.proofs.Common.{length, drop, All, Option, Some, slice_get, sym, ap, ◌∙◌, subst, append_assoc}
use Rattle.std.proofs.Common.{Result, Ok, Err}
use Rattle.std.specs.Prelude.{IfOk}
use Rattle.std.proofs.lemmas.List.{append-nil, map-append}
use Rattle.std.proofs.lemmas.List.Folds.{list_all-append}
use Rattle.std.specs.List.{list_all}
use Rattle.cat_value.proofs.Exported.{list_all_at}
use Rattle.cat_scope.specs.Chains.{is_within, longest_chain}
use Rattle.cat_guard.specs.declared.guard.GuardGroup.{GuardGroup}
use Rattle.cat_guard.specs.declared.table.TableTarget.{TableTarget}
use Rattle.cat_guard.specs.Soundness.{above, are_below, group_is_sound, target_is_sound}
use Rattle.cat_guard.specs.Verdicts.{listed, else_verdict, group_verdict}
use Rattle.cat_guard.proofs.TableLaws.{both_true, sound_parts}
use Rattle.cat_guard.specs.declared.live.LiveGroup.{LiveGroup}
use Rattle.cat_guard.specs.declared.live.LiveGroup.TheOpen.{LiveGroup-F}
use Rattle.cat_guard.specs.declared.live.LiveGroup.TheViews.{roll-LiveGroup}
use Rattle.cat_guard.specs.Live.{defs_verdict, live_verdict, names_defs, IsLiveOf}
use Rattle.cat_guard.specs.inside.Whole.{groups_are_sound, IsWholeGroup, AreWholeGroups}
use Rattle.cat_guard.proofs.GroupLaws.{all_below, above_short, group_is}
use Rattle.cat_guard.proofs.LiveLaws.{live_roll, named_made}

pub if_ok : {A E : Type 0} {P Q : A → Type 0} (r : Result A E) → IfOk r P → ((a : A) → P a → Q a) → IfOk r Q
if_ok (Ok a) p go = go a p
if_ok (Err e) p go = tt

-- what a group of a target names
pub record IsNamed (t : TableTarget) (room : ℕ) (g : GuardGroup) : Type 0 where
  pub defs : IsTrue (are_below (length t.defs) g.defs)
  pub there : All (λ e. e < length t.groups) g.excepted_by
  pub short : All (λ e. is_within (above t.groups) (room - 1) e ≡ true) g.excepted_by

pub names : (t : TableTarget) (room n : ℕ) (g : GuardGroup) → IsTrue (groups_are_sound t)
    → slice_get t.groups n ≡ Some g → is_within (above t.groups) room n ≡ true → IsNamed t room g
names t room n g sound is short =
    let two = both_true (are_below (length t.defs) g.defs) (are_below (length t.groups) g.excepted_by)
    (list_all_at (group_is_sound (length t.defs) (length t.groups)) t.groups n g sound is) in
    record {
      defs = two.0;
      there = all_below (length t.groups) g.excepted_by two.1;
      short = above_short t room n g is short;
    }

pub sound_groups : (atoms : ℕ) (t : TableTarget) → IsTrue (target_is_sound atoms t) → IsTrue (groups_are_sound t)
sound_groups atoms t sound = (sound_parts atoms t sound).1.groups

-- a group of whole groups and its own definitions
pub group_whole : (t : TableTarget) (room n : ℕ) (g : GuardGroup) (x : LiveGroup-F LiveGroup)
    → slice_get t.groups n ≡ Some g → is_within (above t.groups) room n ≡ true
    → IsTrue (are_below (length t.defs) g.defs) → AreWholeGroups t (room - 1) g.excepted_by x.excepted_by
    → x.defs ≡ g.defs → IsWholeGroup t room n (roll-LiveGroup x)
group_whole t room n g x is short below whole own = record {
  named = named_made (length t.defs) x whole.named
      (subst (λ (ds : List ℕ). IsTrue (are_below (length t.defs) ds)) (sym own) below);
  judged = λ answers. live_roll t answers x
      ∙ ap (λ ws. else_verdict (listed ws) (defs_verdict t answers x.defs)) (whole.judged answers)
      ∙ ap (λ ds. else_verdict (listed (map (group_verdict t answers (room - 1)) g.excepted_by))
      (defs_verdict t answers ds)) own ∙ sym (group_is answers t room n g is short);
}

-- ---- a loop over groups

module _ (t : TableTarget) (room : ℕ) (numbers : List ℕ) where
  -- what is made, and what follows
  pub record AreMade (i : ℕ) (groups : List LiveGroup) : Type 0 where
    pub named : IsTrue (list_all (names_defs (length t.defs)) groups)
    pub judged : (answers : ℕ → Option Bool) → map (live_verdict t answers) groups
        ++ map (group_verdict t answers room) (drop i numbers) ≡ map (group_verdict t answers room) numbers

  pub more_made : (i n : ℕ) (groups : List LiveGroup) (g : LiveGroup) → drop i numbers ≡ n ∷ drop (i + 1) numbers
      → AreMade i groups → IsWholeGroup t room n g → AreMade (i + 1) (groups ++ g ∷ [])
  more_made i n groups g here made whole = record {
    named =
        list_all-append (names_defs (length t.defs)) groups (g ∷ [])
        ∙ ap (λ b. b && (names_defs (length t.defs) g && true)) made.named ∙ ap (λ b. b && true) whole.named;
    judged = λ answers. ap (λ ws. ws ++ map (group_verdict t answers room) (drop (i + 1) numbers))
        (map-append (live_verdict t answers) groups (g ∷ []))
        ∙ append_assoc (map (live_verdict t answers) groups) (live_verdict t answers g ∷ [])
        (map (group_verdict t answers room) (drop (i + 1) numbers))
        ∙ ap (λ w. map (live_verdict t answers) groups
        ++ w ∷ map (group_verdict t answers room) (drop (i + 1) numbers)) (whole.judged answers)
        ∙ sym (ap (λ ns. map (live_verdict t answers) groups ++ map (group_verdict t answers room) ns) here)
        ∙ made.judged answers;
  }

  pub all_made : (i : ℕ) (groups : List LiveGroup) → drop i numbers ≡ [] → AreMade i groups
      → AreWholeGroups t room numbers groups
  all_made i groups none made = record {
    named = made.named;
    judged = λ answers. sym (append-nil (map (live_verdict t answers) groups))
        ∙ sym (ap (λ ns. map (live_verdict t answers) groups ++ map (group_verdict t answers room) ns) none)
        ∙ made.judged answers;
  }

-- the roots of a target
pub roots_live : (t : TableTarget) (live : List LiveGroup) → AreWholeGroups t longest_chain t.roots live
    → (answers : ℕ → Option Bool) → IsLiveOf t answers live
roots_live t live whole answers = record { named = whole.named; judged = λ more kept. ap listed (whole.judged more) }
