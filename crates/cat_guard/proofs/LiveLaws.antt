-- What is live of a group and of a list, and what may be left out.
use Rattle.std.proofs.Common.{◌≡◌, ℕ, ◌+◌, Bool, ◌&&◌, IsTrue, List, [], ◌∷◌, ◌++◌, map, length, drop}
use Rattle.std.proofs.Common.{Option, refl, sym, ap, ◌∙◌, subst, append_assoc, ◌||◌, if◌then◌else◌}
use Rattle.std.proofs.lemmas.List.{append-nil, map-append}
use Rattle.std.proofs.lemmas.List.Folds.{list_all-map, list_all-append}
use Rattle.std.specs.List.{list_all}
use Rattle.cat_guard.specs.declared.table.TableTarget.{TableTarget}
use Rattle.cat_guard.specs.Soundness.{are_below}
use Rattle.cat_guard.specs.Verdicts.{Verdict, some_conflict, some_open, holders, are_two, first_of, listed}
use Rattle.cat_guard.specs.Verdicts.{else_verdict}
use Rattle.cat_guard.specs.Verdicts as v
use Rattle.cat_guard.proofs.TableLaws.{both_true}
use Rattle.cat_guard.specs.declared.live.LiveGroup.{LiveGroup}
use Rattle.cat_guard.specs.declared.live.LiveGroup.TheOpen.{LiveGroup-F}
use Rattle.cat_guard.specs.declared.live.LiveGroup.TheViews.{out-LiveGroup, roll-LiveGroup}
use Rattle.cat_guard.specs.declared.live.LiveGroup.TheFolds.{fold_out-LiveGroup, fold-roll-LiveGroup}
use Rattle.cat_guard.specs.Live.{defs_verdict, live_by, live_verdict, lives_verdict, named_by, names_defs, AreKept}
use Rattle.cat_guard.specs.Live.{IsLiveOf}
use Rattle.cat_guard.specs.inside.Pruned.{StandFor, DefsStandFor, GroupsStandFor, GroupStandsFor, IsGone}

-- ---- the equations of a group

pub live_out : (t : TableTarget) (answers : ℕ → Option Bool) (g : LiveGroup) → live_verdict t answers g
    ≡ else_verdict (lives_verdict t answers (out-LiveGroup g).excepted_by)
    (defs_verdict t answers (out-LiveGroup g).defs)
unfolding live_verdict
live_out t answers g = fold_out-LiveGroup Verdict (live_by t answers) g

pub live_roll : (t : TableTarget) (answers : ℕ → Option Bool) (x : LiveGroup-F LiveGroup)
    → live_verdict t answers (roll-LiveGroup x)
    ≡ else_verdict (lives_verdict t answers x.excepted_by) (defs_verdict t answers x.defs)
unfolding live_verdict
live_roll t answers x = fold-roll-LiveGroup Verdict (live_by t answers) x

all_named : (defs : ℕ) (gs : List LiveGroup)
    → list_all (λ named. named) (map (names_defs defs) gs) ≡ list_all (names_defs defs) gs
all_named defs gs = list_all-map (λ named. named) (names_defs defs) gs

named_out : (defs : ℕ) (g : LiveGroup) → names_defs defs g
    ≡ (list_all (names_defs defs) (out-LiveGroup g).excepted_by && are_below defs (out-LiveGroup g).defs)
unfolding names_defs
named_out defs g =
    fold_out-LiveGroup Bool (named_by defs) g
    ∙ ap (λ b. b && are_below defs (out-LiveGroup g).defs) (all_named defs (out-LiveGroup g).excepted_by)

named_roll : (defs : ℕ) (x : LiveGroup-F LiveGroup) → names_defs defs (roll-LiveGroup x)
    ≡ (list_all (names_defs defs) x.excepted_by && are_below defs x.defs)
unfolding names_defs
named_roll defs x =
    fold-roll-LiveGroup Bool (named_by defs) x ∙ ap (λ b. b && are_below defs x.defs) (all_named defs x.excepted_by)

-- its parts name definitions
pub named_parts : (defs : ℕ) (g : LiveGroup) → IsTrue (names_defs defs g)
    → IsTrue (list_all (names_defs defs) (out-LiveGroup g).excepted_by)
    × IsTrue (are_below defs (out-LiveGroup g).defs)
named_parts defs g named =
    both_true (list_all (names_defs defs) (out-LiveGroup g).excepted_by) (are_below defs (out-LiveGroup g).defs)
    (sym (named_out defs g) ∙ named)

pub named_made : (defs : ℕ) (x : LiveGroup-F LiveGroup) → IsTrue (list_all (names_defs defs) x.excepted_by)
    → IsTrue (are_below defs x.defs) → IsTrue (names_defs defs (roll-LiveGroup x))
named_made defs x above own =
    named_roll defs x ∙ ap (λ b. b && are_below defs x.defs) above ∙ own

-- nothing is live of a group
pub gone : (t : TableTarget) (g : LiveGroup) → (out-LiveGroup g).excepted_by ≡ [] → (out-LiveGroup g).defs ≡ []
    → IsGone t g
gone t g above own answers =
    live_out t answers g
    ∙ ap (λ gs. else_verdict (lives_verdict t answers gs) (defs_verdict t answers (out-LiveGroup g).defs)) above
    ∙ ap (λ ds. else_verdict v.Empty (defs_verdict t answers ds)) own

-- ---- lists without a member that is Empty

conflict_out : (us ws : List Verdict) → some_conflict (us ++ v.Empty ∷ ws) ≡ some_conflict (us ++ ws)
conflict_out [] ws = refl
conflict_out (v.Holds d ∷ us) ws = conflict_out us ws
conflict_out (v.Empty ∷ us) ws = conflict_out us ws
conflict_out (v.Conflict ∷ us) ws = refl
conflict_out (v.Open ∷ us) ws = conflict_out us ws

open_out : (us ws : List Verdict) → some_open (us ++ v.Empty ∷ ws) ≡ some_open (us ++ ws)
open_out [] ws = refl
open_out (v.Holds d ∷ us) ws = open_out us ws
open_out (v.Empty ∷ us) ws = open_out us ws
open_out (v.Conflict ∷ us) ws = open_out us ws
open_out (v.Open ∷ us) ws = refl

holders_out : (us ws : List Verdict) → holders (us ++ v.Empty ∷ ws) ≡ holders (us ++ ws)
holders_out [] ws = refl
holders_out (v.Holds d ∷ us) ws = ap (λ ds. d ∷ ds) (holders_out us ws)
holders_out (v.Empty ∷ us) ws = holders_out us ws
holders_out (v.Conflict ∷ us) ws = holders_out us ws
holders_out (v.Open ∷ us) ws = holders_out us ws

-- the verdict of a list by what it is made of
abbrev verdict_by_parts : Bool → Bool → List ℕ → Verdict
verdict_by_parts conflict unknown held =
    if conflict || are_two held then v.Conflict else if unknown then v.Open else first_of held

listed_out : (us ws : List Verdict) → listed (us ++ v.Empty ∷ ws) ≡ listed (us ++ ws)
listed_out us ws =
    ap (λ b. verdict_by_parts b (some_open (us ++ v.Empty ∷ ws)) (holders (us ++ v.Empty ∷ ws))) (conflict_out us ws)
    ∙ ap (λ b. verdict_by_parts (some_conflict (us ++ ws)) b (holders (us ++ v.Empty ∷ ws))) (open_out us ws)
    ∙ ap (verdict_by_parts (some_conflict (us ++ ws)) (some_open (us ++ ws))) (holders_out us ws)

module _ {A : Type 0} (f : A → Verdict) (left : List A) (x : A) (more : List A) where
  map_at : (y : A) → map f (left ++ y ∷ more) ≡ map f left ++ f y ∷ map f more
  map_at y = map-append f left (y ∷ more)

  listed_without : f x ≡ v.Empty → listed (map f (left ++ more)) ≡ listed (map f (left ++ x ∷ more))
  listed_without out =
      ap listed (map-append f left more) ∙ sym (listed_out (map f left) (map f more))
      ∙ sym (ap listed (map_at x ∙ ap (λ w. map f left ++ w ∷ map f more) out))

  listed_with : (y : A) → f y ≡ f x → listed (map f (left ++ y ∷ more)) ≡ listed (map f (left ++ x ∷ more))
  listed_with y same = ap listed (map_at y ∙ ap (λ w. map f left ++ w ∷ map f more) same ∙ sym (map_at x))

-- ---- a loop that leaves members out

module _ {A : Type 0} (named : A → Bool) (verdict : (ℕ → Option Bool) → A → Verdict) (answers : ℕ → Option Bool)
    (before : List A) where
  -- what is left and what follows stand for the list
  abbrev pub Stands : List A → Type 0
  Stands after = StandFor named verdict answers before after

  pub all_stand : IsTrue (list_all named before) → Stands before
  all_stand all = record { named = all; judged = λ more kept. refl }

  module _ (left : List A) (i : ℕ) (x : A) (here : drop i before ≡ x ∷ drop (i + 1) before)
      (stand : Stands (left ++ drop i before)) where
    now : Stands (left ++ x ∷ drop (i + 1) before)
    now = subst (λ xs. Stands (left ++ xs)) here stand

    parts : IsTrue (list_all named left) × IsTrue (named x && list_all named (drop (i + 1) before))
    parts = both_true (list_all named left) (list_all named (x ∷ drop (i + 1) before))
        (sym (list_all-append named left (x ∷ drop (i + 1) before)) ∙ now.named)

    behind : IsTrue (list_all named (drop (i + 1) before))
    behind = (both_true (named x) (list_all named (drop (i + 1) before)) parts.1).1

    pub here_named : IsTrue (named x)
    here_named = (both_true (named x) (list_all named (drop (i + 1) before)) parts.1).0

    pub left_out : ((more : ℕ → Option Bool) → AreKept answers more → verdict more x ≡ v.Empty)
        → Stands (left ++ drop (i + 1) before)
    left_out out = record {
      named =
          list_all-append named left (drop (i + 1) before)
          ∙ ap (λ b. b && list_all named (drop (i + 1) before)) parts.0 ∙ behind;
      judged = λ more kept. listed_without (verdict more) left x (drop (i + 1) before) (out more kept)
          ∙ now.judged more kept;
    }

    pub put_on : (y : A) → IsTrue (named y)
        → ((more : ℕ → Option Bool) → AreKept answers more → verdict more y ≡ verdict more x)
        → Stands ((left ++ y ∷ []) ++ drop (i + 1) before)
    put_on y is same =
        subst Stands (sym (append_assoc left (y ∷ []) (drop (i + 1) before))) (record {
          named =
              list_all-append named left (y ∷ drop (i + 1) before)
              ∙ ap (λ b. b && (named y && list_all named (drop (i + 1) before))) parts.0
              ∙ ap (λ b. b && list_all named (drop (i + 1) before)) is ∙ behind;
          judged = λ more kept. listed_with (verdict more) left x (drop (i + 1) before) y (same more kept)
              ∙ now.judged more kept;
        })

  pub all_left : (left : List A) (i : ℕ) → drop i before ≡ [] → Stands (left ++ drop i before) → Stands left
  all_left left i none stand =
      subst Stands (append-nil left) (subst (λ xs. Stands (left ++ xs)) none stand)

-- ---- a group and a target

-- a group of what stands for its parts
pub group_stands : (t : TableTarget) (answers : ℕ → Option Bool) (g : LiveGroup) (x : LiveGroup-F LiveGroup)
    → GroupsStandFor t answers (out-LiveGroup g).excepted_by x.excepted_by
    → DefsStandFor t answers (out-LiveGroup g).defs x.defs → GroupStandsFor t answers g (roll-LiveGroup x)
group_stands t answers g x above own = record {
  named = named_made (length t.defs) x above.named own.named;
  judged = λ more kept. live_roll t more x
      ∙ ap (λ w. else_verdict w (defs_verdict t more x.defs)) (above.judged more kept)
      ∙ ap (else_verdict (lives_verdict t more (out-LiveGroup g).excepted_by)) (own.judged more kept)
      ∙ sym (live_out t more g);
}

-- what stands for what is live is live
pub live_stands : (t : TableTarget) (answers : ℕ → Option Bool) (before after : List LiveGroup)
    → IsLiveOf t answers before → GroupsStandFor t answers before after → IsLiveOf t answers after
live_stands t answers before after live stand = record {
  named = stand.named;
  judged = λ more kept. stand.judged more kept ∙ live.judged more kept;
}

-- the same answers are kept
pub self_kept : (answers : ℕ → Option Bool) → AreKept answers answers
self_kept answers a b is = is

-- what is live stays so where more is known
pub live_further : (t : TableTarget) (answers more : ℕ → Option Bool) (live : List LiveGroup) → AreKept answers more
    → IsLiveOf t answers live → IsLiveOf t more live
live_further t answers more live kept is = record {
  named = is.named;
  judged = λ most on. is.judged most (λ a b known. on a b (kept a b known));
}
