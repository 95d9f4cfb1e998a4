-- A loop over a list that counts its members.
use Rattle.std.proofs.Common.{◌≡◌, ℕ, ◌+◌, ◌<◌, Bool, true, false, ◌||◌, if◌then◌else◌, List, [], ◌∷◌, map, length}
use Rattle.std.proofs.Common.{drop}
use Rattle.std.proofs.Common.{get_or, Option, Some, None, refl, sym, ap, ◌∙◌, subst, true≢false, not}
use Rattle.std.proofs.lemmas.List.{drop_more}
use Rattle.cat_guard.specs.declared.table.TableTarget.{TableTarget}
use Rattle.cat_guard.specs.Verdicts.{Verdict, Conflict, Open, listed, some_conflict, some_open, holders, are_two}
use Rattle.cat_guard.specs.Verdicts.{first_of}
use Rattle.cat_guard.specs.Verdicts.{verdict_by}
use Rattle.cat_guard.specs.declared.tally.MemberJudgement.{MemberJudgement}
use Rattle.cat_guard.specs.declared.tally.Tally.{Tally}
use Rattle.cat_guard.specs.inside.Found.{Finds}
use Rattle.cat_guard.specs.inside.Counting.{completed, counted_before, is_there, HasOpen, Counts, Passes}
use Rattle.cat_guard.specs.inside.Telling.{is_it}

-- the member of that number, and those behind it
pub item_at : {A : Type 0} (xs : List A) (i : ℕ) (x : A) → i < length xs → x ≡ get_or xs i x
    → drop i xs ≡ x ∷ drop (i + 1) xs
item_at xs i x within is = drop_more xs i x within ∙ ap (λ y. y ∷ drop (i + 1) xs) (sym is)

module _ (answers : ℕ → Option Bool) (t : TableTarget) {A : Type 0} (f : A → Verdict) (xs : List A) (i : ℕ) where
  -- of a list, the members before number i were counted
  abbrev pub IsCounted : ℕ → Tally → Type 0
  IsCounted j tally = (completed tally (map f (drop j xs)) ≡ listed (map f xs)) × HasOpen answers t tally.needs

  pub member_counted : (before after : Tally) (m : MemberJudgement) (x : A) → drop i xs ≡ x ∷ drop (i + 1) xs
      → Counts before m after → Finds answers t (f x) m → completed before (map f (drop i xs)) ≡ listed (map f xs)
      → HasOpen answers t before.needs → IsCounted (i + 1) after
  member_counted before after m x here counts found total needs =
      let more = counts answers t (f x) (map f (drop (i + 1) xs)) needs found in
      (more.0 ∙ ap (λ ys. completed before (map f ys)) (sym here) ∙ total, more.1)

  pub all_counted : (tally : Tally) (m : MemberJudgement) → drop i xs ≡ []
      → completed tally (map f (drop i xs)) ≡ listed (map f xs) → Finds answers t (completed tally []) m
      → Finds answers t (listed (map f xs)) m
  all_counted tally m gone total found =
      subst (λ w. Finds answers t w m) (ap (λ ys. completed tally (map f ys)) (sym gone) ∙ total) found

-- a number of a list
pub one_counted : (answers : ℕ → Option Bool) (t : TableTarget) (f : ℕ → Verdict) (xs : List ℕ) (i : ℕ)
    (before after : Tally) (m : MemberJudgement) → i < length xs → Counts before m after
    → Finds answers t (f (get_or xs i 0)) m → completed before (map f (drop i xs)) ≡ listed (map f xs)
    → HasOpen answers t before.needs → IsCounted answers t f xs i (i + 1) after
one_counted answers t f xs i before after m within =
    member_counted answers t f xs i before after m (get_or xs i 0) (drop_more xs i 0 within)

-- one that changes nothing
pub one_passed : (answers : ℕ → Option Bool) (t : TableTarget) (f : ℕ → Verdict) (xs : List ℕ) (i : ℕ) (tally : Tally)
    → i < length xs → Passes tally (f (get_or xs i 0)) → completed tally (map f (drop i xs)) ≡ listed (map f xs)
    → completed tally (map f (drop (i + 1) xs)) ≡ listed (map f xs)
one_passed answers t f xs i tally within passes total =
    passes (map f (drop (i + 1) xs)) ∙ ap (λ ys. completed tally (map f ys)) (sym (drop_more xs i 0 within)) ∙ total

still : (tally : Tally) (ds : List ℕ) (a b : Bool) → is_there tally.needs ≡ true
    → (if tally.conflict || a || are_two (counted_before tally.held ds) then Conflict
    else if is_there tally.needs || b then Open else first_of (counted_before tally.held ds))
    ≡ (if tally.conflict || a || are_two (counted_before tally.held ds) then Conflict
    else if is_there tally.needs || true then Open else first_of (counted_before tally.held ds))
still tally ds a b needs =
    ap (λ c. if tally.conflict || a || are_two (counted_before tally.held ds) then Conflict
    else if c then Open else first_of (counted_before tally.held ds))
    (ap (λ n. n || b) needs ∙ sym (ap (λ n. n || true) needs))

-- what isn't known to hold passes where an atom is needed already
pub unheld_passes : (tally : Tally) (d : ℕ) (o : Option Bool) → is_there tally.needs ≡ true → is_it true o ≡ false
    → Passes tally (verdict_by o d)
unheld_passes tally d None needs unheld vs = still tally (holders vs) (some_conflict vs) (some_open vs) needs
unheld_passes tally d (Some true) needs unheld vs = absurd (true≢false unheld)
unheld_passes tally d (Some false) needs unheld vs = refl

pub isnt : (b : Bool) → not b ≡ true → b ≡ false
isnt true is = absurd (true≢false (sym is))
isnt false is = refl
