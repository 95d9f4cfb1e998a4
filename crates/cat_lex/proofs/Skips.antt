-- Runs in front of a text.
use Rattle.std.proofs.Common.{◌≡◌, ◌≢◌, ℕ, ◌<◌, ◌≤◌, ◌⊎◌, Bool, true, false, ◌&&◌, cond, List, [], ◌∷◌, ◌++◌, length}
use Rattle.std.proofs.Common.{refl, ap, ◌∙◌, inl, inr, arith}
use Rattle.std.specs.List.{list_all}
use Rattle.cat_lex.specs.inside.Reading.{skip, begins}

pub and_left : (a b : Bool) → (a && b) ≡ true → a ≡ true
and_left true b h = refl
and_left false b h = h

pub and_right : (a b : Bool) → (a && b) ≡ true → b ≡ true
and_right true b h = h
and_right false b h = cc

pub and_true : (a b : Bool) → a ≡ true → b ≡ true → (a && b) ≡ true
and_true a b g h = rw (g, h) refl

pub not_true : (b : Bool) → b ≡ true → b ≡ false → ⊥
not_true b g h = cc

pub all_append : (p : ℕ → Bool) (xs ys : List ℕ) → list_all p xs ≡ true → list_all p ys ≡ true
    → list_all p (xs ++ ys) ≡ true
all_append p [] ys g h = h
all_append p (x ∷ xs) ys g h =
    and_true (p x) (list_all p (xs ++ ys)) (and_left _ _ g) (all_append p xs ys (and_right _ _ g) h)

pub skip_pass : (p : ℕ → Bool) (c : ℕ) (cs : List ℕ) → p c ≡ true → skip p (c ∷ cs) ≡ skip p cs
skip_pass p c cs h = rw h refl

pub skip-append : (p : ℕ → Bool) (front rest : List ℕ) → list_all p front ≡ true → skip p (front ++ rest) ≡ skip p rest
skip-append p [] rest h = refl
skip-append p (c ∷ cs) rest h = skip_pass p c (cs ++ rest) (and_left _ _ h) ∙ skip-append p cs rest (and_right _ _ h)

pub skip_stays : (p : ℕ → Bool) (text : List ℕ) → begins p text ≡ false → skip p text ≡ text
skip_stays p [] h = refl
skip_stays p (c ∷ cs) h = rw h refl

stops_at : (p : ℕ → Bool) (c : ℕ) (cs : List ℕ) (b : Bool) → p c ≡ b → begins p (skip p cs) ≡ false
    → begins p (cond b (skip p cs) (c ∷ cs)) ≡ false
stops_at p c cs true h s = s
stops_at p c cs false h s = h

pub skip_stops : (p : ℕ → Bool) (text : List ℕ) → begins p (skip p text) ≡ false
skip_stops p [] = refl
skip_stops p (c ∷ cs) = stops_at p c cs (p c) refl (skip_stops p cs)

-- the run and what follows it
pub record IsRun (p : ℕ → Bool) (text rest : List ℕ) : Type 0 where
  pub run : List ℕ
  pub split : text ≡ run ++ rest
  pub passes : list_all p run ≡ true

run_at : (p : ℕ → Bool) (c : ℕ) (cs : List ℕ) (b : Bool) → p c ≡ b → IsRun p cs (skip p cs)
    → IsRun p (c ∷ cs) (cond b (skip p cs) (c ∷ cs))
run_at p c cs true h s =
    record { run = c ∷ s.run; split = ap (λ (w : List ℕ). c ∷ w) s.split; passes = and_true (p c) _ h s.passes }
run_at p c cs false h s = record { run = []; split = refl; passes = refl }

pub skip_run : (p : ℕ → Bool) (text : List ℕ) → IsRun p text (skip p text)
skip_run p [] = record { run = []; split = refl; passes = refl }
skip_run p (c ∷ cs) = run_at p c cs (p c) refl (skip_run p cs)

le_at : (p : ℕ → Bool) (c : ℕ) (cs : List ℕ) (b : Bool) → length (skip p cs) ≤ length cs
    → length (cond b (skip p cs) (c ∷ cs)) ≤ length (c ∷ cs)
le_at p c cs true h = omega arith
le_at p c cs false h = omega arith

pub skip_le : (p : ℕ → Bool) (text : List ℕ) → length (skip p text) ≤ length text
skip_le p [] = omega arith
skip_le p (c ∷ cs) = le_at p c cs (p c) (skip_le p cs)

same_at : (p : ℕ → Bool) (c : ℕ) (cs : List ℕ) (b : Bool) → length (skip p cs) ≤ length cs
    → (cond b (skip p cs) (c ∷ cs) ≡ c ∷ cs) ⊎ (length (cond b (skip p cs) (c ∷ cs)) < length (c ∷ cs))
same_at p c cs true h = inr (omega arith)
same_at p c cs false h = inl refl

pub skip_same_or_shorter : (p : ℕ → Bool) (text : List ℕ) → (skip p text ≡ text) ⊎ (length (skip p text) < length text)
skip_same_or_shorter p [] = inl refl
skip_same_or_shorter p (c ∷ cs) = same_at p c cs (p c) (skip_le p cs)

-- a run that is not empty is one that the text begins with
pub run_some : (p : ℕ → Bool) (text rest : List ℕ) (run : List ℕ) → text ≡ run ++ rest → begins p text ≡ true
    → begins p rest ≡ false → run ≢ []
run_some p text rest run split first stop none =
    let same : text ≡ rest = split ∙ ap (λ (w : List ℕ). w ++ rest) none in
    not_true (begins p text) first (ap (begins p) same ∙ stop)
