-- The pieces of one file, as one more comes and others go.
use Rattle.std.proofs.Common.{◌≡◌, ◌<◌, ◌≤◌, ◌-◌, ◌∙◌, ℕ, zero, suc, nat_le, Bool, true, false, List, [], ◌∷◌, ◌++◌}
use Rattle.std.proofs.Common.{length, get_or, Option, Some, None, slice_get, refl, sym, ap, subst, arith}
use Rattle.std.specs.Prelude.{MatchOption, OnOk, Result, Ok, Err}
use Rattle.std.proofs.lemmas.Bool.{false≢true, leb-false, leb-true, ltb-true, ltb-false}
use Rattle.std.proofs.lemmas.Bool.Decides.{nat_tests}
use Rattle.std.proofs.lemmas.List.{length-append}
use Rattle.std.proofs.Math.Seq.{take-append_seam}
use Rattle.std.proofs.lemmas.List.Sorted.{IsNonDecreasingBy-take, IsNonDecreasingBy-push}
use Rattle.std.proofs.lemmas.Option.{slice_get-get_or}
use Rattle.cat_trace.specs.declared.starts.Start.{Start}
use Rattle.cat_trace.specs.inside.Starts.{Ascend, KeepsUpTo, begins_behind, ends_behind, headings_at, headings_or}
use Rattle.cat_trace.specs.inside.Starts.{with_start, Puts}

-- ---- a piece behind others

headings_or-push : (line k : ℕ) (xs : List Start) (s : Start)
    → headings_or line k (xs ++ s ∷ []) ≡ with_start line s (headings_or line k xs)
headings_or-push line k [] s = refl
headings_or-push line k (x ∷ xs) s = headings_or-push line (with_start line x k) xs s

with_start-above : (line : ℕ) (s : Start) (k : ℕ) → line < s.line → with_start line s k ≡ k
with_start-above line s k above =
    let fails : nat_le s.line line ≡ false = grind (arith, nat_tests) in rw fails refl

with_start-from : (line : ℕ) (s : Start) (k l : ℕ) → s.line ≤ line → with_start line s k ≡ with_start line s l
with_start-from line s k l from =
    let passes : nat_le s.line line ≡ true = grind (arith, nat_tests) in rw passes refl

last_pushed : (xs : List Start) (s : Start) → slice_get (xs ++ s ∷ []) (length xs) ≡ Some s
last_pushed [] s = refl
last_pushed (x ∷ xs) s = last_pushed xs s

ends_with : (line : ℕ) (xs : List Start) (s : Start) → ends_behind line (xs ++ s ∷ []) ≡ begins_behind line (Some s)
ends_with line xs s =
    let long = length-append xs (s ∷ []) in
    let less : length (xs ++ s ∷ []) - 1 ≡ length xs = omega (arith, long) in
    ap (λ n. begins_behind line (slice_get (xs ++ s ∷ []) n)) less ∙ ap (begins_behind line) (last_pushed xs s)

-- ---- those that begin behind a line go

pub kept_all : (line : ℕ) (old : List Start) → Ascend old → KeepsUpTo line old old
kept_all line old up = record { ascend = up; same = λ above low. refl }

ascends_before : (xs : List Start) (s : Start) → Ascend (xs ++ s ∷ []) → Ascend xs
ascends_before xs s up =
    subst Ascend (take-append_seam xs (s ∷ []))
    (IsNonDecreasingBy-take (λ (x : Start). x.line) (length xs) (xs ++ s ∷ []) up)

pub popped : (line : ℕ) (first old new : List Start) (r : Option Start)
    → MatchOption r ((old ≡ []) × (new ≡ [])) (λ last. old ≡ new ++ last ∷ []) → ends_behind line old ≡ true
    → KeepsUpTo line first old → KeepsUpTo line first new
popped line first old new None is behind kept =
    absurd (false≢true (subst (λ (xs : List Start). ends_behind line xs ≡ true) is.0 behind))
popped line first old new (Some last) is behind kept =
    let later : begins_behind line (Some last) ≡ true =
    sym (ends_with line new last) ∙ subst (λ (xs : List Start). ends_behind line xs ≡ true) is behind in
    let low : line < last.line = ltb-true line last.line later in
    record {
      ascend = ascends_before new last (subst Ascend is kept.ascend);
      same = λ above high.
          let over : above < last.line = omega (arith, low, high) in
          sym (ap (headings_at above) is ∙ (headings_or-push above 0 new last
          ∙ with_start-above above last (headings_at above new) over))
          ∙ kept.same above high;
    }

pub fewer : (line : ℕ) (old new : List Start) (r : Option Start)
    → MatchOption r ((old ≡ []) × (new ≡ [])) (λ last. old ≡ new ++ last ∷ []) → ends_behind line old ≡ true
    → length new < length old
fewer line old new None is behind =
    absurd (false≢true (subst (λ (xs : List Start). ends_behind line xs ≡ true) is.0 behind))
fewer line old new (Some last) is behind =
    let long : length old ≡ length (new ++ last ∷ []) = ap length is in
    let more = length-append new (last ∷ []) in
    omega (arith, long, more)

-- ---- and one comes

pub put_ascends : (s : Start) (kept : List Start) → Ascend kept → ends_behind s.line kept ≡ false
    → Ascend (kept ++ s ∷ [])
put_ascends s kept up none = IsNonDecreasingBy-push (λ (x : Start). x.line) kept s up (λ d some.
    let there : slice_get kept (length kept - 1) ≡ Some (get_or kept (length kept - 1) d) =
    slice_get-get_or kept (length kept - 1) d (omega (arith, some)) in
    ltb-false s.line (get_or kept (length kept - 1) d).line (sym (ap (begins_behind s.line) there) ∙ none))

pub put_counts : (s : Start) (old kept : List Start) → KeepsUpTo s.line old kept
    → Puts s old (kept ++ s ∷ [])
put_counts s old kept keeps line = by (nat_le s.line line) refl
  where
    by : (test : Bool) → nat_le s.line line ≡ test
        → headings_at line (kept ++ s ∷ []) ≡ with_start line s (headings_at line old)
    by true from = headings_or-push line 0 kept s
        ∙ with_start-from line s (headings_at line kept) (headings_at line old) (leb-true s.line line from)
    by false above =
        headings_or-push line 0 kept s ∙ ap (with_start line s) (keeps.same line (leb-false s.line line above))

-- and so where it was put
pub put_up : {A E : Type 0} (r : Result A E) (s : Start) (kept new : List Start) → OnOk r (new ≡ kept ++ s ∷ [])
    → Ascend kept → ends_behind s.line kept ≡ false → OnOk r (Ascend new)
put_up (Ok u) s kept new is up none = subst Ascend (sym is) (put_ascends s kept up none)
put_up (Err e) s kept new is up none = tt

pub put_behind : {A E : Type 0} (r : Result A E) (s : Start) (old kept new : List Start)
    → OnOk r (new ≡ kept ++ s ∷ []) → KeepsUpTo s.line old kept → OnOk r (Puts s old new)
put_behind (Ok u) s old kept new is keeps = subst (Puts s old) (sym is) (put_counts s old kept keeps)
put_behind (Err e) s old kept new is keeps = tt

pub ruleset dropping = (kept_all, popped, fewer)

pub ruleset putting = (put_up, put_behind)

-- ---- the last piece that begins in a line or above

-- what is read behind the first so many
abbrev read_up_to : ℕ → ℕ → List Start → Start → ℕ
read_up_to zero k xs d = k
read_up_to (suc i) k xs d = (get_or xs i d).headings

next_read : (i : ℕ) (x : Start) (k : ℕ) (xs : List Start) (d : Start)
    → read_up_to i x.headings xs d ≡ read_up_to (suc i) k (x ∷ xs) d
next_read zero x k xs d = refl
next_read (suc i) x k xs d = refl

up_to_point : (line : ℕ) (xs : List Start) (i k : ℕ) (d : Start) → i ≤ length xs
    → ((j : ℕ) → j < i → nat_le (get_or xs j d).line line ≡ true)
    → ((j : ℕ) → i ≤ j → j < length xs → nat_le (get_or xs j d).line line ≡ false)
    → headings_or line k xs ≡ read_up_to i k xs d
up_to_point line [] zero k d within low high = refl
up_to_point line [] (suc i) k d within low high = absurd (omega (arith, within))
up_to_point line (x ∷ xs) zero k d within low high =
    let out : nat_le x.line line ≡ false = high 0 (omega arith) (omega arith) in
    rw out (up_to_point line xs zero k d (omega arith) (λ j before. absurd (omega (arith, before)))
    (λ j from inside. high (suc j) (omega arith) (omega (arith, inside))))
up_to_point line (x ∷ xs) (suc i) k d within low high =
    let in_reach : nat_le x.line line ≡ true = low 0 (omega arith) in
    rw in_reach (up_to_point line xs i x.headings d (omega (arith, within))
    (λ j before. low (suc j) (omega (arith, before)))
    (λ j from inside. high (suc j) (omega (arith, from)) (omega (arith, inside))) ∙ next_read i x k xs d)

pub none_up_to : (line : ℕ) (xs : List Start) (i : ℕ) (d : Start) → i ≡ 0 → i ≤ length xs
    → ((j : ℕ) → j < i → nat_le (get_or xs j d).line line ≡ true)
    → ((j : ℕ) → i ≤ j → j < length xs → nat_le (get_or xs j d).line line ≡ false)
    → headings_at line xs ≡ 0
none_up_to line xs zero d is within low high = up_to_point line xs zero 0 d within low high
none_up_to line xs (suc i) d is within low high = absurd (omega (arith, is))

pub last_up_to : (line : ℕ) (xs : List Start) (i : ℕ) (d : Start) → 0 < i → i ≤ length xs
    → ((j : ℕ) → j < i → nat_le (get_or xs j d).line line ≡ true)
    → ((j : ℕ) → i ≤ j → j < length xs → nat_le (get_or xs j d).line line ≡ false)
    → headings_at line xs ≡ (get_or xs (i - 1) d).headings
last_up_to line xs zero d some within low high = absurd (omega (arith, some))
last_up_to line xs (suc i) d some within low high =
    let one : suc i - 1 ≡ i = omega arith in
    up_to_point line xs (suc i) 0 d within low high ∙ ap (λ n. (get_or xs n d).headings) (sym one)
