-- A choice by the next word.
use Rattle.std.proofs.Common.{◌≡◌, ℕ, ◌≤◌, Bool, true, false, if◌then◌else◌, List, [], ◌++◌, length, Some, None, refl}
use Rattle.std.proofs.Common.{sym, ap, ◌∙◌, arith, inl, inr, ◌⊎◌}
use Rattle.std.proofs.lemmas.List.{length-append}
use Rattle.cat_parse_expr.proofs.Common.{Token, TokenKind, Parts, AreSpelled, Parsed, Reader, Fails, Reads, after, pure}
use Rattle.cat_parse_expr.proofs.Common.{heads, by_word, fallen, behind_whole, Is, Taken, ReadsAsFar, Stood, KeepsWhole}
use Rattle.cat_parse_expr.proofs.Choices.{Decides, choice_right, refit}
use Rattle.cat_parse_expr.proofs.Wholes.{behind_right}
use Rattle.cat_parse_expr.proofs.Read.{IsRead}
use Rattle.cat_parse_expr.proofs.Truth.{clash}

-- the same reader, written otherwise
pub same_read : {T D : Type 0} {g : T → D} {K F C : Type 0} {low : T → Type 0} {out : T → List Token → Type 0}
    {looks : TokenKind → Bool} {fits : T → Type 0} {row : T → Parts} (r s : Reader D)
    → ((ts : List Token) → s ts ≡ r ts) → IsRead g K F C low out looks fits row r
    → IsRead g K F C low out looks fits row s
same_read r s same h = record {
  reader = h.reader;
  maps = λ ts. same ts ∙ h.maps ts;
  alive = h.alive;
  right = h.right;
  keeps = h.keeps;
}

-- ---- behind something whole

-- what reading falls back on reaches as far as the tokens where it stands
pub fallen_far : {T : Type 0} (low fits : T → Type 0) (row : T → Parts) (o : Parsed T) (ts : List Token) (y : T)
    (v : List Token) → Taken low fits row o ts → Stood low fits row o ts → length ts ≤ length v
    → ReadsAsFar low (fallen ts o) y v
fallen_far low fits row (Fails left false None) ts y v t s le = le
fallen_far low fits row (Fails left true None) ts y v t s le = λ fine. le
fallen_far low fits row (Fails left false (Some front)) ts y v t s le =
    omega (arith, le, ap length s.2, length-append s.1 front)
fallen_far low fits row (Fails left true (Some front)) ts y v t s le =
    λ fine. omega (arith, le, ap length s.2, length-append s.1 front)
fallen_far low fits row (Reads x left) ts y v t s le = omega (arith, le, ap length t.text, length-append t.front left)

-- reading as far, one still does where one falls back
pub longest_fallen : {T : Type 0} (low : T → Type 0) (o : Parsed T) (ts : List Token) (y : T) (v : List Token)
    → ReadsAsFar low o y v → ReadsAsFar low (fallen ts o) y v
longest_fallen low (Fails left false None) ts y v h = absurd h
longest_fallen low (Fails left true None) ts y v h = λ fine. absurd (h fine)
longest_fallen low (Fails left false (Some front)) ts y v h = h
longest_fallen low (Fails left true (Some front)) ts y v h = h
longest_fallen low (Reads x left) ts y v h = h

-- what it falls back on is whole
pub stood_fallen : {T : Type 0} (low fits : T → Type 0) (row : T → Parts) (o : Parsed T) (ts : List Token) (x : T)
    → Is fits row x [] → low x → Stood low fits row o ts → Stood low fits row (fallen ts o) ts
stood_fallen low fits row (Fails left deep None) ts x i fine s = (x, [], refl, i, fine)
stood_fallen low fits row (Fails left deep (Some front)) ts x i fine s = s
stood_fallen low fits row (Reads y left) ts x i fine s = tt

pub fallen_mapped : {T D : Type 0} (g : T → D) (ts : List Token) (o : Parsed T) (d : Parsed D) → d ≡ after o
    (λ x. pure (g x))
    → fallen ts d ≡ after (fallen ts o) (λ x. pure (g x))
fallen_mapped {D = D} g ts (Fails left deep whole) d e = ap (λ (z : Parsed D). fallen ts z) e
fallen_mapped {D = D} g ts (Reads x left) d e = ap (λ (z : Parsed D). fallen ts z) e

pub chosen_mapped : {T D : Type 0} (g : T → D) (c : Bool) (o1 o2 : Parsed T) (d1 d2 : Parsed D)
    → d1 ≡ after o1 (λ x. pure (g x)) → d2 ≡ after o2 (λ x. pure (g x))
    → (if c then d1 else d2) ≡ after (if c then o1 else o2) (λ x. pure (g x))
chosen_mapped g true o1 o2 d1 d2 e1 e2 = e1
chosen_mapped g false o1 o2 d1 d2 e1 e2 = e2

-- ---- the choice

stood_as : {T : Type 0} (low fits fits2 : T → Type 0) (row : T → Parts) (o : Parsed T) (ts : List Token)
    → ((y : T) → fits y → fits2 y) → Stood low fits row o ts → Stood low fits2 row o ts
stood_as low fits fits2 row (Fails left deep None) ts f s = tt
stood_as low fits fits2 row (Fails left deep (Some front)) ts f s =
    (s.0, s.1, s.2, refit fits fits2 row s.0 s.1 (f s.0 s.3.fit) s.3, s.4)
stood_as low fits fits2 row (Reads y left) ts f s = tt

module _ {T : Type 0} (low : T → Type 0) (out : T → List Token → Type 0) (test : TokenKind → Bool)
    (fits yes_fits no_fits : T → Type 0) (row : T → Parts) (a b : Reader T) (bound : ℕ)
    (d : Decides out test fits yes_fits no_fits row)
    (begins : (y : T) (w v : List Token) → yes_fits y → AreSpelled (row y) w → heads test (w ++ v) ≡ true)
    (spent : (y : T) (w v : List Token) → no_fits y → AreSpelled (row y) w → heads test (w ++ v) ≡ true → w ≡ [])
    (taken : (ts : List Token) → length ts ≤ bound → Taken low yes_fits row (a ts) ts)
    (ka : KeepsWhole low bound yes_fits row a) (kb : KeepsWhole low bound no_fits row b)
    (x : T) (blank : Is no_fits row x []) (fine : low x) where
  longest_by : (ts : List Token) (y : T) (w v : List Token) → length ts ≤ bound → ts ≡ w ++ v → Is fits row y w
      → (c : Bool) → heads test ts ≡ c → ReadsAsFar low (if c then fallen ts (a ts) else b ts) y v
  longest_by ts y w v le text i true e = elim (d.either y i.fit) [
    | inl f ↦ longest_fallen low (a ts) ts y v (ka.longest ts y w v le text (refit fits yes_fits row y w f i))
    | inr f ↦ fallen_far low yes_fits row (a ts) ts y v (taken ts le) (ka.stood ts le)
        (omega (
          arith,
          ap length text,
          ap length (spent y w v f i.spelled (ap (heads test) (sym text) ∙ e)),
          length-append w v,
        ))
  ]
  longest_by ts y w v le text i false e = elim (d.either y i.fit) [
    | inl f ↦ absurd (clash (heads test ts) (ap (heads test) text ∙ begins y w v f i.spelled) e)
    | inr f ↦ kb.longest ts y w v le text (refit fits no_fits row y w f i)
  ]

  stood_by : (ts : List Token) → length ts ≤ bound → (c : Bool) → Stood low fits row
      (if c then fallen ts (a ts) else b ts) ts
  stood_by ts le true =
      stood_fallen low fits row (a ts) ts x (refit no_fits fits row x [] (d.from_no x blank.fit) blank) fine
      (stood_as low yes_fits fits row (a ts) ts d.from_yes (ka.stood ts le))
  stood_by ts le false = stood_as low no_fits fits row (b ts) ts d.from_no (kb.stood ts le)

  pub choice_keeps : KeepsWhole low bound fits row (by_word test (behind_whole a) b)
  choice_keeps = record {
    longest = λ ts y w v le text i. longest_by ts y w v le text i (heads test ts) refl;
    stood = λ ts le. stood_by ts le (heads test ts);
  }

-- a choice where something is whole already, if the word isn't there
module _ {T D : Type 0} {g : T → D} {K F C : Type 0} {low : T → Type 0} {out : T → List Token → Type 0}
    {looks : TokenKind → Bool} {fits : T → Type 0} {row : T → Parts} {a b : Reader D} where
  pub choice_read : (test : TokenKind → Bool)
      (yes_fits no_fits : T → Type 0)
      → Decides out test fits yes_fits no_fits row
      → ((y : T) (w v : List Token) → yes_fits y → AreSpelled (row y) w → heads test (w ++ v) ≡ true)
      → ((y : T) (w v : List Token) → no_fits y → AreSpelled (row y) w → heads test (w ++ v) ≡ true → w ≡ [])
      → (x : T) → (F → Is no_fits row x []) → (F → C → low x)
      → IsRead g K F C low out looks yes_fits row a → IsRead g K F C low out looks no_fits row b
      → IsRead g K F C low out looks fits row (by_word test (behind_whole a) b)
  choice_read test yes_fits no_fits d begins spent x blank fine ra rb =
      record {
        reader = by_word test (behind_whole ra.reader) rb.reader;
        maps =
            λ ts. chosen_mapped g (heads test ts) (fallen ts (ra.reader ts)) (rb.reader ts) (fallen ts (a ts)) (b ts)
            (fallen_mapped g ts (ra.reader ts) (a ts) (ra.maps ts)) (rb.maps ts);
        alive =
            λ f. let z = rb.alive f in
            record {
              value = z.value;
              more = z.more;
              is = refit no_fits fits row z.value z.more
                  (d.from_no z.value z.is.fit) z.is;
            };
        right =
            λ f c bound. choice_right low bound out looks test fits yes_fits no_fits row
            (behind_whole ra.reader) rb.reader d
            (behind_right low out looks yes_fits row bound ra.reader (ra.right f c bound)) (rb.right f c bound);
        keeps =
            λ k f c bound. choice_keeps low out test fits yes_fits no_fits row ra.reader rb.reader bound d begins spent
            (λ ts le. (ra.right f c bound).taken ts le) (ra.keeps k f c bound) (rb.keeps k f c bound) x (blank f)
            (fine f c);
      }

-- a choice in a part that words follow
module _ {T D : Type 0} {g : T → D} {F C : Type 0} {low : T → Type 0} {out : T → List Token → Type 0}
    {looks : TokenKind → Bool} {fits : T → Type 0} {row : T → Parts} {a b : Reader D} where
  pub inner_choice_read : (test : TokenKind → Bool)
      (yes_fits no_fits : T → Type 0)
      → Decides out test fits yes_fits no_fits row
      → IsRead g ⊥ F C low out looks yes_fits row a → IsRead g ⊥ F C low out looks no_fits row b
      → IsRead g ⊥ F C low out looks fits row (by_word test a b)
  inner_choice_read test yes_fits no_fits d ra rb =
      record {
        reader = by_word test ra.reader rb.reader;
        maps = λ ts. chosen_mapped g (heads test ts) (ra.reader ts) (rb.reader ts) (a ts) (b ts) (ra.maps ts)
            (rb.maps ts);
        alive =
            λ f. let z = rb.alive f in
            record {
              value = z.value;
              more = z.more;
              is = refit no_fits fits row z.value z.more
                  (d.from_no z.value z.is.fit) z.is;
            };
        right =
            λ f c bound. choice_right low bound out looks test fits yes_fits no_fits row ra.reader rb.reader d
            (ra.right f c bound) (rb.right f c bound);
        keeps = λ k f c bound. absurd k;
      }

-- a choice by the next word of either
module _ {T D : Type 0} {g : T → D} {K F C : Type 0} {low : T → Type 0} {out : T → List Token → Type 0}
    {looks : TokenKind → Bool} {fits : T → Type 0} {row : T → Parts} {a b : Reader D} where
  pub sharp_choice_read : (test : TokenKind → Bool)
      (yes_fits no_fits : T → Type 0)
      → ((y : T) → fits y → yes_fits y ⊎ no_fits y) → ((y : T) → yes_fits y → fits y) → ((y : T) → no_fits y → fits y)
      → ((y : T) (w v : List Token) → yes_fits y → AreSpelled (row y) w → heads test (w ++ v) ≡ true)
      → ((y : T) (w v : List Token) → no_fits y → AreSpelled (row y) w → heads test (w ++ v) ≡ false)
      → IsRead g K F C low out looks yes_fits row a → IsRead g K F C low out looks no_fits row b
      → IsRead g K F C low out looks fits row (by_word test a b)
  sharp_choice_read test yes_fits no_fits either from_yes from_no on off ra rb =
      record {
        reader = by_word test ra.reader rb.reader;
        maps = λ ts. chosen_mapped g (heads test ts) (ra.reader ts) (rb.reader ts) (a ts) (b ts) (ra.maps ts)
            (rb.maps ts);
        alive =
            λ f. let z = rb.alive f in
            record {
              value = z.value;
              more = z.more;
              is = refit no_fits fits row z.value z.more
                  (from_no z.value z.is.fit) z.is;
            };
        right =
            λ f c bound. choice_right low bound out looks test fits yes_fits no_fits row ra.reader rb.reader
            (record {
              either = either;
              from_yes = from_yes;
              from_no = from_no;
              on = λ y w v f s o. on y w v f s;
              off = λ y w v f s o. off y w v f s;
            })
            (ra.right f c bound) (rb.right f c bound);
        keeps =
            λ k f c bound. record {
              longest = λ ts y w v le text i. longest (ra.keeps k f c bound) (rb.keeps k f c bound) ts y w v le text i
                  (heads test ts) refl;
              stood = λ ts le. stood (ra.keeps k f c bound) (rb.keeps k f c bound) ts le (heads test ts);
            };
      }
    where
      longest : {bound : ℕ} → KeepsWhole low bound yes_fits row ra.reader → KeepsWhole low bound no_fits row rb.reader
          → (ts : List Token) (y : T) (w v : List Token) → length ts ≤ bound → ts ≡ w ++ v → Is fits row y w
          → (c : Bool)
          → heads test ts ≡ c → ReadsAsFar low (if c then ra.reader ts else rb.reader ts) y v
      longest ka kb ts y w v le text i true e = elim (either y i.fit) [
        | inl f ↦ ka.longest ts y w v le text (refit fits yes_fits row y w f i)
        | inr f ↦ absurd (clash (heads test ts) e (ap (heads test) text ∙ off y w v f i.spelled))
      ]
      longest ka kb ts y w v le text i false e = elim (either y i.fit) [
        | inl f ↦ absurd (clash (heads test ts) (ap (heads test) text ∙ on y w v f i.spelled) e)
        | inr f ↦ kb.longest ts y w v le text (refit fits no_fits row y w f i)
      ]

      stood : {bound : ℕ} → KeepsWhole low bound yes_fits row ra.reader → KeepsWhole low bound no_fits row rb.reader
          → (ts : List Token) → length ts ≤ bound → (c : Bool)
          → Stood low fits row (if c then ra.reader ts else rb.reader ts) ts
      stood ka kb ts le true = stood_as low yes_fits fits row (ra.reader ts) ts from_yes (ka.stood ts le)
      stood ka kb ts le false = stood_as low no_fits fits row (rb.reader ts) ts from_no (kb.stood ts le)
