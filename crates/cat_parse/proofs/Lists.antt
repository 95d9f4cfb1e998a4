-- One part and another, and as many as there are.
use Rattle.std.proofs.Common.{◌≡◌, ℕ, zero, suc, ◌≤◌, Bool, true, false, List, [], ◌∷◌, ◌++◌, length, refl, sym, ap}
use Rattle.std.proofs.Common.{subst, ◌∙◌, arith, inl, inr, ◌⊎◌}
use Rattle.cat_parse.proofs.Common.{Token, TokenKind, Parts, AreSpelled, ◌▸◌, all, Reader, Reads, ◌⨟◌, pure, heads}
use Rattle.cat_parse.proofs.Common.{both, at_most, many, Agree, no_front, agree_same, spelled_split, next_seen, Outside}
use Rattle.cat_parse.proofs.Common.{none_past, IsRightTo, tallest}
use Rattle.cat_parse.proofs.Sequel.{part_within}
use Rattle.cat_parse.proofs.Choices.{reshaped, made_right, Decides, choice_right, none_right, Opens, outside_off}
use Rattle.cat_parse.proofs.Repeats.{shrinks as less}

-- ---- one, then the other

abbrev pub BothFit : {A B : Type 0} → (A → Type 0) → (B → Type 0) → A × B → Type 0
BothFit fits fits2 p = fits p.0 × fits2 p.1

abbrev pub both_rows : {A B : Type 0} → (A → Parts) → (B → Parts) → A × B → Parts
both_rows row row2 p = row p.0 ▸ row2 p.1

pub both_right : {A B : Type 0}
    → (limit bound inner : ℕ) (out next : TokenKind → Bool) (fits : A → Type 0) (fits2 : B → Type 0) (row : A → Parts)
    (row2 : B → Parts) (r : Reader A) (s : Reader B)
    → ((y : B) (w v : List Token) → fits2 y → AreSpelled (row2 y) w → Outside out v → Outside next (w ++ v))
    → ((ts : List Token) (x : A) (left : List Token) → length ts ≤ bound → r ts ≡ Reads x left → length left ≤ inner)
    → IsRightTo limit bound next fits row r → IsRightTo limit inner out fits2 row2 s
    → IsRightTo limit bound out (BothFit fits fits2) (both_rows row row2) (both r s)
both_right {A = A} {B = B} limit bound inner out next fits fits2 row row2 r s behind shrinks first second =
    part_within limit bound inner out next (BothFit fits fits2) fits (λ p. p.0) row (λ p. row2 p.1) r
    (λ x. s ⨟ λ y. pure (x, y)) shrinks first (λ p f. f.0) (λ p w v f. behind p.1 w v f.1)
    (λ x fit. reshaped (λ p. (y : B) × fits2 y × (p ≡ (x, y))) (λ p. row2 p.1) (record {
      to =
          λ p f. let e0 : p.0 ≡ x = ap (λ (q : A × B). q.0) f.2 in
          ((subst fits (sym e0) fit, subst fits2 (sym (ap (λ (q : A × B). q.1) f.2)) f.1), e0);
      from = λ p f. (p.1, f.0.1, ap (λ (z : A). (z, p.1)) f.1);
      rows = λ p f. refl;
    }) (made_right fits2 row2 (λ y. refl) second))

-- ---- as many as there are

abbrev pub AllFit : {A : Type 0} → (A → Type 0) → List A → Type 0
AllFit fits [] = Unit {0}
AllFit fits (x ∷ more) = fits x × AllFit fits more

module _ {A : Type 0} (limit : ℕ) (out next start : TokenKind → Bool) (fits : A → Type 0) (row : A → Parts)
    (r : Reader A)
    (opens : Opens start fits row) (off : (k : TokenKind) → out k ≡ true → start k ≡ false)
    (on : (k : TokenKind) → start k ≡ true → next k ≡ true) (wide : (k : TokenKind) → out k ≡ true → next k ≡ true)
    (right : (bound : ℕ) → IsRightTo limit bound next fits row r) where
  no_head : (w : List Token) → heads start w ≡ true → w ≡ [] → ⊥
  no_head [] h e = absurd cc
  no_head (p ∷ w) h e = absurd (omega (arith, ap length e))

  more_head : (x : A) (more : List A) (w v : List Token) → fits x → AreSpelled (all row (x ∷ more)) w
      → heads start (w ++ v) ≡ true
  more_head x more w v f s =
      let p = spelled_split (row x) (all row more) w s in
      ap (λ (u : List Token). heads start (u ++ v)) p.text ∙ heads_assoc p.first p.second v
      ∙ opens.at x p.first (p.second ++ v) f p.one
    where
      heads_assoc : (a b c : List Token) → heads start ((a ++ b) ++ c) ≡ heads start (a ++ (b ++ c))
      heads_assoc [] b c = refl
      heads_assoc (q ∷ a) b c = refl

  zero_right : IsRightTo limit 0 out (AllFit fits) (all row) (pure [])
  zero_right = record {
    right = record {
      alive = record { value = []; more = []; is = record { fit = tt; levels = tt; spelled = refl } };
      taken =
          λ ts le. record {
            front = [];
            text = refl;
            took =
                (record { fit = tt; levels = tt; spelled = refl }, none_low);
          };
      says =
          λ ts front y w le text a. by front w a.behind ts le text y a.is.fit a.is.spelled a.others
          (next_seen {B = List A} none_past (Reads [] ts) a.others a.seen) a.text;
    };
  }
    where
      none_low : tallest (all row []) ≤ limit
      none_low = omega arith

      by : (front w behind ts : List Token) → length ts ≤ 0 → ts ≡ front ++ ts → (y : List A) → AllFit fits y
          → AreSpelled (all row y) w → (others : List Token) → Agree ts others → w ++ behind ≡ front ++ others
          → (y ≡ []) × (w ≡ front)
      by front w behind ts le text [] f s others g t = (refl, s ∙ sym (no_front front ts text))
      by front w behind ts le text (x ∷ more) f s others g t =
          let none : others ≡ [] = agree_same ts others g (omega (arith, le)) in
          absurd (no_head (w ++ behind) (more_head x more w behind f.0 s)
          (t ∙ ap (λ (u : List Token). u ++ others) (no_front front ts text) ∙ none))

  shrinks : (n : ℕ) (ts : List Token) (x : A) (left : List Token) → length ts ≤ suc n → r ts ≡ Reads x left
      → length left ≤ n
  shrinks n ts x left le e = omega (arith, le, less limit next start fits row r opens right ts x left e)

  decides : Decides out start (AllFit fits) (λ ys. (p : A × List A) × BothFit fits (AllFit fits) p × (ys ≡ p.0 ∷ p.1))
      (λ ys. ys ≡ []) (all row)
  decides = record {
    either = either;
    from_yes = λ y f. subst (AllFit fits) (sym f.2) (f.1.0, f.1.1);
    from_no = λ y f. subst (AllFit fits) (sym f) tt;
    on = λ y w v f s o. more_head f.0.0 f.0.1 w v f.1.0 (subst (λ (ys : List A). AreSpelled (all row ys) w) f.2 s);
    off =
        λ y w v f s o. ap (λ (u : List Token). heads start (u ++ v))
        (subst (λ (ys : List A). AreSpelled (all row ys) w) f s) ∙ outside_off out start v off o;
  }
    where
      either : (y : List A) → AllFit fits y → ((p : A × List A) × BothFit fits (AllFit fits) p × (y ≡ p.0 ∷ p.1))
          ⊎ (y ≡ [])
      either [] f = inr refl
      either (x ∷ more) f = inl ((x, more), (f.0, f.1), refl)

  pub all_behind : (ys : List A) (w v : List Token) → AllFit fits ys → AreSpelled (all row ys) w → Outside out v
      → Outside next (w ++ v)
  all_behind [] w v f s o = subst (λ (u : List Token). Outside next (u ++ v)) (sym s) (widen v o)
    where
      widen : (v : List Token) → Outside out v → Outside next v
      widen [] o = tt
      widen (p ∷ v) o = wide p.kind o
  all_behind (x ∷ more) w v f s o = by (w ++ v) (more_head x more w v f.0 s)
    where
      by : (u : List Token) → heads start u ≡ true → Outside next u
      by [] h = tt
      by (p ∷ u) h = on p.kind h

  pub at_most_right : (n : ℕ) → IsRightTo limit n out (AllFit fits) (all row) (at_most n start r)
  at_most_right zero = zero_right
  at_most_right (suc n) =
      choice_right (λ ys. (p : A × List A) × BothFit fits (AllFit fits) p × (ys ≡ p.0 ∷ p.1)) (λ ys. ys ≡ []) decides
      (made_right (BothFit fits (AllFit fits)) (both_rows row (all row)) (λ p. refl)
      (both_right limit (suc n) n out next fits (AllFit fits) row (all row) r (at_most n start r) all_behind (shrinks n)
      (right (suc n)) (at_most_right n))) (none_right refl)

  pub many_right : (bound : ℕ) → IsRightTo limit bound out (AllFit fits) (all row) (many start r)
  many_right bound = record {
    right = record {
      alive = zero_right.right.alive;
      taken = λ ts le. (at_most_right (length ts)).right.taken ts (omega arith);
      says = λ ts front y w le text a. (at_most_right (length ts)).right.says ts front y w (omega arith) text a;
    };
  }
