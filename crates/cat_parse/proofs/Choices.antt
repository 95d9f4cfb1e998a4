-- What is made of what was read, a choice by the next word, and what may be there.
use Rattle.std.proofs.Common.{◌≡◌, ℕ, ◌≤◌, Bool, true, false, List, [], ◌∷◌, ◌++◌, Option, Some, None, refl, sym, ap}
use Rattle.std.proofs.Common.{subst, ◌∙◌, inl, inr, ◌⊎◌}
use Rattle.cat_parse_expr.proofs.Exported as over
use Rattle.cat_parse.proofs.Common.{Token, TokenKind, Parts, End, Word, Anywhere, tallest, AreLevelled, AreSpelled}
use Rattle.cat_parse.proofs.Common.{Reader, ◌⨟◌, pure, heads, by_word, Is, optional, Outside, Before, IsLow, none_past}
use Rattle.cat_parse.proofs.Common.{IsRightTo}
use Rattle.cat_parse.proofs.Steps.{pure_right}

-- ---- what is made of what was read

-- values whose rows are those of others
pub recast_rows : {A B : Type 0} (limit : ℕ) (out : TokenKind → Bool) (fits : A → Type 0) (fits2 : B → Type 0)
    (row : A → Parts) (row2 : B → Parts) (f : A → B) → ((x : A) → fits x → fits2 (f x))
    → ((y : B) → fits2 y → (x : A) × fits x × (y ≡ f x)) → ((x : A) → fits x → row2 (f x) ≡ row x)
    → over.Recast (IsLow limit row) (IsLow limit row2) (Before out) (Before out) fits fits2 row row2 f
recast_rows {A = A} {B = B} limit out fits fits2 row row2 f to from rows = record {
  to =
      λ x w i. record {
        fit = to x i.fit;
        levels = subst AreLevelled (sym (rows x i.fit)) i.levels;
        spelled = subst (λ (ps : Parts). AreSpelled ps w) (sym (rows x i.fit)) i.spelled;
      };
  from = λ y w i. back y w i (from y i.fit);
  lows = λ x fit l. subst (λ (ps : Parts). tallest ps ≤ limit) (sym (rows x fit)) l;
  back = λ x fit l. subst (λ (ps : Parts). tallest ps ≤ limit) (rows x fit) l;
  outside = λ x v fit o. o;
}
  where
    back : (y : B) (w : List Token) → Is fits2 row2 y w → (x : A) × fits x × (y ≡ f x)
        → (x : A) × (y ≡ f x) × Is fits row x w
    back y w i m =
        let e = ap row2 m.2 ∙ rows m.0 m.1 in (
          m.0,
          m.2,
          record {
            fit = m.1;
            levels = subst AreLevelled e i.levels;
            spelled = subst (λ (ps : Parts). AreSpelled ps w) e i.spelled;
          },
        )

pub made_right : {A B : Type 0} {limit bound : ℕ} {out : TokenKind → Bool} (fits : A → Type 0) (row : A → Parts)
    {row2 : B → Parts} {f : A → B} {r : Reader A} → ((x : A) → row2 (f x) ≡ row x)
    → IsRightTo limit bound out fits row r
    → IsRightTo limit bound out (λ y. (x : A) × fits x × (y ≡ f x)) row2 (r ⨟ λ x. pure (f x))
made_right {A = A} {limit = limit} {bound = bound} {out = out} fits row {row2 = row2} {f = f} {r = r} rows h =
    record {
      right =
          over.recast bound (IsLow limit row) (IsLow limit row2) (Before out) (Before out) none_past fits
          (λ y. (x : A) × fits x × (y ≡ f x)) row row2 f r
          (recast_rows limit out fits (λ y. (x : A) × fits x × (y ≡ f x)) row row2 f (λ x fit. (x, fit, refl))
          (λ y m. m) (λ x fit. rows x)) h.right;
    }

-- the same values and rows, written otherwise
pub reshaped : {B : Type 0} {limit bound : ℕ} {out : TokenKind → Bool} (fits : B → Type 0) {fits2 : B → Type 0}
    (row : B → Parts) {row2 : B → Parts} {r : Reader B} → over.Same fits fits2 row row2
    → IsRightTo limit bound out fits row r → IsRightTo limit bound out fits2 row2 r
reshaped {limit = limit} {bound = bound} {out = out} fits {fits2 = fits2} row {row2 = row2} {r = r} s h =
    record {
      right =
          over.recast_self bound (IsLow limit row) (IsLow limit row2) (Before out)
          (Before out) none_past fits fits2 row row2 r
          (recast_rows limit out fits fits2 row row2 (λ y. y) s.to (λ y fit. (y, s.from y fit, refl))
          (λ y fit. sym (s.rows y fit))) h.right;
    }

-- where less may follow, it is right still
pub narrowed : {B : Type 0} {limit bound : ℕ} (out : TokenKind → Bool) {less : TokenKind → Bool} {fits : B → Type 0}
    {row : B → Parts} {r : Reader B} → ((v : List Token) → Outside less v → Outside out v)
    → IsRightTo limit bound out fits row r → IsRightTo limit bound less fits row r
narrowed {limit = limit} {bound = bound} out {less = less} {fits = fits} {row = row} {r = r} wide h =
    record {
      right =
          over.recast_self bound (IsLow limit row) (IsLow limit row) (Before out) (Before less) none_past fits fits
          row row r
          (record {
            to = λ y w i. i;
            from = λ y w i. (y, refl, i);
            lows = λ y fit l. l;
            back = λ y fit l. l;
            outside = λ y v fit o. wide v o;
          }) h.right;
    }

-- ---- by the next word

abbrev pub Decides : {B : Type 0} → (out test : TokenKind → Bool) → (fits yes_fits no_fits : B → Type 0) → (B → Parts)
    → Type 0
Decides out test fits yes_fits no_fits row = over.Decides (Before out) test fits yes_fits no_fits row

module _ {B : Type 0} {limit bound : ℕ} {out test : TokenKind → Bool} {fits : B → Type 0} where
  pub choice_right : (yes_fits no_fits : B → Type 0) {row : B → Parts} {a b : Reader B}
      → Decides out test fits yes_fits no_fits row
      → IsRightTo limit bound out yes_fits row a → IsRightTo limit bound out no_fits row b
      → IsRightTo limit bound out fits row (by_word test a b)
  choice_right yes_fits no_fits {row = row} {a = a} {b = b} d x y =
      record {
        right =
            over.choice_right (IsLow limit row) bound (Before out) none_past test fits yes_fits no_fits row a b d
            x.right y.right;
      }

-- ---- nothing, and what may be there

pub none_right : {B : Type 0} {limit bound : ℕ} {out : TokenKind → Bool} {row : B → Parts} {x : B} → row x ≡ End
    → IsRightTo limit bound out (λ y. y ≡ x) row (pure x)
none_right {row = row} {x = x} e =
    reshaped (λ y. y ≡ x) (λ y. End) (record { to = λ y f. f; from = λ y f. f; rows = λ y f. sym (ap row f ∙ e) })
    (pure_right refl (λ y f. f))

abbrev pub OptionFits : {A : Type 0} → (A → Type 0) → Option A → Type 0
OptionFits fits None = Unit {0}
OptionFits fits (Some x) = fits x

-- what a row that may be there begins with
pub record Opens {A : Type 0} (start : TokenKind → Bool) (fits : A → Type 0) (row : A → Parts) : Type 0 where
  pub at : (x : A) (w v : List Token) → fits x → AreSpelled (row x) w → heads start (w ++ v) ≡ true

-- what begins with a word is opened by it
pub opens_word : {A : Type 0} {start : TokenKind → Bool} {k : TokenKind} {fits : A → Type 0} {rest : A → Parts}
    → start k ≡ true → Opens start fits (λ x. Word (Anywhere k) (rest x))
opens_word {start = start} e =
    record { at = λ x w v f s. ap (λ (u : List Token). heads start (u ++ v)) s.2 ∙ ap start s.3 ∙ e }

pub outside_off : (out start : TokenKind → Bool) (v : List Token) → ((k : TokenKind) → out k ≡ true → start k ≡ false)
    → Outside out v → heads start v ≡ false
outside_off out start [] off o = refl
outside_off out start (p ∷ v) off o = off p.kind o

option_decides : {A : Type 0} (out start : TokenKind → Bool) (fits : A → Type 0) (row : A → Parts)
    (row2 : Option A → Parts) → Opens start fits row → ((k : TokenKind) → out k ≡ true → start k ≡ false) → row2 None
    ≡ End → ((x : A) → row2 (Some x) ≡ row x)
    → Decides out start (OptionFits fits) (λ y. (x : A) × fits x × (y ≡ Some x)) (λ y. y ≡ None) row2
option_decides {A = A} out start fits row row2 opens off none some = record {
  either = either;
  from_yes = λ y f. subst (OptionFits fits) (sym f.2) f.1;
  from_no = λ y f. subst (OptionFits fits) (sym f) tt;
  on = λ y w v f s o. opens.at f.0 w v f.1 (subst (λ (ps : Parts). AreSpelled ps w) (ap row2 f.2 ∙ some f.0) s);
  off =
      λ y w v f s o. ap (λ (u : List Token). heads start (u ++ v))
      (subst (λ (ps : Parts). AreSpelled ps w) (ap row2 f ∙ none) s) ∙ outside_off out start v off o;
}
  where
    either : (y : Option A) → OptionFits fits y → ((x : A) × fits x × (y ≡ Some x)) ⊎ (y ≡ None)
    either None f = inr refl
    either (Some x) f = inl (x, f, refl)

pub optional_right : {A : Type 0} {limit bound : ℕ} {out start : TokenKind → Bool} (fits : A → Type 0) (row : A → Parts)
    {row2 : Option A → Parts} {r : Reader A} → Opens start fits row → ((k : TokenKind) → out k ≡ true → start k ≡ false)
    → row2 None ≡ End → ((x : A) → row2 (Some x) ≡ row x) → IsRightTo limit bound out fits row r
    → IsRightTo limit bound out (OptionFits fits) row2 (optional start r)
optional_right {A = A} {out = out} {start = start} fits row {row2 = row2} opens off none some right =
    choice_right (λ y. (x : A) × fits x × (y ≡ Some x)) (λ y. y ≡ None)
    (option_decides out start fits row row2 opens off none some) (made_right fits row some right) (none_right none)
