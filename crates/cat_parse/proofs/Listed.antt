-- Lists with commas, lists behind a word, and lists of one at least.
use Rattle.std.proofs.Common.{◌≡◌, ℕ, Bool, true, false, List, [], ◌∷◌, ◌++◌, refl, sym, ap, subst, ◌∙◌, inl, inr, ◌⊎◌}
use Rattle.cat_lex.specs.declared.symbol.Symbol.TheVariants as symbol
use Rattle.cat_parse_expr.specs.declared.cue.Cue.TheVariants as cue
use Rattle.cat_parse.proofs.Common.{Token, TokenKind, Parts, End, Word, Anywhere, AreSpelled, all, behind_comma}
use Rattle.cat_parse.proofs.Common.{with_commas, Cue, Reader, heads, cue_self, many, some, Outside, IsRightTo, kind_of}
use Rattle.cat_parse.proofs.Common.{cue_is, is_comma, comma, listed, led}
use Rattle.cat_parse.proofs.Sequel.{no_longer}
use Rattle.cat_parse.proofs.Choices.{Opens, opens_word, Decides, choice_right, none_right, made_right, reshaped}
use Rattle.cat_parse.proofs.Choices.{outside_off}
use Rattle.cat_parse.proofs.Leaves.{word_right}
use Rattle.cat_parse.proofs.Lists.{BothFit, both_rows, both_right, AllFit, many_right, all_behind as rest_behind}

abbrev pub any_word : TokenKind → Bool
any_word k = true

pub outside_any : (v : List Token) → Outside any_word v
outside_any [] = tt
outside_any (p ∷ v) = refl

-- a list that isn't empty, all of whose members fit
abbrev pub SomeFit : {A : Type 0} → (A → Type 0) → List A → Type 0
SomeFit {A = A} fits ys = (p : A × List A) × BothFit fits (AllFit fits) p × (ys ≡ p.0 ∷ p.1)

module _ {A : Type 0} (limit : ℕ) (out : TokenKind → Bool) (fits : A → Type 0) (row : A → Parts) (r : Reader A)
    (off : (k : TokenKind) → out k ≡ true → is_comma k ≡ false)
    (right : (bound : ℕ) → IsRightTo limit bound any_word fits row r) where
  comma_right : (bound : ℕ) → IsRightTo limit bound any_word fits (behind_comma row) (comma r)
  comma_right bound = word_right (cue.Sign symbol.Comma) (λ p. right bound)

  pub listed_right : (bound : ℕ) → IsRightTo limit bound out (SomeFit fits) (with_commas row) (listed r)
  listed_right bound =
      made_right (BothFit fits (AllFit fits)) (both_rows row (all (behind_comma row))) (λ p. refl)
      (both_right limit bound bound out any_word fits (AllFit fits) row (all (behind_comma row)) r
      (many is_comma (comma r))
      (λ y w v f s o. outside_any (w ++ v)) (no_longer (right bound)) (right bound)
      (many_right limit out any_word is_comma fits (behind_comma row) (comma r)
      (opens_word (cue_self (cue.Sign symbol.Comma))) off (λ k e. refl)
      (λ k e. refl) comma_right bound))

  module _ (c : Cue) (row2 : List A → Parts) (none : row2 [] ≡ End)
      (more : (x : A) (xs : List A) → Word (Anywhere (kind_of c)) (with_commas row (x ∷ xs)) ≡ row2 (x ∷ xs))
      (ends : (k : TokenKind) → out k ≡ true → cue_is c k ≡ false) where
    led_row : (y : List A) → SomeFit fits y → Word (Anywhere (kind_of c)) (with_commas row y) ≡ row2 y
    led_row y f =
        subst (λ (ys : List A). Word (Anywhere (kind_of c)) (with_commas row ys) ≡ row2 ys) (sym f.2) (more f.0.0 f.0.1)

    led_decides : Decides out (cue_is c) (AllFit fits) (SomeFit fits) (λ y. y ≡ []) row2
    led_decides = record {
      either = either;
      from_yes = λ y f. subst (AllFit fits) (sym f.2) f.1;
      from_no = λ y f. subst (AllFit fits) (sym f) tt;
      on =
          λ y w v f s o. let t = subst (λ (ps : Parts). AreSpelled ps w) (sym (led_row y f)) s in
          ap (λ (u : List Token). heads (cue_is c) (u ++ v)) t.2 ∙ ap (cue_is c) t.3 ∙ cue_self c;
      off =
          λ y w v f s o. ap (λ (u : List Token). heads (cue_is c) (u ++ v))
          (subst (λ (ps : Parts). AreSpelled ps w) (ap row2 f ∙ none) s) ∙ outside_off out (cue_is c) v ends o;
    }
      where
        either : (y : List A) → AllFit fits y → SomeFit fits y ⊎ (y ≡ [])
        either [] f = inr refl
        either (x ∷ xs) f = inl ((x, xs), (f.0, f.1), refl)

    pub led_right : (bound : ℕ) → IsRightTo limit bound out (AllFit fits) row2 (led c r)
    led_right bound =
        choice_right (SomeFit fits) (λ y. y ≡ []) led_decides
        (reshaped (SomeFit fits) (λ y. Word (Anywhere (kind_of c)) (with_commas row y))
        (record { to = λ y f. f; from = λ y f. f; rows = led_row }) (word_right c (λ p. listed_right bound)))
        (none_right none)

-- one at least
module _ {A : Type 0} (limit : ℕ) (out next start : TokenKind → Bool) (fits : A → Type 0) (row : A → Parts)
    (r : Reader A)
    (opens : Opens start fits row) (off : (k : TokenKind) → out k ≡ true → start k ≡ false)
    (on : (k : TokenKind) → start k ≡ true → next k ≡ true) (wide : (k : TokenKind) → out k ≡ true → next k ≡ true)
    (right : (bound : ℕ) → IsRightTo limit bound next fits row r) where
  all_behind : (ys : List A) (w v : List Token) → AllFit fits ys → AreSpelled (all row ys) w → Outside out v
      → Outside next (w ++ v)
  all_behind = rest_behind limit out next start fits row r opens off on wide right

  pub some_right : (bound : ℕ) → IsRightTo limit bound out (SomeFit fits) (all row) (some start r)
  some_right bound =
      made_right (BothFit fits (AllFit fits)) (both_rows row (all row)) (λ p. refl)
      (both_right limit bound bound out next fits (AllFit fits) row (all row) r (many start r) all_behind
      (no_longer (right bound)) (right bound)
      (many_right limit out next start fits row r opens off on wide right bound))
