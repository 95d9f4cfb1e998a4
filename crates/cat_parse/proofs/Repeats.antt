-- What one more part makes of the rest of a repetition.
use Rattle.std.proofs.Common.{Option, ◌≡◌, ◌≤◌, ◌<◌, ℕ, zero, suc, Bool, true, false, if◌then◌else◌, List, [], ◌∷◌}
use Rattle.std.proofs.Common.{◌++◌, length, refl, sym, ap, subst, ◌∙◌, append_assoc, arith}
use Rattle.std.proofs.lemmas.List.{append-nil, length-append}
use Rattle.cat_parse.proofs.Common.{Token, TokenKind, Parts, Parsed, Reader, Fails, Reads, after, pure, heads, both}
use Rattle.cat_parse.proofs.Common.{at_most, many, Taken, IsLow, IsRightTo}
use Rattle.cat_parse.proofs.Choices.{Opens}

-- a part takes a token at least
abbrev pub Shrinks : {A : Type 0} → Reader A → Type 0
Shrinks {A = A} r = (ts : List Token) (x : A) (left : List Token) → r ts ≡ Reads x left → length left < length ts

pub shrinks : {A : Type 0} (limit : ℕ) (out start : TokenKind → Bool) (fits : A → Type 0) (row : A → Parts)
    (r : Reader A)
    → Opens start fits row → ((bound : ℕ) → IsRightTo limit bound out fits row r) → Shrinks r
shrinks {A = A} limit out start fits row r opens right ts x left e =
    let t = subst (λ (o : Parsed A). Taken (IsLow limit row) fits row o ts) e
    ((right (length ts)).right.taken ts (omega arith)) in
    by t.front t.text (opens.at x t.front [] t.took.0.fit t.took.0.spelled)
  where
    by : (front : List Token) → ts ≡ front ++ left → heads start (front ++ []) ≡ true → length left < length ts
    by [] text h = absurd cc
    by (p ∷ front) text h = omega (arith, ap length text, length-append front left)

-- the whole repetition, once these parts were made
pub record Going {A : Type 0} (start : TokenKind → Bool) (r : Reader A) (whole : Parsed (List A)) (made : List A)
    (ts : List Token) : Type 0 where
  pub fuel : ℕ
  pub enough : length ts ≤ fuel
  pub same : whole ≡ after (at_most fuel start r ts) (λ more. pure (made ++ more))

abbrev paired : {A : Type 0} → A → Parsed (List A) → Parsed (A × List A)
paired x o = after o (λ y. pure (x, y))

-- a part in front of the others
abbrev pub put : {A : Type 0} → Parsed A → Reader (List A) → Parsed (List A)
put o rest = after (after o (λ x ts. paired x (rest ts))) (λ p. pure (p.0 ∷ p.1))

module _ {A : Type 0} (start : TokenKind → Bool) (r : Reader A) where
  unchanged : (o : Parsed (List A)) → o ≡ after o (λ more. pure ([] ++ more))
  unchanged (Fails left deep kept) = refl
  unchanged (Reads xs left) = refl

  pub begun : (ts : List Token) → Going start r (many start r ts) [] ts
  begun ts = record { fuel = length ts; enough = omega arith; same = unchanged (many start r ts) }

  behind : (x : A) (o : Parsed (List A))
      → after (paired x o) (λ p. pure (p.0 ∷ p.1)) ≡ after o (λ more. pure ((x ∷ []) ++ more))
  behind x (Fails left deep kept) = refl
  behind x (Reads xs left) = refl

  -- behind a first part
  pub begun_behind : (q : Reader A) (ts : List Token) (x : A) (left : List Token) → q ts ≡ Reads x left
      → Going start r (after (both q (many start r) ts) (λ p. pure (p.0 ∷ p.1))) (x ∷ []) left
  begun_behind q ts x left e = record {
    fuel = length left;
    enough = omega arith;
    same = ap (λ (o : Parsed A). put o (many start r)) e ∙ behind x (many start r left);
  }

  one_more : (n : ℕ) (ts : List Token) → heads start ts ≡ true
      → at_most (suc n) start r ts ≡ after (both r (at_most n start r) ts) (λ p. pure (p.0 ∷ p.1))
  one_more n ts h =
      ap (λ (c : Bool). if c then after (both r (at_most n start r) ts) (λ p. pure (p.0 ∷ p.1)) else pure [] ts) h

  joined : (made : List A) (x : A) (o : Parsed (List A))
      → after (after (paired x o) (λ p. pure (p.0 ∷ p.1))) (λ more. pure (made ++ more))
      ≡ after o (λ more. pure ((made ++ x ∷ []) ++ more))
  joined made x (Fails left deep kept) = refl
  joined made x (Reads xs left) = ap (λ (l : List A). Reads l left) (sym (append_assoc made (x ∷ []) xs))

  none_zero : (ts : List Token) → length ts ≤ 0 → heads start ts ≡ true → ⊥
  none_zero [] le h = absurd cc
  none_zero (t ∷ ts) le h = omega (arith, le)

  -- a part was read
  pub goes_on : (whole : Parsed (List A)) (made : List A) (ts : List Token) (x : A) (left : List Token) → Shrinks r
      → heads start ts ≡ true → r ts ≡ Reads x left → Going start r whole made ts
      → Going start r whole (made ++ x ∷ []) left
  goes_on whole made ts x left less h e g = by g.fuel g.enough g.same
    where
      by : (n : ℕ) → length ts ≤ n → whole ≡ after (at_most n start r ts) (λ more. pure (made ++ more))
          → Going start r whole (made ++ x ∷ []) left
      by zero le s = absurd (none_zero ts le h)
      by (suc n) le s = record {
        fuel = n;
        enough = omega (arith, le, less ts x left e);
        same = s ∙ ap (λ (o : Parsed (List A)). after o (λ more. pure (made ++ more))) (one_more n ts h)
            ∙ ap (λ (o : Parsed A). after (put o (at_most n start r)) (λ more. pure (made ++ more))) e
            ∙ joined made x (at_most n start r left);
      }

  -- no part begins here
  pub ends : (whole : Parsed (List A)) (made : List A) (ts : List Token) → heads start ts ≡ false
      → Going start r whole made ts
      → whole ≡ Reads made ts
  ends whole made ts h g = by g.fuel g.same
    where
      stop : after (pure [] ts) (λ more. pure (made ++ more)) ≡ Reads made ts
      stop = ap (λ (l : List A). Reads l ts) (append-nil made)

      by : (n : ℕ) → whole ≡ after (at_most n start r ts) (λ more. pure (made ++ more)) → whole ≡ Reads made ts
      by zero s = s ∙ stop
      by (suc n) s =
          s ∙ ap (λ (c : Bool). after (if c then after (both r (at_most n start r) ts) (λ p. pure (p.0 ∷ p.1))
          else pure [] ts) (λ more. pure (made ++ more))) h ∙ stop

  -- a part is refused
  pub breaks : (whole : Parsed (List A)) (made : List A) (ts left : List Token) (deep : Bool)
      (kept : Option (List Token)) → heads start ts ≡ true
      → r ts ≡ Fails left deep kept → Going start r whole made ts → whole ≡ Fails left deep kept
  breaks whole made ts left deep kept h e g = by g.fuel g.enough g.same
    where
      by : (n : ℕ) → length ts ≤ n → whole ≡ after (at_most n start r ts) (λ more. pure (made ++ more)) → whole
          ≡ Fails left deep kept
      by zero le s = absurd (none_zero ts le h)
      by (suc n) le s = s ∙ ap (λ (o : Parsed (List A)). after o (λ more. pure (made ++ more))) (one_more n ts h)
          ∙ ap (λ (o : Parsed A). after (put o (at_most n start r)) (λ more. pure (made ++ more))) e
