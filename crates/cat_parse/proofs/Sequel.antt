-- A part, and then the rest of the row.
use Rattle.std.proofs.Common.{◌≡◌, ◌≤◌, ℕ, Bool, true, List, [], ◌∷◌, ◌++◌, length, inr, arith, ap, subst}
use Rattle.std.proofs.lemmas.List.{length-append}
use Rattle.cat_parse_expr.proofs.Exported as over
use Rattle.cat_parse.proofs.Common.{Token, TokenKind, Parts, tallest, AreSpelled, ◌▸◌, Parsed, Reader, Fails, Reads}
use Rattle.cat_parse.proofs.Common.{heads, ◌⨟◌, Outside, Before, IsLow, none_past, IsRightTo, Taken}
use Rattle.cat_parse.proofs.Steps.{tallest_join}

-- a part that is shorter by so much
pub part_within : {A B : Type 0} (limit bound inner : ℕ) (out next : TokenKind → Bool) (fits : B → Type 0)
    (fits_part : A → Type 0) (sub : B → A) (row : A → Parts) (rest : B → Parts) (one : Reader A) (r : A → Reader B)
    → ((ts : List Token) (x : A) (left : List Token) → length ts ≤ bound → one ts ≡ Reads x left → length left ≤ inner)
    → IsRightTo limit bound next fits_part row one → ((y : B) → fits y → fits_part (sub y))
    → ((y : B) (w v : List Token) → fits y → AreSpelled (rest y) w → Outside out v → Outside next (w ++ v))
    → ((x : A) → fits_part x → IsRightTo limit inner out (λ y. fits y × (sub y ≡ x)) rest (r x))
    → IsRightTo limit bound out fits (λ y. row (sub y) ▸ rest y) (one ⨟ r)
part_within {A = A} {B = B} limit bound inner out next fits fits_part sub row rest one r less first fit behind second =
    record {
      right =
          over.part_right bound inner (IsLow limit (λ y. row (sub y) ▸ rest y)) (IsLow limit rest) (IsLow limit row)
          (Before out) (Before next) none_past none_past fits fits_part sub row rest one r
          (record {
            fit = fit;
            behind = behind;
            shrinks = less;
            past = λ x ts fit le. past (r x ts) ts;
            joins = λ y fit a b. joins (row (sub y)) (rest y) a b;
            part = λ y fit l. part (row (sub y)) (rest y) l;
            others = λ y fit l. others (row (sub y)) (rest y) l;
          })
          first.right (λ x fit. (second x fit).right.alive) (λ x fit l. (second x fit).right);
    }
  where
    none : (ts : List Token) → heads none_past ts ≡ true → ⊥
    none [] h = absurd cc
    none (p ∷ ts) h = absurd cc

    past : (o : Parsed B) (ts : List Token) → over.Past none_past none_past o ts
    past (Fails left deep whole) ts = λ h. absurd (none ts h)
    past (Reads x left) ts = λ h. inr (λ k e. e)

    joins : (ps qs : Parts) → tallest ps ≤ limit → tallest qs ≤ limit → tallest (ps ▸ qs) ≤ limit
    joins ps qs a b = omega (arith, tallest_join ps qs, a, b)

    part : (ps qs : Parts) → tallest (ps ▸ qs) ≤ limit → tallest ps ≤ limit
    part ps qs l = omega (arith, tallest_join ps qs, l)

    others : (ps qs : Parts) → tallest (ps ▸ qs) ≤ limit → tallest qs ≤ limit
    others ps qs l = omega (arith, tallest_join ps qs, l)

-- a part is no longer than what it is read from
pub no_longer : {A : Type 0} {limit bound : ℕ} {out : TokenKind → Bool} {fits : A → Type 0} {row : A → Parts}
    {r : Reader A} → IsRightTo limit bound out fits row r
    → (ts : List Token) (x : A) (left : List Token) → length ts ≤ bound → r ts ≡ Reads x left → length left ≤ bound
no_longer {A = A} {limit = limit} {fits = fits} {row = row} h ts x left le e =
    let t = subst (λ (o : Parsed A). Taken (IsLow limit row) fits row o ts) e (h.right.taken ts le) in
    omega (arith, le, ap length t.text, length-append t.front left)

-- any part
pub part_right : {A B : Type 0} {limit bound : ℕ} {out next : TokenKind → Bool} {fits : B → Type 0}
    {fits_part : A → Type 0} (sub : B → A) (row : A → Parts) {rest : B → Parts} {one : Reader A} {r : A → Reader B}
    → IsRightTo limit bound next fits_part row one → ((y : B) → fits y → fits_part (sub y))
    → ((y : B) (w v : List Token) → fits y → AreSpelled (rest y) w → Outside out v → Outside next (w ++ v))
    → ((x : A) → fits_part x → IsRightTo limit bound out (λ y. fits y × (sub y ≡ x)) rest (r x))
    → IsRightTo limit bound out fits (λ y. row (sub y) ▸ rest y) (one ⨟ r)
part_right {limit = limit} {bound = bound} sub row first =
    part_within limit bound bound _ _ _ _ sub row _ _ _ (no_longer first) first
