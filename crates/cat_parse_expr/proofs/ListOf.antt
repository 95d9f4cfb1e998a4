-- A further `list of` of a type.
use Rattle.std.proofs.Common.{◌≡◌, ℕ, zero, suc, ◌<◌, ◌+◌, Bool, true, if◌then◌else◌, List, [], ◌∷◌, length, drop, refl}
use Rattle.std.proofs.Common.{sym, ap, ◌∙◌, arith}
use Rattle.cat_parse_expr.proofs.Common.{Token, made_of, after, pure, heads, typed, base_at, is_list_of, type_after}

drop_more : (place : ℕ) (tokens : List Token) (t : Token) (ts : List Token) → drop place tokens ≡ t ∷ ts
    → (drop (suc place) tokens ≡ ts) × (place < length tokens)
drop_more zero [] t ts e = absurd (omega (arith, ap length e))
drop_more zero (x ∷ xs) t ts e = (ap (drop 1) e, omega arith)
drop_more (suc place) [] t ts e = absurd (omega (arith, ap length e))
drop_more (suc place) (x ∷ xs) t ts e = let m = drop_more place xs t ts e in (m.0, omega (arith, m.1))

pub record Listed (n place : ℕ) (tokens : List Token) : Type 0 where
  pub same : type_after n (drop place tokens) ≡ type_after (n + 1) (drop (place + 1) tokens)
  pub within : place < length tokens

pub list_step : (n place : ℕ) (tokens : List Token) → heads is_list_of (drop place tokens) ≡ true
    → Listed n place tokens
list_step n place tokens h = by (drop place tokens) refl h
  where
    taken : (t : Token) (ts : List Token) → is_list_of t.kind ≡ true → type_after n (t ∷ ts) ≡ type_after (suc n) ts
    taken t ts e =
        ap
        (λ (c : Bool). if c then type_after (suc n) ts else after (made_of (base_at t) (t ∷ ts) ts)
        (λ b. pure (typed n b))) e

    by : (l : List Token) → drop place tokens ≡ l → heads is_list_of l ≡ true → Listed n place tokens
    by [] e h = absurd cc
    by (t ∷ ts) e h =
        let m = drop_more place tokens t ts e in
        let suc_is : suc place ≡ place + 1 = omega arith in
        let suc_n : suc n ≡ n + 1 = omega arith in
        record {
          same =
              ap (type_after n) e ∙ taken t ts h ∙ ap (type_after (suc n)) (sym m.0)
              ∙ ap (λ (k : ℕ). type_after (suc n) (drop k tokens)) suc_is
              ∙ ap (λ (k : ℕ). type_after k (drop (place + 1) tokens)) suc_n;
          within = m.1;
        }
