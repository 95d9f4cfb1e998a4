-- Fronts of a list of tokens, by indices.
use Rattle.std.proofs.Common.{◌≡◌, ℕ, zero, suc, ◌<◌, ◌≤◌, List, [], ◌∷◌, ◌++◌, length, take, drop, refl, sym, ap}
use Rattle.std.proofs.Common.{subst, ◌∙◌, append_assoc, arith}
use Rattle.std.proofs.lemmas.List.{take-append-drop, append_cancel_right, take-take}
use Rattle.cat_parse.proofs.Common.{Token, SpellsProgram, BeginsProgram}

-- the tokens before an index, and those up to and with it
pub front_is : (tokens front : List Token) (at : ℕ) → tokens ≡ front ++ drop at tokens → front ≡ take at tokens
front_is tokens front at text =
    append_cancel_right front (take at tokens) (drop at tokens) (sym text ∙ sym (take-append-drop at tokens))

pub one_more : (at : ℕ) (tokens : List Token) (p : Token) (rest : List Token) → drop at tokens ≡ p ∷ rest
    → (at < length tokens) × (take (suc at) tokens ≡ take at tokens ++ p ∷ [])
one_more zero [] p rest e = absurd cc
one_more zero (t ∷ ts) p rest e = (omega arith, ap (λ (u : List Token). take 1 u) e)
one_more (suc at) [] p rest e = absurd cc
one_more (suc at) (t ∷ ts) p rest e =
    let m = one_more at ts p rest e in (omega (arith, m.0), ap (λ (u : List Token). t ∷ u) m.1)

-- the token at an index
pub token_at : (at : ℕ) (tokens : List Token) → at < length tokens
    → (p : Token) × (rest : List Token) × (drop at tokens ≡ p ∷ rest)
token_at at [] h = absurd (omega (arith, h))
token_at zero (t ∷ ts) h = (t, ts, refl)
token_at (suc at) (t ∷ ts) h = token_at at ts (omega (arith, h))

-- what begins a program has fronts that do
pub begins_front : (front more : List Token) → BeginsProgram (front ++ more) → BeginsProgram front
begins_front front more b = record {
  tree = b.tree;
  rest = more ++ b.rest;
  spells = subst (SpellsProgram b.tree) (append_assoc front more b.rest) b.spells;
}

pub begins_before : (at next : ℕ) (tokens : List Token) → at ≤ next → BeginsProgram (take next tokens)
    → BeginsProgram (take at tokens)
begins_before at next tokens le b =
    begins_front (take at tokens) (drop at (take next tokens))
    (subst BeginsProgram
    (sym (take-append-drop at (take next tokens))
    ∙ ap (λ (u : List Token). u ++ drop at (take next tokens)) (take-take at next tokens le)) b)
