-- The word behind the next one is the next one behind that.
use Rattle.std.proofs.Common.{◌≡◌, ◌+◌, ℕ, zero, suc, Bool, List, [], ◌∷◌, drop, refl, ap, ◌∙◌, arith}
use Rattle.cat_parse_expr.proofs.Common.{Token, TokenKind, heads, heads_second}

behind_one : (test : TokenKind → Bool) (at : ℕ) (ts : List Token)
    → heads_second test (drop at ts) ≡ heads test (drop (suc at) ts)
behind_one test zero [] = refl
behind_one test zero (t ∷ ts) = refl
behind_one test (suc at) [] = refl
behind_one test (suc at) (t ∷ ts) = behind_one test at ts

pub second_is : (test : TokenKind → Bool) (at : ℕ) (ts : List Token)
    → heads_second test (drop at ts) ≡ heads test (drop (at + 1) ts)
second_is test at ts =
    let one : suc at ≡ at + 1 = omega arith in
    behind_one test at ts ∙ ap (λ (n : ℕ). heads test (drop n ts)) one
