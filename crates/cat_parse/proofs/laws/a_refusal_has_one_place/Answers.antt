use Rattle.std.proofs.Common.{◌≡◌, ℕ, zero, suc, ◌<◌, List, refl, ap, arith}
use Rattle.cat_parse.proofs.Common.{Token, IsUnexpected}
use Rattle.cat_parse.proofs.Places.{begins_before}
use Rattle.cat_parse.proofs.laws.a_refusal_has_one_place.Goals as goal

-- none stands before another
not_before : (tokens : List Token) (a b : ℕ) → IsUnexpected tokens a → IsUnexpected tokens b → a < b → ⊥
not_before tokens a b x y before =
    x.ends (omega (arith, before, y.within)) (begins_before (suc a) b tokens (omega (arith, before)) y.begins)

-- numbers of which neither is below the other
neither_below : (a b : ℕ) → (a < b → ⊥) → (b < a → ⊥) → a ≡ b
neither_below zero zero f g = refl
neither_below zero (suc b) f g = absurd (f (omega arith))
neither_below (suc a) zero f g = absurd (g (omega arith))
neither_below (suc a) (suc b) f g =
    ap suc (neither_below a b (λ l. f (omega (arith, l))) (λ l. g (omega (arith, l))))

pub returns : goal.returns
returns c = λ tokens a b x y. neither_below a b (not_before tokens a b x y) (not_before tokens b a y x)
