-- Rows behind one another, and readers of nothing more.
use Rattle.std.proofs.Common.{◌≡◌, ◌≤◌, ℕ, Bool, max, arith}
use Rattle.cat_parse_expr.proofs.Exported as over
use Rattle.cat_parse.proofs.Common.{TokenKind, Parts, End, Word, Part, tallest, ◌▸◌, pure, Before, IsLow, none_past}
use Rattle.cat_parse.proofs.Common.{IsRightTo}

pub tallest_join : (ps qs : Parts) → tallest (ps ▸ qs) ≡ max (tallest ps) (tallest qs)
tallest_join End qs = omega arith
tallest_join (Word m ps) qs = tallest_join ps qs
tallest_join (Part s e ps) qs = omega (arith, tallest_join ps qs)

none_tall : (limit : ℕ) → tallest End ≤ limit
none_tall limit = omega arith

pub pure_right : {B : Type 0} {limit bound : ℕ} {out : TokenKind → Bool} {fits : B → Type 0} {x : B} → fits x
    → ((y : B) → fits y → y ≡ x) → IsRightTo limit bound out fits (λ y. End) (pure x)
pure_right {limit = limit} {bound = bound} {out = out} {fits = fits} {x = x} fit only =
    record {
      right = over.pure_right (IsLow limit (λ y. End)) bound (Before out) none_past fits x fit (none_tall limit) only;
    }
