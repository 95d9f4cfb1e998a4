-- The last part of a row.
use Rattle.std.proofs.Common.{◌≡◌, ℕ, Bool, ap}
use Rattle.cat_parse_expr.proofs.Exported as over
use Rattle.cat_parse.proofs.Common.{TokenKind, Parts, Reader, ◌⨟◌, pure, Before, IsLow, none_past, IsRightTo}
use Rattle.cat_parse.proofs.Choices.{recast_rows}

-- the value of a row is known once its last part is
pub record Ends {A B : Type 0} (fits_part : A → Type 0) (fits : B → Type 0) (sub : B → A) (f : A → B) : Type 0 where
  pub to : (x : A) → fits_part x → fits (f x)
  pub from : (y : B) → fits y → fits_part (sub y)
  pub back : (x : A) → sub (f x) ≡ x
  pub only : (y : B) → fits y → y ≡ f (sub y)

module _ {A B : Type 0} {limit bound : ℕ} {out : TokenKind → Bool} {fits_part : A → Type 0} {fits : B → Type 0} where
  pub last_right : (sub : B → A) {f : A → B} (row : A → Parts) {r : Reader A}
      → IsRightTo limit bound out fits_part row r → Ends fits_part fits sub f
      → IsRightTo limit bound out fits (λ y. row (sub y)) (r ⨟ λ x. pure (f x))
  last_right sub {f = f} row {r = r} h e =
      record {
        right =
            over.recast bound (IsLow limit row) (IsLow limit (λ y. row (sub y))) (Before out) (Before out) none_past
            fits_part fits row (λ y. row (sub y)) f r
            (recast_rows limit out fits_part fits row (λ y. row (sub y)) f e.to
            (λ y fit. (sub y, e.from y fit, e.only y fit)) (λ x fit. ap row (e.back x))) h.right;
      }
