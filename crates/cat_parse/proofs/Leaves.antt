-- The readers of one word are right.
use Rattle.std.proofs.Common.{◌≡◌, ℕ, Bool}
use Rattle.cat_lex.specs.declared.token.TokenKind.TheVariants as kind
use Rattle.cat_parse.proofs.Common.{Pos, TokenKind, Name, Parts, Word, At, Anywhere, Cue, Reader, ◌⨟◌, kind_of, word_of}
use Rattle.cat_parse.proofs.Common.{lower_of, upper_of, «word», lower, upper, lowered, token_right, word_behind}
use Rattle.cat_parse.proofs.Common.{word_at_marks, lower_marks, upper_marks, Before, IsLow, none_past, IsRightTo}

module _ {B : Type 0} {limit bound : ℕ} {out : TokenKind → Bool} {fits : B → Type 0} {rest : B → Parts} where
  pub word_right : (c : Cue) {r : Pos → Reader B} → ((p : Pos) → IsRightTo limit bound out fits rest (r p))
      → IsRightTo limit bound out fits (λ y. Word (Anywhere (kind_of c)) (rest y)) («word» c ⨟ r)
  word_right c {r = r} right =
      record {
        right =
            lowered (IsLow limit rest) bound (Before out) none_past fits (λ y. Word (Anywhere (kind_of c)) (rest y))
            («word» c ⨟ r) (word_behind (IsLow limit rest) bound (Before out) none_past c fits rest r
            (λ p. (right p).right));
      }

  pub word_at_right : (c : Cue) {at : B → Pos} {r : Pos → Reader B}
      → ((p : Pos) → IsRightTo limit bound out (λ y. fits y × (at y ≡ p)) rest (r p))
      → IsRightTo limit bound out fits (λ y. Word (At (kind_of c) (at y)) (rest y)) («word» c ⨟ r)
  word_at_right c {at = at} {r = r} right =
      record {
        right =
            lowered (IsLow limit rest) bound (Before out) none_past fits (λ y. Word (At (kind_of c) (at y)) (rest y))
            («word» c ⨟ r)
            (token_right (IsLow limit rest) bound (Before out) none_past fits (λ y. At (kind_of c) (at y)) rest
            (word_of c) (λ x y. at y ≡ x) r (word_at_marks c fits at) (λ p. (right p).right));
      }

  pub lower_right : (name : B → Name) {r : Name → Reader B}
      → ((x : Name) → IsRightTo limit bound out (λ y. fits y × (name y ≡ x)) rest (r x))
      → IsRightTo limit bound out fits (λ y. Word (At (kind.Lower (name y).text) (name y).pos) (rest y)) (lower ⨟ r)
  lower_right name {r = r} right =
      record {
        right =
            lowered (IsLow limit rest) bound (Before out) none_past fits
            (λ y. Word (At (kind.Lower (name y).text) (name y).pos) (rest y)) (lower ⨟ r)
            (token_right (IsLow limit rest) bound (Before out) none_past fits
            (λ y. At (kind.Lower (name y).text) (name y).pos) rest lower_of (λ x y. name y ≡ x) r
            (lower_marks fits name) (λ x. (right x).right));
      }

  pub upper_right : (name : B → Name) {r : Name → Reader B}
      → ((x : Name) → IsRightTo limit bound out (λ y. fits y × (name y ≡ x)) rest (r x))
      → IsRightTo limit bound out fits (λ y. Word (At (kind.Upper (name y).text) (name y).pos) (rest y)) (upper ⨟ r)
  upper_right name {r = r} right =
      record {
        right =
            lowered (IsLow limit rest) bound (Before out) none_past fits
            (λ y. Word (At (kind.Upper (name y).text) (name y).pos) (rest y)) (upper ⨟ r)
            (token_right (IsLow limit rest) bound (Before out) none_past fits
            (λ y. At (kind.Upper (name y).text) (name y).pos) rest upper_of (λ x y. name y ≡ x) r
            (upper_marks fits name) (λ x. (right x).right));
      }
