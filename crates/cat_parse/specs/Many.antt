-- Readers of several parts.
use Rattle.std.specs.Prelude.{Bool, ℕ, zero, suc, List, [], ◌∷◌, length, Option, Some, None}
use Rattle.cat_lex.specs.declared.token.TokenKind.{TokenKind}
use Rattle.cat_parse_expr.specs.Reader.{Reader, ◌⨟◌, pure, by_word}

-- one, then the other
abbrev pub both : {A B : Type 0} → Reader A → Reader B → Reader (A × B)
both r s = r ⨟ λ x. s ⨟ λ y. pure (x, y)

-- one where it begins with such a word
abbrev pub optional : {A : Type 0} → (TokenKind → Bool) → Reader A → Reader (Option A)
optional start r = by_word start (r ⨟ λ x. pure (Some x)) (pure None)

-- as many as begin with such a word
abbrev pub at_most : {A : Type 0} → ℕ → (TokenKind → Bool) → Reader A → Reader (List A)
at_most zero start r = pure []
at_most (suc n) start r = by_word start (both r (at_most n start r) ⨟ λ x. pure (x.0 ∷ x.1)) (pure [])

-- as many as there are
abbrev pub many : {A : Type 0} → (TokenKind → Bool) → Reader A → Reader (List A)
many start r ts = at_most (length ts) start r ts

-- one at least
abbrev pub some : {A : Type 0} → (TokenKind → Bool) → Reader A → Reader (List A)
some start r = both r (many start r) ⨟ λ x. pure (x.0 ∷ x.1)
