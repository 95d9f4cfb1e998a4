-- What may follow an expression that is read at a level, so that it ends there.
use Rattle.std.specs.Prelude.{ℕ, ◌≡◌, Bool, true, false, not, nat_eq, nat_lt, ◌&&◌, ◌||◌, List, [], ◌∷◌}
use Rattle.cat_lex.specs.declared.token.Token.{Token}
use Rattle.cat_lex.specs.declared.token.TokenKind.{TokenKind}
use Rattle.cat_lex.specs.declared.token.TokenKind.TheVariants as kind
use Rattle.cat_lex.specs.declared.words.Keyword.TheVariants as key
use Rattle.cat_lex.specs.declared.words.DoubleKeyword.TheVariants as pair
use Rattle.cat_lex.specs.declared.symbol.Symbol.TheVariants as symbol
use Rattle.cat_tree.specs.Operators.{operator_level}
use Rattle.cat_parse_expr.specs.declared.behind.Behind.{Behind}
use Rattle.cat_parse_expr.specs.declared.behind.Behind.TheVariants.{Other, Field, Pattern as Tested}
use Rattle.cat_parse_expr.specs.declared.follow.Follow.{Follow}
use Rattle.cat_parse_expr.specs.declared.follow.Follow.TheVariants as follow
use Rattle.cat_parse_expr.specs.declared.measured.Measured.{Measured}
use Rattle.cat_parse_expr.specs.Reader.{heads}
use Rattle.cat_parse_expr.specs.Openings.{follow_of}
use Rattle.cat_parse_expr.specs.Parts.{is_sign, is_lower}

-- whether a token is `with pattern`
abbrev pub is_with_pattern : TokenKind → Bool
is_with_pattern (kind.Pair pair.WithPattern) = true
is_with_pattern k = false

-- whether it goes on behind a whole expression
abbrev pub is_step : Follow → Bool
is_step follow.Other = false
is_step f = true

-- whether a token goes on with something, wherever an expression ends in that
abbrev pub is_taken : TokenKind → Bool
is_taken (kind.Word key.Of) = true
is_taken (kind.Word key.Content) = true
is_taken (kind.Word key.Year) = true
is_taken (kind.Word key.Month) = true
is_taken (kind.Word key.Day) = true
is_taken (kind.Symbol symbol.LeftBrace) = true
is_taken (kind.Symbol symbol.Comma) = true
is_taken (kind.Symbol symbol.MinusMinus) = true
is_taken k = is_step (follow_of k)

-- whether it binds more loosely than the level
abbrev pub is_below : ℕ → Follow → Bool
is_below k (follow.Operated o) = nat_lt (operator_level o) k
is_below k follow.Dotted = nat_lt 9 k
is_below k follow.Tests = nat_lt 4 k
is_below k follow.Other = false

-- what a form around asks for, although the expression could take it
abbrev pub is_asked : Behind → TokenKind → List Token → Bool
is_asked Tested p ts = is_with_pattern p && heads (is_sign symbol.MinusMinus) ts
is_asked Field p ts = is_sign symbol.MinusMinus p && heads is_lower ts
is_asked Other p ts = false

-- whether these tokens may follow an expression of that strength, which may end in a match
abbrev pub may_stand : Behind → (k strength : ℕ) → (in_match : Bool) → TokenKind → List Token → Bool
may_stand b k s in_match p ts =
    not (is_taken p) || (is_asked b p ts || ((nat_eq k 9 && is_sign symbol.Comma p)
    || ((not in_match && is_sign symbol.MinusMinus p) || (not (nat_eq s 0) && is_below k (follow_of p)))))

-- Nothing follows, or what may. Behind one that ends in a form no operator does, since that form would take it; and
-- behind one that ends in a match no further arm.
abbrev pub MayFollow : Behind → (k : ℕ) → Measured → List Token → Type 0
MayFollow b k y [] = Unit {0}
MayFollow b k y (p ∷ ts) = may_stand b k y.strength y.in_match p.kind ts ≡ true

-- the tokens past which reading looks where it ends
abbrev pub looks_of : Behind → TokenKind → Bool
looks_of Tested = is_with_pattern
looks_of Field = is_sign symbol.MinusMinus
looks_of Other = λ k. false
