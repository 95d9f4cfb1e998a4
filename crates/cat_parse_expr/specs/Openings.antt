-- How an expression begins: which of its first words begin which form.
use Rattle.std.specs.Prelude.{ℕ, Bool, true, false, nat_le, List, [], ◌∷◌}
use Rattle.cat_lex.specs.declared.token.Token.{Token}
use Rattle.cat_lex.specs.declared.token.TokenKind.{TokenKind}
use Rattle.cat_lex.specs.declared.token.TokenKind.TheVariants as kind
use Rattle.cat_lex.specs.declared.words.Keyword.TheVariants as key
use Rattle.cat_lex.specs.declared.words.DoubleKeyword.TheVariants as pair
use Rattle.cat_lex.specs.declared.symbol.Symbol.TheVariants as symbol
use Rattle.cat_tree.specs.declared.expression.Prefix.TheVariants as prefix
use Rattle.cat_tree.specs.declared.expression.Each.TheVariants as each
use Rattle.cat_tree.specs.declared.expression.Operator.TheVariants as op
use Rattle.cat_tree.specs.Operators.{prefix_level}
use Rattle.cat_parse_expr.specs.declared.opening.Opening.{Opening}
use Rattle.cat_parse_expr.specs.declared.opening.Opening.TheVariants as opening
use Rattle.cat_parse_expr.specs.declared.follow.Follow.{Follow}
use Rattle.cat_parse_expr.specs.declared.follow.Follow.TheVariants.{Operated, Dotted, Tests, Other}

-- the form that a token begins
abbrev pub opening_of : TokenKind → Opening
opening_of (kind.Int n) = opening.Literal
opening_of (kind.Dec d) = opening.Literal
opening_of (kind.Pct d) = opening.Literal
opening_of (kind.Money m) = opening.Literal
opening_of (kind.Date d) = opening.Literal
opening_of (kind.Word key.True) = opening.Literal
opening_of (kind.Word key.False) = opening.Literal
opening_of (kind.Lower w) = opening.Name
opening_of (kind.Upper u) = opening.Case
opening_of (kind.Symbol symbol.LeftParen) = opening.Parens
opening_of (kind.Symbol symbol.LeftBracket) = opening.List
opening_of (kind.Pair pair.OutputOf) = opening.ScopeCall
opening_of (kind.Word key.Not) = opening.Prefixed prefix.Not
opening_of (kind.Symbol symbol.Minus) = opening.Prefixed prefix.Negate
opening_of (kind.Word key.Integer) = opening.Prefixed prefix.IntegerOf
opening_of (kind.Word key.Decimal) = opening.Prefixed prefix.DecimalOf
opening_of (kind.Word key.Money) = opening.Prefixed prefix.MoneyOf
opening_of (kind.Word key.GetYear) = opening.Prefixed prefix.GetYear
opening_of (kind.Word key.GetMonth) = opening.Prefixed prefix.GetMonth
opening_of (kind.Word key.GetDay) = opening.Prefixed prefix.GetDay
opening_of (kind.Pair pair.RoundOf) = opening.Prefixed prefix.RoundOf
opening_of (kind.Pair pair.NumberOf) = opening.Prefixed prefix.NumberOf
opening_of (kind.Word key.Sum) = opening.Sum
opening_of (kind.Word key.If) = opening.If
opening_of (kind.Word key.Match) = opening.Match
opening_of (kind.Pair pair.ForAll) = opening.Each each.ForAll
opening_of (kind.Word key.Exists) = opening.Each each.Exists
opening_of (kind.Pair pair.MapEach) = opening.Each each.MapEach
opening_of (kind.Pair pair.ListOf) = opening.Each each.ListOf
opening_of (kind.Pair pair.CombineAll) = opening.Combine
opening_of _ = opening.Nothing

-- the form that the next token begins
abbrev pub opening_at : List Token → Opening
opening_at [] = opening.Nothing
opening_at (p ∷ ts) = opening_of p.kind

-- the forms that stand at a level
abbrev pub stands : ℕ → Opening → Bool
stands k opening.Nothing = false
stands k (opening.Prefixed o) = nat_le k (prefix_level o)
stands k opening.Sum = nat_le k 8
stands k opening.If = nat_le k 8
stands k opening.Match = nat_le k 8
stands k (opening.Each e) = nat_le k 8
stands k opening.Combine = nat_le k 8
stands k _ = true

-- what a token is behind a whole expression
abbrev pub follow_of : TokenKind → Follow
follow_of (kind.Word key.Or) = Operated op.Or
follow_of (kind.Word key.Xor) = Operated op.Xor
follow_of (kind.Word key.And) = Operated op.And
follow_of (kind.Word key.Contains) = Operated op.Contains
follow_of (kind.Symbol symbol.Less) = Operated op.Less
follow_of (kind.Symbol symbol.LessEqual) = Operated op.LessEqual
follow_of (kind.Symbol symbol.Greater) = Operated op.Greater
follow_of (kind.Symbol symbol.GreaterEqual) = Operated op.GreaterEqual
follow_of (kind.Symbol symbol.Equal) = Operated op.Equal
follow_of (kind.Symbol symbol.NotEqual) = Operated op.NotEqual
follow_of (kind.Symbol symbol.Plus) = Operated op.Plus
follow_of (kind.Symbol symbol.Minus) = Operated op.Minus
follow_of (kind.Symbol symbol.Star) = Operated op.Times
follow_of (kind.Symbol symbol.Slash) = Operated op.Divide
follow_of (kind.Symbol symbol.Dot) = Dotted
follow_of (kind.Pair pair.WithPattern) = Tests
follow_of _ = Other

-- what the next token is behind a whole expression
abbrev pub follow_at : List Token → Follow
follow_at [] = Other
follow_at (p ∷ ts) = follow_of p.kind
