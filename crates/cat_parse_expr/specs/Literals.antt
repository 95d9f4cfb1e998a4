-- The readers of literals.
use Rattle.std.specs.Prelude.{if◌then◌else◌, Bool, true, false, int_lt, Option, Some, None}
use Rattle.cat_lex.specs.declared.token.Token.{Token}
use Rattle.cat_lex.specs.declared.token.TokenKind.{TokenKind}
use Rattle.cat_lex.specs.declared.token.TokenKind.TheVariants as kind
use Rattle.cat_lex.specs.declared.words.Keyword.TheVariants as key
use Rattle.cat_pos.specs.declared.pos.Pos.{Pos}
use Rattle.cat_tree.specs.Literals.{span_bound}
use Rattle.cat_tree.specs.declared.expression.SurfaceLiteral.{SurfaceLiteral}
use Rattle.cat_tree.specs.declared.expression.SurfaceLiteral.TheVariants as literal
use Rattle.cat_tree.specs.declared.expression.Unit.{Unit as TimeUnit}
use Rattle.cat_tree.specs.declared.expression.Unit.TheVariants as unit
use Rattle.cat_tree.specs.declared.expression.Node.TheVariants as leaves
use Rattle.cat_parse_expr.specs.declared.measured.Measured.{Measured}
use Rattle.cat_parse_expr.specs.Measures.{leaf}
use Rattle.cat_parse_expr.specs.Reader.{Reader, ◌⨟◌, pure, one, by_word}

-- the literal that a token is
abbrev pub literal_kind : TokenKind → Option SurfaceLiteral
literal_kind (kind.Int n) = Some (literal.Int n)
literal_kind (kind.Dec d) = Some (literal.Dec d)
literal_kind (kind.Pct d) = Some (literal.Pct d)
literal_kind (kind.Money m) = Some (literal.Money m)
literal_kind (kind.Date d) = Some (literal.Date d)
literal_kind (kind.Word key.True) = Some (literal.Boolean true)
literal_kind (kind.Word key.False) = Some (literal.Boolean false)
literal_kind _ = None

-- a literal with its position
abbrev pub placed : Option SurfaceLiteral → Pos → Option (SurfaceLiteral × Pos)
placed None p = None
placed (Some l) p = Some (l, p)

-- the token as a literal with its position
abbrev pub literal_of : Token → Option (SurfaceLiteral × Pos)
literal_of t = placed (literal_kind t.kind) t.pos

-- the unit that a token is
abbrev pub unit_kind : TokenKind → Option TimeUnit
unit_kind (kind.Word key.Year) = Some unit.Year
unit_kind (kind.Word key.Month) = Some unit.Month
unit_kind (kind.Word key.Day) = Some unit.Day
unit_kind _ = None

-- whether a token is a unit
abbrev pub is_unit : TokenKind → Bool
is_unit (kind.Word key.Year) = true
is_unit (kind.Word key.Month) = true
is_unit (kind.Word key.Day) = true
is_unit _ = false

-- a number of years, months or days, within its bound
abbrev pub spanned : SurfaceLiteral → Reader SurfaceLiteral
spanned (literal.Int n) =
    if int_lt span_bound n then pure (literal.Int n) else by_word is_unit
    (one (λ t. unit_kind t.kind) ⨟ λ u. pure (literal.Span n u)) (pure (literal.Int n))
spanned l = pure l

-- n | n U
abbrev pub a_literal : Reader Measured
a_literal = one literal_of ⨟ λ x. spanned x.0 ⨟ λ l. pure (leaf (leaves.Literal l x.1))
