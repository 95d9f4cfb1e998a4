-- The words of literals, of names of cases, and of types.
use Rattle.std.specs.Prelude.{ℕ, zero, suc, ℤ, pos, int_lt, Bool, true, false, not}
use Rattle.cat_pos.specs.declared.pos.Pos.{Pos}
use Rattle.cat_lex.specs.declared.token.TokenKind.{TokenKind}
use Rattle.cat_lex.specs.declared.token.TokenKind.TheVariants as kind
use Rattle.cat_lex.specs.declared.words.Keyword.{Keyword}
use Rattle.cat_lex.specs.declared.words.Keyword.TheVariants as key
use Rattle.cat_lex.specs.declared.words.DoubleKeyword.TheVariants as pair
use Rattle.cat_lex.specs.declared.symbol.Symbol.TheVariants as symbol
use Rattle.cat_tree.specs.declared.name.CaseName.{CaseName}
use Rattle.cat_tree.specs.declared.name.CaseName.TheVariants.{Bare, Qualified}
use Rattle.cat_tree.specs.declared.name.Base.{Base}
use Rattle.cat_tree.specs.declared.name.Base.TheVariants as base
use Rattle.cat_tree.specs.declared.name.Type as types
use Rattle.cat_tree.specs.declared.expression.Unit.{Unit as TimeUnit}
use Rattle.cat_tree.specs.declared.expression.Unit.TheVariants as unit
use Rattle.cat_tree.specs.declared.expression.SurfaceLiteral.{SurfaceLiteral}
use Rattle.cat_tree.specs.declared.expression.SurfaceLiteral.TheVariants as literal
use Rattle.cat_tree.specs.Phrase.{Parts, End, Rank}
use Rattle.cat_tree.specs.Wording.{◌▹◌, first, key_at, «word», words, sign, upper, of_level}

-- the word of a unit
abbrev pub unit_word : TimeUnit → Keyword
unit_word unit.Year = key.Year
unit_word unit.Month = key.Month
unit_word unit.Day = key.Day

-- the word of a truth value
abbrev pub truth_word : Bool → Keyword
truth_word true = key.True
truth_word false = key.False

-- how a literal is spelled
abbrev pub literal_parts : SurfaceLiteral → Pos → Parts
literal_parts (literal.Int n) p = first (kind.Int n) p ▹ End
literal_parts (literal.Dec d) p = first (kind.Dec d) p ▹ End
literal_parts (literal.Pct d) p = first (kind.Pct d) p ▹ End
literal_parts (literal.Money m) p = first (kind.Money m) p ▹ End
literal_parts (literal.Date d) p = first (kind.Date d) p ▹ End
literal_parts (literal.Boolean b) p = key_at (truth_word b) p ▹ End
literal_parts (literal.Span n u) p = first (kind.Int n) p ▹ «word» (unit_word u) ▹ End

-- the greatest number of years, months or days that a literal gives
abbrev pub span_bound : ℤ
span_bound = pos 999999999

-- a literal has the highest level; a duration fits within its bound
abbrev pub literal_rank : SurfaceLiteral → Rank
literal_rank (literal.Span n u) = record { level = 9; form = false; is_match = false; fits = not (int_lt span_bound n) }
literal_rank _ = of_level 9

-- how a case is named, then the rest
abbrev pub case_parts : CaseName → Parts → Parts
case_parts (Bare c) rest = upper c ▹ rest
case_parts (Qualified e c) rest = upper e ▹ sign symbol.Dot ▹ upper c ▹ rest

-- the token of a type without `list of`
abbrev pub base_kind : Base → TokenKind
base_kind base.Boolean = kind.Word key.Boolean
base_kind base.Integer = kind.Word key.Integer
base_kind base.Decimal = kind.Word key.Decimal
base_kind base.Money = kind.Word key.Money
base_kind base.Date = kind.Word key.Date
base_kind base.Duration = kind.Word key.Duration
base_kind (base.Named u) = kind.Upper u

-- so many `list of`, then the rest
abbrev pub lists_of : ℕ → Parts → Parts
lists_of zero rest = rest
lists_of (suc n) rest = words pair.ListOf ▹ lists_of n rest

-- how a type is spelled, then the rest
abbrev pub type_parts : types.Type → Parts → Parts
type_parts t rest = lists_of t.lists (first (base_kind t.base) t.pos ▹ rest)
