-- The words and levels of prefixes and operators.
use Rattle.std.specs.Prelude.{ℕ}
use Rattle.cat_pos.specs.declared.pos.Pos.{Pos}
use Rattle.cat_lex.specs.declared.token.TokenKind.{TokenKind}
use Rattle.cat_lex.specs.declared.token.TokenKind.TheVariants as kind
use Rattle.cat_lex.specs.declared.words.Keyword.TheVariants as key
use Rattle.cat_lex.specs.declared.words.DoubleKeyword.TheVariants as pair
use Rattle.cat_lex.specs.declared.symbol.Symbol.TheVariants as symbol
use Rattle.cat_tree.specs.declared.expression.Prefix.{Prefix}
use Rattle.cat_tree.specs.declared.expression.Prefix.TheVariants as prefix
use Rattle.cat_tree.specs.declared.expression.Operator.{Operator}
use Rattle.cat_tree.specs.declared.expression.Operator.TheVariants as op
use Rattle.cat_tree.specs.Phrase.{Parts}
use Rattle.cat_tree.specs.Wording.{◌▹◌, key_at, pair_at, symbol_at, «word»}

-- how a prefix is spelled, then the rest
abbrev pub prefix_parts : Prefix → Pos → Parts → Parts
prefix_parts prefix.Not p rest = key_at key.Not p ▹ rest
prefix_parts prefix.Negate p rest = symbol_at symbol.Minus p ▹ rest
prefix_parts prefix.IntegerOf p rest = key_at key.Integer p ▹ «word» key.Of ▹ rest
prefix_parts prefix.DecimalOf p rest = key_at key.Decimal p ▹ «word» key.Of ▹ rest
prefix_parts prefix.MoneyOf p rest = key_at key.Money p ▹ «word» key.Of ▹ rest
prefix_parts prefix.RoundOf p rest = pair_at pair.RoundOf p ▹ rest
prefix_parts prefix.GetYear p rest = key_at key.GetYear p ▹ «word» key.Of ▹ rest
prefix_parts prefix.GetMonth p rest = key_at key.GetMonth p ▹ «word» key.Of ▹ rest
prefix_parts prefix.GetDay p rest = key_at key.GetDay p ▹ «word» key.Of ▹ rest
prefix_parts prefix.NumberOf p rest = pair_at pair.NumberOf p ▹ rest

-- the level of a prefix, and of its operand
abbrev pub prefix_level : Prefix → ℕ
prefix_level prefix.Not = 3
prefix_level prefix.Negate = 7
prefix_level _ = 8

-- the token of an operator
abbrev pub operator_kind : Operator → TokenKind
operator_kind op.Or = kind.Word key.Or
operator_kind op.Xor = kind.Word key.Xor
operator_kind op.And = kind.Word key.And
operator_kind op.Less = kind.Symbol symbol.Less
operator_kind op.LessEqual = kind.Symbol symbol.LessEqual
operator_kind op.Greater = kind.Symbol symbol.Greater
operator_kind op.GreaterEqual = kind.Symbol symbol.GreaterEqual
operator_kind op.Equal = kind.Symbol symbol.Equal
operator_kind op.NotEqual = kind.Symbol symbol.NotEqual
operator_kind op.Contains = kind.Word key.Contains
operator_kind op.Plus = kind.Symbol symbol.Plus
operator_kind op.Minus = kind.Symbol symbol.Minus
operator_kind op.Times = kind.Symbol symbol.Star
operator_kind op.Divide = kind.Symbol symbol.Slash

-- the level of an operator
abbrev pub operator_level : Operator → ℕ
operator_level op.Or = 1
operator_level op.Xor = 1
operator_level op.And = 2
operator_level op.Plus = 5
operator_level op.Minus = 5
operator_level op.Times = 6
operator_level op.Divide = 6
operator_level _ = 4

-- What stands left of an operator has its level or more; a comparison isn't compared again.
abbrev pub left_level : Operator → ℕ
left_level op.Or = 1
left_level op.Xor = 1
left_level op.And = 2
left_level op.Times = 6
left_level op.Divide = 6
left_level _ = 5
