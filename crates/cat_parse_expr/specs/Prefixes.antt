-- The readers of prefixes and sums, over a reader of parts that are one lower.
use Rattle.std.specs.Prelude.{ℕ}
use Rattle.cat_lex.specs.declared.words.Keyword.{Keyword}
use Rattle.cat_lex.specs.declared.words.Keyword.TheVariants as key
use Rattle.cat_lex.specs.declared.words.DoubleKeyword.TheVariants as pair
use Rattle.cat_lex.specs.declared.symbol.Symbol.TheVariants as symbol
use Rattle.cat_pos.specs.declared.pos.Pos.{Pos}
use Rattle.cat_tree.specs.Operators.{prefix_level}
use Rattle.cat_tree.specs.declared.expression.Prefix.{Prefix}
use Rattle.cat_tree.specs.declared.expression.Prefix.TheVariants as prefix
use Rattle.cat_tree.specs.declared.expression.Node.TheViews as node
use Rattle.cat_parse_expr.specs.declared.cue.Cue.{Cue}
use Rattle.cat_parse_expr.specs.declared.cue.Cue.TheVariants as cue
use Rattle.cat_parse_expr.specs.declared.behind.Behind.{Behind}
use Rattle.cat_parse_expr.specs.declared.measured.Measured.{Measured}
use Rattle.cat_parse_expr.specs.Measures.{ending}
use Rattle.cat_parse_expr.specs.Reader.{Reader, ◌⨟◌, pure, with_room}
use Rattle.cat_parse_expr.specs.Cues.{«word»}
use Rattle.cat_parse_expr.specs.Types.{a_type}
use Rattle.cat_parse_expr.specs.Parts.{Lower, key_word}

module _ (ex : Lower) (room : ℕ) where
  -- a word that a part follows
  abbrev pub opened : Cue → Reader Pos
  opened c = with_room room («word» c)

  -- T of
  abbrev pub word_of : Keyword → Reader Pos
  word_of k = key_word k ⨟ λ p. opened (cue.Word key.Of) ⨟ λ q. pure p

  -- the words of a prefix
  abbrev pub prefix_words : Prefix → Reader Pos
  prefix_words prefix.Not = opened (cue.Word key.Not)
  prefix_words prefix.Negate = opened (cue.Sign symbol.Minus)
  prefix_words prefix.IntegerOf = word_of key.Integer
  prefix_words prefix.DecimalOf = word_of key.Decimal
  prefix_words prefix.MoneyOf = word_of key.Money
  prefix_words prefix.RoundOf = opened (cue.Pair pair.RoundOf)
  prefix_words prefix.GetYear = word_of key.GetYear
  prefix_words prefix.GetMonth = word_of key.GetMonth
  prefix_words prefix.GetDay = word_of key.GetDay
  prefix_words prefix.NumberOf = opened (cue.Pair pair.NumberOf)

  -- the words of a prefix, and E
  abbrev pub prefixed : Behind → Prefix → Reader Measured
  prefixed b o =
      prefix_words o ⨟ λ p. ex b (prefix_level o)
      ⨟ λ e. pure (ending (prefix_level o) e.height e.strength e.in_match (node.Prefixed o p e.node))

  -- sum T of E
  abbrev pub sum : Behind → Reader Measured
  sum b =
      key_word key.Sum ⨟ λ p. a_type ⨟ λ t. key_word key.Of ⨟ λ q. ex b 8
      ⨟ λ e. pure (ending 8 e.height e.strength e.in_match (node.Sum p t e.node))
