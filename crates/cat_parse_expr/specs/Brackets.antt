-- The readers of parentheses, lists and scope calls, over a reader of parts that are one lower.
use Rattle.std.specs.Prelude.{ℕ}
use Rattle.cat_lex.specs.declared.words.Keyword.TheVariants as key
use Rattle.cat_lex.specs.declared.words.DoubleKeyword.TheVariants as pair
use Rattle.cat_lex.specs.declared.symbol.Symbol.TheVariants as symbol
use Rattle.cat_pos.specs.declared.pos.Pos.{Pos}
use Rattle.cat_tree.specs.declared.name.Name.{Name}
use Rattle.cat_tree.specs.declared.expression.Node.TheViews as node
use Rattle.cat_parse_expr.specs.declared.measured.Measured.{Measured}
use Rattle.cat_parse_expr.specs.Measures.{closed, no_fields}
use Rattle.cat_parse_expr.specs.Reader.{Reader, ◌⨟◌, pure, with_room}
use Rattle.cat_parse_expr.specs.Cues.{lower, upper}
use Rattle.cat_parse_expr.specs.Parts.{Lower, key_word, pair_word, sign, inner, elements, fields}

-- output of U with {
abbrev pub callee : Reader (Pos × Name)
callee =
    pair_word pair.OutputOf ⨟ λ p. upper ⨟ λ u. key_word key.With ⨟ λ q. sign symbol.LeftBrace ⨟ λ r. pure (p, u)

-- } . w
abbrev pub output : Reader Name
output = sign symbol.RightBrace ⨟ λ p. sign symbol.Dot ⨟ λ q. lower

module _ (ex : Lower) (room : ℕ) where
  -- ( E )
  abbrev pub parens : Reader Measured
  parens =
      with_room room (sign symbol.LeftParen) ⨟ λ p. inner ex ⨟ λ e. sign symbol.RightParen
      ⨟ λ q. pure (closed 9 e.height (node.Parens p e.node))

  -- [ E ; E ]
  abbrev pub list : Reader Measured
  list =
      sign symbol.LeftBracket ⨟ λ p. elements ex ⨟ λ l. sign symbol.RightBracket
      ⨟ λ q. pure (closed 9 l.tallest (node.List p l.nodes))

  -- output of U with { [-- w : E]* } . w
  abbrev pub scope_call : Reader Measured
  scope_call =
      callee ⨟ λ c. fields ex no_fields ⨟ λ l. output
      ⨟ λ w. pure (closed 9 l.tallest (node.ScopeCall c.0 c.1 l.values w))
