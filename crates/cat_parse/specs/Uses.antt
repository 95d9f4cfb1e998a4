-- The readers of what a scope block holds, over a reader of expressions.
use Rattle.std.specs.Prelude.{Bool, true, false}
use Rattle.cat_pos.specs.declared.pos.Pos.{Pos}
use Rattle.cat_lex.specs.declared.token.TokenKind.{TokenKind}
use Rattle.cat_lex.specs.declared.token.TokenKind.TheVariants as kind
use Rattle.cat_lex.specs.declared.words.Keyword.TheVariants as key
use Rattle.cat_lex.specs.declared.words.DoubleKeyword.TheVariants as pair
use Rattle.cat_lex.specs.declared.symbol.Symbol.TheVariants as symbol
use Rattle.cat_tree.specs.declared.expression.Node.{Node}
use Rattle.cat_tree.specs.declared.program.Use.{Use}
use Rattle.cat_tree.specs.declared.program.Use.TheVariants as uses
use Rattle.cat_parse_expr.specs.declared.cue.Cue.TheVariants as cue
use Rattle.cat_parse_expr.specs.Reader.{Reader, ◌⨟◌, pure, by_word}
use Rattle.cat_parse.specs.Many.{both}
use Rattle.cat_parse_expr.specs.Cues.{cue_is, «word»}
use Rattle.cat_parse.specs.Declarations.{key_word, is_word}
use Rattle.cat_parse.specs.Leads.{lead}
use Rattle.cat_parse.specs.Tails.{tail, use_of}

-- ---- what may follow

-- the first words of what a scope block holds
abbrev pub is_use : TokenKind → Bool
is_use (kind.Word key.Label) = true
is_use (kind.Word key.Exception) = true
is_use (kind.Word key.Definition) = true
is_use (kind.Word key.Rule) = true
is_use (kind.Word key.Assertion) = true
is_use (kind.Pair pair.DateRound) = true
is_use _ = false

-- the first words of declarations and scope blocks
abbrev pub is_item : TokenKind → Bool
is_item (kind.Word key.Declaration) = true
is_item (kind.Word key.Scope) = true
is_item _ = false

-- what may follow a line of a scope block
abbrev pub behind_use : TokenKind → Bool
behind_use (kind.Word key.Label) = true
behind_use (kind.Word key.Exception) = true
behind_use (kind.Word key.Definition) = true
behind_use (kind.Word key.Rule) = true
behind_use (kind.Word key.Assertion) = true
behind_use (kind.Pair pair.DateRound) = true
behind_use (kind.Word key.Declaration) = true
behind_use (kind.Word key.Scope) = true
behind_use _ = false

-- what may follow an expression in a program
abbrev pub behind_expression : TokenKind → Bool
behind_expression (kind.Symbol symbol.Colon) = true
behind_expression (kind.Word key.Consequence) = true
behind_expression k = behind_use k

-- ---- a line of a scope block

-- assertion E
abbrev pub asserted : Reader Node → Reader (Pos × Node)
asserted ex = key_word key.Assertion ⨟ λ p. ex ⨟ λ e. pure (p, e)

-- increasing, or decreasing
abbrev pub direction : Reader Bool
direction =
    by_word (is_word key.Increasing) (key_word key.Increasing ⨟ λ q. pure true)
    (key_word key.Decreasing ⨟ λ q. pure false)

-- whether a rounding follows
abbrev pub is_rounding : TokenKind → Bool
is_rounding = cue_is (cue.Pair pair.DateRound)

-- date round increasing
abbrev pub rounded : Reader (Pos × Bool)
rounded = «word» (cue.Pair pair.DateRound) ⨟ λ p. direction ⨟ λ up. pure (p, up)

-- a line of a scope block
abbrev pub a_use : Reader Node → Reader Use
a_use ex = by_word (is_word key.Assertion) (asserted ex ⨟ λ x. pure (uses.Assertion x.0 x.1))
    (by_word is_rounding (rounded ⨟ λ x. pure (uses.DateRound x.0 x.1)) (both lead (tail ex) ⨟ λ x. pure (use_of x)))
