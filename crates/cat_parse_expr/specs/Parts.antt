-- The readers of the parts of forms: elements, fields and arguments.
use Rattle.std.specs.Prelude.{ℕ, Bool, true, false, List, length}
use Rattle.cat_lex.specs.declared.token.Token.{Token}
use Rattle.cat_lex.specs.declared.token.TokenKind.{TokenKind}
use Rattle.cat_lex.specs.declared.token.TokenKind.TheVariants as kind
use Rattle.cat_lex.specs.declared.words.Keyword.{Keyword}
use Rattle.cat_lex.specs.declared.words.DoubleKeyword.{DoubleKeyword}
use Rattle.cat_lex.specs.declared.symbol.Symbol.{Symbol}
use Rattle.cat_lex.specs.declared.symbol.Symbol.TheVariants as symbol
use Rattle.cat_pos.specs.declared.pos.Pos.{Pos}
use Rattle.cat_parse_expr.specs.declared.cue.Cue.TheVariants as cue
use Rattle.cat_parse_expr.specs.declared.behind.Behind.{Behind}
use Rattle.cat_parse_expr.specs.declared.behind.Behind.TheVariants.{Other, Field}
use Rattle.cat_parse_expr.specs.declared.measured.Measured.{Measured}
use Rattle.cat_parse_expr.specs.declared.measured.MeasuredNodes.{MeasuredNodes}
use Rattle.cat_parse_expr.specs.declared.measured.MeasuredFields.{MeasuredFields}
use Rattle.cat_parse_expr.specs.Measures.{with_element, with_field, no_elements}
use Rattle.cat_parse_expr.specs.Reader.{Reader, ◌⨟◌, pure, by_word, turns, heads, hidden, behind_whole}
use Rattle.cat_parse_expr.specs.Cues.{cue_is, «word», lower}

-- a reader of parts, by what may follow one and by its level
abbrev pub Lower : Type 0
Lower = Behind → ℕ → Reader Measured

-- ---- words

-- a keyword
abbrev pub key_word : Keyword → Reader Pos
key_word k = «word» (cue.Word k)

-- two words
abbrev pub pair_word : DoubleKeyword → Reader Pos
pair_word d = «word» (cue.Pair d)

-- a symbol
abbrev pub sign : Symbol → Reader Pos
sign s = «word» (cue.Sign s)

-- whether a token is that symbol
abbrev pub is_sign : Symbol → TokenKind → Bool
is_sign s = cue_is (cue.Sign s)

-- whether a token is a name
abbrev pub is_lower : TokenKind → Bool
is_lower (kind.Lower w) = true
is_lower k = false

-- as many turns as there are tokens
abbrev pub as_many : {A : Type 0} → (A → List Token → Bool) → (A → Reader A) → A → Reader A
as_many goes turn x ts = turns goes turn (length ts) x ts

-- ---- parts that words follow

-- a part that a word follows, at any level
abbrev pub inner : Lower → Reader Measured
inner ex = hidden (ex Other 0)

-- ; E
abbrev pub next_element : Lower → MeasuredNodes → Reader MeasuredNodes
next_element ex l = sign symbol.Semicolon ⨟ λ p. inner ex ⨟ λ e. pure (with_element l e)

-- whether an element follows
abbrev pub has_element : MeasuredNodes → List Token → Bool
has_element l ts = heads (is_sign symbol.Semicolon) ts

-- [E [; E]*]
abbrev pub elements : Lower → Reader MeasuredNodes
elements ex =
    by_word (is_sign symbol.RightBracket) (pure no_elements)
    (inner ex ⨟ λ e. as_many has_element (next_element ex) (with_element no_elements e))

-- the value of a field
abbrev pub field_value : Lower → Reader Measured
field_value ex = hidden (ex Field 0)

-- -- w : E
abbrev pub next_field : Lower → MeasuredFields → Reader MeasuredFields
next_field ex l =
    sign symbol.MinusMinus ⨟ λ p. lower ⨟ λ w. sign symbol.Colon ⨟ λ q. field_value ex ⨟ λ e. pure (with_field l w e)

-- whether a field follows
abbrev pub has_field : MeasuredFields → List Token → Bool
has_field l ts = heads (is_sign symbol.MinusMinus) ts

-- [-- w : E]*
abbrev pub fields : Lower → MeasuredFields → Reader MeasuredFields
fields ex = as_many has_field (next_field ex)

-- ---- parts that end a form

-- , E
abbrev pub behind_comma : Lower → MeasuredNodes → Reader MeasuredNodes
behind_comma ex l = sign symbol.Comma ⨟ λ p. ex Other 9 ⨟ λ e. pure (with_element l e)

-- the same behind a call that is whole
abbrev pub next_argument : Lower → MeasuredNodes → Reader MeasuredNodes
next_argument ex l = behind_whole (behind_comma ex l)

-- whether an argument follows
abbrev pub has_argument : MeasuredNodes → List Token → Bool
has_argument l ts = heads (is_sign symbol.Comma) ts

-- E [, E]*
abbrev pub arguments : Lower → Reader MeasuredNodes
arguments ex = ex Other 9 ⨟ λ e. as_many has_argument (next_argument ex) (with_element no_elements e)
