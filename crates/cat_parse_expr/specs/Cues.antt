-- Words that are spelled in one way, and names.
use Rattle.std.specs.Prelude.{Bool, false, if◌then◌else◌, Option, Some, None}
use denote.Enum.Bare.{sameb}
use Rattle.cat_pos.specs.declared.pos.Pos.{Pos}
use Rattle.cat_lex.specs.contracts.words.Keyword.{the_type as keywords}
use Rattle.cat_lex.specs.contracts.words.DoubleKeyword.{the_type as pairs}
use Rattle.cat_lex.specs.contracts.symbol.Symbol.{the_type as symbols}
use Rattle.cat_lex.specs.declared.token.Token.{Token}
use Rattle.cat_lex.specs.declared.token.TokenKind.{TokenKind}
use Rattle.cat_lex.specs.declared.token.TokenKind.TheVariants as kind
use Rattle.cat_lex.specs.declared.words.Keyword.TheVariants as key
use Rattle.cat_tree.specs.declared.name.Name.{Name}
use Rattle.cat_tree.specs.declared.name.Base.{Base}
use Rattle.cat_tree.specs.declared.name.Base.TheVariants as base
use Rattle.cat_parse_expr.specs.declared.cue.Cue.{Cue}
use Rattle.cat_parse_expr.specs.declared.cue.Cue.TheVariants as cue
use Rattle.cat_parse_expr.specs.Reader.{Reader, one}

-- the token that a cue asks for
abbrev pub kind_of : Cue → TokenKind
kind_of (cue.Word w) = kind.Word w
kind_of (cue.Pair w) = kind.Pair w
kind_of (cue.Sign w) = kind.Symbol w

-- whether a token is that word
abbrev pub cue_is : Cue → TokenKind → Bool
cue_is (cue.Word w) (kind.Word k) = sameb keywords k w
cue_is (cue.Pair w) (kind.Pair k) = sameb pairs k w
cue_is (cue.Sign w) (kind.Symbol k) = sameb symbols k w
cue_is _ _ = false

-- the position of that word
abbrev pub word_of : Cue → Token → Option Pos
word_of c t = if cue_is c t.kind then Some t.pos else None

-- a name
abbrev pub lower_kind : TokenKind → Pos → Option Name
lower_kind (kind.Lower w) p = Some (record { text = w; pos = p })
lower_kind _ p = None

-- the word of a type, a case or a scope
abbrev pub upper_kind : TokenKind → Pos → Option Name
upper_kind (kind.Upper w) p = Some (record { text = w; pos = p })
upper_kind _ p = None

-- the token as a name
abbrev pub lower_of : Token → Option Name
lower_of t = lower_kind t.kind t.pos

-- the token as the word of a type, a case or a scope
abbrev pub upper_of : Token → Option Name
upper_of t = upper_kind t.kind t.pos

-- what a type is once each `list of` before it is taken off
abbrev pub base_of : TokenKind → Option Base
base_of (kind.Word key.Boolean) = Some base.Boolean
base_of (kind.Word key.Integer) = Some base.Integer
base_of (kind.Word key.Decimal) = Some base.Decimal
base_of (kind.Word key.Money) = Some base.Money
base_of (kind.Word key.Date) = Some base.Date
base_of (kind.Word key.Duration) = Some base.Duration
base_of (kind.Upper u) = Some (base.Named u)
base_of _ = None

-- the readers of one word
abbrev pub «word» : Cue → Reader Pos
«word» c = one (word_of c)

-- a name
abbrev pub lower : Reader Name
lower = one lower_of

-- the word of a type, a case or a scope
abbrev pub upper : Reader Name
upper = one upper_of

-- any word, for its position
abbrev pub any_pos : Reader Pos
any_pos = one (λ t. Some t.pos)
