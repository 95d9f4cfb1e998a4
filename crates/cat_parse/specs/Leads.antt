-- The readers of what stands before a definition's expressions.
use Rattle.std.specs.Prelude.{Bool, List, Option, Some, None}
use Rattle.cat_pos.specs.declared.pos.Pos.{Pos}
use Rattle.cat_lex.specs.declared.token.TokenKind.{TokenKind}
use Rattle.cat_lex.specs.declared.words.Keyword.TheVariants as key
use Rattle.cat_lex.specs.declared.symbol.Symbol.TheVariants as symbol
use Rattle.cat_tree.specs.declared.name.Name.{Name}
use Rattle.cat_tree.specs.declared.program.SurfaceLabel.{SurfaceLabel}
use Rattle.cat_tree.specs.declared.program.Exception.{Exception}
use Rattle.cat_tree.specs.declared.program.Exception.TheVariants as exception
use Rattle.cat_tree.specs.declared.program.Lead.{Lead}
use Rattle.cat_tree.specs.declared.program.TargetName.{TargetName}
use Rattle.cat_parse_expr.specs.declared.cue.Cue.TheVariants as cue
use Rattle.cat_parse_expr.specs.Reader.{Reader, ◌⨟◌, pure}
use Rattle.cat_parse.specs.Many.{optional}
use Rattle.cat_parse_expr.specs.Cues.{cue_is, «word», lower}
use Rattle.cat_parse.specs.Declarations.{key_word, is_word, is_lower, led}

-- label w
abbrev pub label : Reader SurfaceLabel
label = key_word key.Label ⨟ λ p. lower ⨟ λ w. pure (record { pos = p; name = w })

-- exception [w]
abbrev pub exception_at : Reader (Pos × Option Name)
exception_at = key_word key.Exception ⨟ λ p. optional is_lower lower ⨟ λ w. pure (p, w)

-- what the words of an exception say, where they are there
abbrev pub exception_of : Option (Pos × Option Name) → Exception
exception_of None = exception.No
exception_of (Some (p, None)) = exception.OnlyRoot p
exception_of (Some (p, Some w)) = exception.Labelled p w

-- [exception [w]]
abbrev pub an_exception : Reader Exception
an_exception = optional (is_word key.Exception) exception_at ⨟ λ o. pure (exception_of o)

-- [label w] [exception [w]]
abbrev pub lead : Reader Lead
lead = optional (is_word key.Label) label ⨟ λ l. an_exception ⨟ λ e. pure (record { label = l; exception = e })

-- whether the variable of a called scope follows
abbrev pub is_dot : TokenKind → Bool
is_dot = cue_is (cue.Sign symbol.Dot)

-- . w
abbrev pub inner : Reader Name
inner = «word» (cue.Sign symbol.Dot) ⨟ λ p. lower

-- [of w, w]
abbrev pub names : Reader (List Name)
names = led (cue.Word key.Of) lower

-- w [. w] [of w, w]
abbrev pub target : Reader TargetName
target = lower ⨟ λ w. optional is_dot inner ⨟ λ i. names ⨟ λ ps. pure (record { name = w; inner = i; params = ps })
