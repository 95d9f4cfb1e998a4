-- The readers of fields, cases and variables.
use Rattle.std.specs.Prelude.{Bool, true, false, List, [], ◌∷◌, Option, Some, None}
use Rattle.cat_pos.specs.declared.pos.Pos.{Pos}
use Rattle.cat_lex.specs.declared.token.TokenKind.{TokenKind}
use Rattle.cat_lex.specs.declared.token.TokenKind.TheVariants as kind
use Rattle.cat_lex.specs.declared.words.Keyword.{Keyword}
use Rattle.cat_lex.specs.declared.words.Keyword.TheVariants as key
use Rattle.cat_lex.specs.declared.words.DoubleKeyword.TheVariants as pair
use Rattle.cat_lex.specs.declared.symbol.Symbol.TheVariants as symbol
use Rattle.cat_tree.specs.declared.name.Name.{Name}
use Rattle.cat_tree.specs.declared.name.Type as types
use Rattle.cat_tree.specs.declared.program.FieldItem.{FieldItem}
use Rattle.cat_tree.specs.declared.program.CaseItem.{CaseItem}
use Rattle.cat_tree.specs.declared.program.VariableKind.{VariableKind}
use Rattle.cat_tree.specs.declared.program.VariableKind.TheVariants.{Input, InputOutput, Output, Internal, Context}
use Rattle.cat_tree.specs.declared.program.VariableKind.TheVariants.{ContextOutput}
use Rattle.cat_tree.specs.declared.program.Variable.{Variable}
use Rattle.cat_tree.specs.declared.program.Variable.TheVariants as variable
use Rattle.cat_parse_expr.specs.declared.cue.Cue.{Cue}
use Rattle.cat_parse_expr.specs.declared.cue.Cue.TheVariants as cue
use Rattle.cat_parse_expr.specs.Reader.{Reader, ◌⨟◌, pure, by_word}
use Rattle.cat_parse.specs.Many.{both, optional, many}
use Rattle.cat_parse_expr.specs.Cues.{cue_is, «word», lower, upper}
use Rattle.cat_parse_expr.specs.Types.{a_type}

-- a keyword, a double keyword, a symbol
abbrev pub key_word : Keyword → Reader Pos
key_word k = «word» (cue.Word k)

-- w content T
abbrev pub typed_name : Reader FieldItem
typed_name = lower ⨟ λ w. key_word key.Content ⨟ λ p. a_type ⨟ λ t. pure (record { name = w; ty = t })

-- data w content T
abbrev pub field : Reader FieldItem
field = key_word key.Data ⨟ λ p. typed_name

-- content T
abbrev pub content : Reader types.Type
content = key_word key.Content ⨟ λ p. a_type

-- whether a content follows
abbrev pub is_content : TokenKind → Bool
is_content k = cue_is (cue.Word key.Content) k

-- -- U [content T]
abbrev pub a_case : Reader CaseItem
a_case =
    «word» (cue.Sign symbol.MinusMinus) ⨟ λ p. upper ⨟ λ u. optional is_content content
    ⨟ λ t. pure (record { name = u; content = t })

-- ---- lists with commas

-- whether another member of a list follows
abbrev pub is_comma : TokenKind → Bool
is_comma k = cue_is (cue.Sign symbol.Comma) k

-- a member of a list behind another one
abbrev pub comma : {A : Type 0} → Reader A → Reader A
comma r = «word» (cue.Sign symbol.Comma) ⨟ λ p. r

-- one, and each other one behind a comma
abbrev pub listed : {A : Type 0} → Reader A → Reader (List A)
listed r = both r (many is_comma (comma r)) ⨟ λ x. pure (x.0 ∷ x.1)

-- such a list behind a word, where it is there
abbrev pub led : {A : Type 0} → Cue → Reader A → Reader (List A)
led c r = by_word (cue_is c) («word» c ⨟ λ p. listed r) (pure [])

-- ---- variables

-- whether a token is that keyword
abbrev pub is_word : Keyword → TokenKind → Bool
is_word k = cue_is (cue.Word k)

-- a kind of one word, or of two
abbrev pub kind_or : Keyword → VariableKind → VariableKind → Reader (VariableKind × Pos)
kind_or k alone with_output =
    key_word k ⨟ λ p. by_word (is_word key.Output) (key_word key.Output ⨟ λ q. pure (with_output, p)) (pure (alone, p))

-- a kind of one word
abbrev pub kind_of_one : Keyword → VariableKind → Reader (VariableKind × Pos)
kind_of_one k alone = key_word k ⨟ λ p. pure (alone, p)

-- input [output], output, internal, or context [output]
abbrev pub a_kind : Reader (VariableKind × Pos)
a_kind = by_word (is_word key.Input) (kind_or key.Input Input InputOutput)
    (by_word (is_word key.Output) (kind_of_one key.Output Output)
    (by_word (is_word key.Internal) (kind_of_one key.Internal Internal) (kind_or key.Context Context ContextOutput)))

-- content T, or condition
abbrev pub variable_type : Reader (Option types.Type)
variable_type = by_word is_content (content ⨟ λ t. pure (Some t)) (key_word key.Condition ⨟ λ p. pure None)

-- [depends on w content T, w content T]
abbrev pub params : Reader (List FieldItem)
params = led (cue.Pair pair.DependsOn) typed_name

-- whether a token is a name
abbrev pub is_lower : TokenKind → Bool
is_lower (kind.Lower w) = true
is_lower _ = false

-- w scope U
abbrev pub called : Reader (Name × Name)
called = lower ⨟ λ w. key_word key.Scope ⨟ λ p. upper ⨟ λ u. pure (w, u)

-- a kind, a name, what it is, and its parameters
abbrev pub own : Reader ((VariableKind × Pos) × Name × Option types.Type × List FieldItem)
own = a_kind ⨟ λ k. lower ⨟ λ w. variable_type ⨟ λ t. params ⨟ λ ps. pure (k, w, t, ps)

-- a variable of the scope, or one for a scope that is called
abbrev pub a_variable : Reader Variable
a_variable =
    by_word is_lower (called ⨟ λ x. pure (variable.Called x.0 x.1))
    (own ⨟ λ x. pure (variable.Own x.0.0 x.0.1 x.1 x.2 x.3))
