-- The reader of programs, over a reader of expressions.
use Rattle.std.specs.Prelude.{None, Bool, true, false, List, [], ◌∷◌}
use Rattle.cat_pos.specs.declared.pos.Pos.{Pos}
use Rattle.cat_lex.specs.declared.token.TokenKind.{TokenKind}
use Rattle.cat_lex.specs.declared.token.TokenKind.TheVariants as kind
use Rattle.cat_lex.specs.declared.words.Keyword.{Keyword}
use Rattle.cat_lex.specs.declared.words.Keyword.TheVariants as key
use Rattle.cat_lex.specs.declared.symbol.Symbol.TheVariants as symbol
use Rattle.cat_tree.specs.declared.name.Name.{Name}
use Rattle.cat_tree.specs.declared.expression.Node.{Node}
use Rattle.cat_tree.specs.declared.program.FieldItem.{FieldItem}
use Rattle.cat_tree.specs.declared.program.CaseItem.{CaseItem}
use Rattle.cat_tree.specs.declared.program.Variable.{Variable}
use Rattle.cat_tree.specs.declared.program.Block.{Block}
use Rattle.cat_tree.specs.declared.program.Item.{Item}
use Rattle.cat_tree.specs.declared.program.Item.TheVariants as item
use Rattle.cat_tree.specs.declared.program.Tree.{Tree}
use Rattle.cat_parse_expr.specs.declared.cue.Cue.TheVariants as cue
use Rattle.cat_parse_expr.specs.Reader.{Reader, Fails, Reads, ◌⨟◌, pure, by_word}
use Rattle.cat_parse.specs.Many.{optional, many, some}
use Rattle.cat_parse_expr.specs.Cues.{cue_is, «word», upper}
use Rattle.cat_parse.specs.Declarations.{key_word, is_word, field, a_case, a_variable}
use Rattle.cat_parse.specs.Uses.{is_use, is_item, a_use}
use Rattle.cat_parse.specs.Tails.{is_under, condition}

-- the words of a declaration around what it declares
abbrev pub named : {A : Type 0} → Keyword → Reader A → Reader (Name × A)
named k r = key_word k ⨟ λ p. upper ⨟ λ u. «word» (cue.Sign symbol.Colon) ⨟ λ q. r ⨟ λ x. pure (u, x)

-- the first words of variables
abbrev pub is_variable : TokenKind → Bool
is_variable (kind.Lower w) = true
is_variable (kind.Word key.Input) = true
is_variable (kind.Word key.Output) = true
is_variable (kind.Word key.Internal) = true
is_variable (kind.Word key.Context) = true
is_variable _ = false

-- whether a case follows
abbrev pub is_dashes : TokenKind → Bool
is_dashes = cue_is (cue.Sign symbol.MinusMinus)

-- a declaration behind its first word
pub data Declared : Type 0 where
  Structures : Name × List FieldItem → Declared
  Enumerations : Name × List CaseItem → Declared
  Scopes : Name × List Variable → Declared

-- a structure, an enumeration or a scope
abbrev pub declared : Reader Declared
declared =
    by_word (is_word key.Structure) (named key.Structure (some (is_word key.Data) field) ⨟ λ x. pure (Structures x))
    (by_word (is_word key.Enumeration) (named key.Enumeration (some is_dashes a_case) ⨟ λ x. pure (Enumerations x))
    (named key.Scope (many is_variable a_variable) ⨟ λ x. pure (Scopes x)))

-- a declaration with the position of its first word
abbrev pub item_of : Pos × Declared → Item
item_of (p, Structures x) = item.Structure p x.0 x.1
item_of (p, Enumerations x) = item.Enumeration p x.0 x.1
item_of (p, Scopes x) = item.Scope p x.0 x.1

-- declaration, and what is declared
abbrev pub declaration : Reader (Pos × Declared)
declaration = key_word key.Declaration ⨟ λ p. declared ⨟ λ x. pure (p, x)

-- scope U [under condition E] : use*
abbrev pub block : Reader Node → Reader Block
block ex =
    key_word key.Scope ⨟ λ p. upper ⨟ λ u. optional is_under (condition ex) ⨟ λ c. «word» (cue.Sign symbol.Colon)
    ⨟ λ q. many is_use (a_use ex) ⨟ λ us. pure (record { pos = p; name = u; condition = c; uses = us })

-- a declaration or a scope block
abbrev pub an_item : Reader Node → Reader Item
an_item ex =
    by_word (is_word key.Declaration) (declaration ⨟ λ x. pure (item_of x)) (block ex ⨟ λ b. pure (item.Block b))

-- declarations and scope blocks
abbrev pub items : Reader Node → Reader (List Item)
items ex = many is_item (an_item ex)

-- a program up to the end of the tokens
abbrev pub to_end : List Item → Reader Tree
to_end is [] = Reads (record { items = is }) []
to_end is (p ∷ ts) = Fails (p ∷ ts) false None

-- a program, from its first token to its last
abbrev pub program : Reader Node → Reader Tree
program ex = items ex ⨟ to_end
