-- How the words and parts of a row are written, and the ranks of rows.
use Rattle.std.specs.Prelude.{ℕ, true, false, List, [], ◌∷◌}
use Rattle.cat_pos.specs.declared.pos.Pos.{Pos}
use Rattle.cat_lex.specs.declared.token.TokenKind.{TokenKind}
use Rattle.cat_lex.specs.declared.token.TokenKind.TheVariants as kind
use Rattle.cat_lex.specs.declared.words.Keyword.{Keyword}
use Rattle.cat_lex.specs.declared.words.DoubleKeyword.{DoubleKeyword}
use Rattle.cat_lex.specs.declared.symbol.Symbol.{Symbol}
use Rattle.cat_tree.specs.declared.name.Name.{Name}
use Rattle.cat_tree.specs.Phrase.{Phrase, Parts, Word, Part, At, Anywhere, Operand, Left, Rank}

-- words and parts, then the rest of a row
infixr 20 ◌▹◌
abbrev pub ◌▹◌ : (Parts → Parts) → Parts → Parts
f ▹ rest = f rest

-- a token of that kind, whose position the tree keeps
abbrev pub first : TokenKind → Pos → Parts → Parts
first k p = Word (At k p)

-- a token of that kind, wherever it stands
abbrev pub then_ : TokenKind → Parts → Parts
then_ k = Word (Anywhere k)

-- a keyword, with its position
abbrev pub key_at : Keyword → Pos → Parts → Parts
key_at k = first (kind.Word k)

-- a double keyword, with its position
abbrev pub pair_at : DoubleKeyword → Pos → Parts → Parts
pair_at d = first (kind.Pair d)

-- a symbol, with its position
abbrev pub symbol_at : Symbol → Pos → Parts → Parts
symbol_at s = first (kind.Symbol s)

-- a keyword, wherever it stands
abbrev pub «word» : Keyword → Parts → Parts
«word» k = then_ (kind.Word k)

-- a double keyword, wherever it stands
abbrev pub words : DoubleKeyword → Parts → Parts
words d = then_ (kind.Pair d)

-- a symbol, wherever it stands
abbrev pub sign : Symbol → Parts → Parts
sign s = then_ (kind.Symbol s)

-- a name's word
abbrev pub lower : Name → Parts → Parts
lower n = first (kind.Lower n.text) n.pos

-- the word of a type, a case or a scope
abbrev pub upper : Name → Parts → Parts
upper n = first (kind.Upper n.text) n.pos

-- a part at that level, or at a higher one
abbrev pub part : ℕ → Phrase → Parts → Parts
part k = Part (Operand k)

-- a left operand at that level, or at a higher one
abbrev pub left : ℕ → Phrase → Parts → Parts
left k = Part (Left k)

-- an expression of that level that is no form
abbrev pub of_level : ℕ → Rank
of_level k = record { level = k; form = false; is_match = false; fits = true }

-- As a right operand, and as an operand of a prefix, a form may stand; nothing of level 9 is asked for there.
abbrev pub form : Rank
form = record { level = 8; form = true; is_match = false; fits = true }

-- an expression of that level that is no form, and that has at least one of these
abbrev pub if_some : {A : Type 0} → ℕ → List A → Rank
if_some k [] = record { level = k; form = false; is_match = false; fits = false }
if_some k (x ∷ xs) = of_level k

-- a match, which has at least one arm
abbrev pub match_of : {A : Type 0} → List A → Rank
match_of [] = record { level = 8; form = true; is_match = true; fits = false }
match_of (x ∷ xs) = record { level = 8; form = true; is_match = true; fits = true }
