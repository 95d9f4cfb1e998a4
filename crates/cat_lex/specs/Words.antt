-- The words and symbols that are tokens of their own, each with its spelling.
use Rattle.std.specs.Prelude.{ℕ, ◌&&◌, if◌then◌else◌, List, [], ◌∷◌, Option, Some, None, codes, bytes_eq}
use Rattle.cat_lex.specs.declared.words.Keyword.{Keyword}
use Rattle.cat_lex.specs.declared.words.Keyword.TheVariants as word
use Rattle.cat_lex.specs.declared.words.DoubleKeyword.{DoubleKeyword}
use Rattle.cat_lex.specs.declared.words.DoubleKeyword.TheVariants as pair
use Rattle.cat_lex.specs.declared.symbol.Symbol.{Symbol}
use Rattle.cat_lex.specs.declared.symbol.Symbol.TheVariants as symbol

-- what the list has for this spelling
abbrev pub look_up : {K : Type 0} → List (List ℕ × K) → List ℕ → Option K
look_up [] text = None
look_up (entry ∷ entries) text = if bytes_eq text entry.0 then Some entry.1 else look_up entries text

-- the entry of two words in a table
abbrev pub look_up_pair : {K : Type 0} → List (List ℕ × List ℕ × K) → List ℕ → List ℕ → Option K
look_up_pair [] first second = None
look_up_pair (entry ∷ entries) first second =
    if bytes_eq first entry.0 && bytes_eq second entry.1 then Some entry.2 else look_up_pair entries first second

-- the keywords
unfoldable pub keywords : List (List ℕ × Keyword)
keywords =
    (codes "declaration", word.Declaration) ∷ (codes "scope", word.Scope) ∷ (codes "structure", word.Structure) ∷
    (codes "enumeration", word.Enumeration) ∷ (codes "data", word.Data) ∷ (codes "content", word.Content) ∷
    (codes "input", word.Input) ∷ (codes "output", word.Output) ∷ (codes "internal", word.Internal) ∷
    (codes "context", word.Context) ∷ (codes "condition", word.Condition) ∷ (codes "definition", word.Definition) ∷
    (codes "rule", word.Rule) ∷ (codes "equals", word.Equals) ∷ (codes "consequence", word.Consequence) ∷
    (codes "fulfilled", word.Fulfilled) ∷ (codes "not", word.Not) ∷ (codes "assertion", word.Assertion) ∷
    (codes "label", word.Label) ∷ (codes "exception", word.Exception) ∷ (codes "of", word.Of) ∷
    (codes "if", word.If) ∷ (codes "then", word.Then) ∷ (codes "else", word.Else) ∷
    (codes "match", word.Match) ∷ (codes "with", word.With) ∷ (codes "anything", word.Anything) ∷
    (codes "and", word.And) ∷ (codes "or", word.Or) ∷ (codes "xor", word.Xor) ∷
    (codes "true", word.True) ∷ (codes "false", word.False) ∷ (codes "boolean", word.Boolean) ∷
    (codes "integer", word.Integer) ∷ (codes "decimal", word.Decimal) ∷ (codes "money", word.Money) ∷
    (codes "date", word.Date) ∷ (codes "duration", word.Duration) ∷ (codes "year", word.Year) ∷
    (codes "month", word.Month) ∷ (codes "day", word.Day) ∷ (codes "increasing", word.Increasing) ∷
    (codes "decreasing", word.Decreasing) ∷ (codes "among", word.Among) ∷ (codes "exists", word.Exists) ∷
    (codes "sum", word.Sum) ∷ (codes "to", word.To) ∷ (codes "in", word.In) ∷
    (codes "initially", word.Initially) ∷ (codes "contains", word.Contains) ∷ (codes "get_year", word.GetYear) ∷
    (codes "get_month", word.GetMonth) ∷ (codes "get_day", word.GetDay) ∷ []

-- the double keywords
unfoldable pub double_keywords : List (List ℕ × List ℕ × DoubleKeyword)
double_keywords =
    (codes "under", codes "condition", pair.UnderCondition) ∷ (codes "depends", codes "on", pair.DependsOn) ∷
    (codes "list", codes "of", pair.ListOf) ∷ (codes "for", codes "all", pair.ForAll) ∷
    (codes "we", codes "have", pair.WeHave) ∷ (codes "such", codes "that", pair.SuchThat) ∷
    (codes "number", codes "of", pair.NumberOf) ∷ (codes "map", codes "each", pair.MapEach) ∷
    (codes "combine", codes "all", pair.CombineAll) ∷ (codes "with", codes "pattern", pair.WithPattern) ∷
    (codes "date", codes "round", pair.DateRound) ∷ (codes "round", codes "of", pair.RoundOf) ∷
    (codes "output", codes "of", pair.OutputOf) ∷ []

-- the symbols
unfoldable pub symbols : List (List ℕ × Symbol)
symbols =
    (codes ":", symbol.Colon) ∷ (codes ".", symbol.Dot) ∷ (codes ",", symbol.Comma) ∷ (codes ";", symbol.Semicolon) ∷
    (codes "(", symbol.LeftParen) ∷ (codes ")", symbol.RightParen) ∷ (codes "[", symbol.LeftBracket) ∷
    (codes "]", symbol.RightBracket) ∷
    (codes "{", symbol.LeftBrace) ∷ (codes "}", symbol.RightBrace) ∷ (codes "+", symbol.Plus) ∷
    (codes "-", symbol.Minus) ∷
    (codes "--", symbol.MinusMinus) ∷ (codes "*", symbol.Star) ∷ (codes "/", symbol.Slash) ∷ (codes "=", symbol.Equal) ∷
    (codes "!=", symbol.NotEqual) ∷ (codes "<", symbol.Less) ∷ (codes "<=", symbol.LessEqual) ∷
    (codes ">", symbol.Greater) ∷
    (codes ">=", symbol.GreaterEqual) ∷ []

-- the keyword, double keyword or symbol of this spelling
abbrev pub keyword_of : List ℕ → Option Keyword
keyword_of text = look_up keywords text

-- the double keyword of two words
abbrev pub double_keyword_of : List ℕ → List ℕ → Option DoubleKeyword
double_keyword_of first second = look_up_pair double_keywords first second

-- the symbol that a text spells
abbrev pub symbol_of : List ℕ → Option Symbol
symbol_of text = look_up symbols text
