-- What a text is as a word.
use Rattle.std.specs.Prelude.{ℕ, Bool, true, false, List, [], ◌∷◌}
use Rattle.cat_lex.specs.declared.token.Token.{Token}
use Rattle.cat_lex.specs.declared.token.TokenKind.{TokenKind}
use Rattle.cat_lex.specs.declared.token.TokenKind.TheVariants as kind
use Rattle.cat_verify_tables.specs.declared.names.Word.{Word}
use Rattle.cat_verify_tables.specs.declared.names.Word.TheVariants as word
use Rattle.cat_verify_tables.specs.TypeWords.{IsTypeName, IsPartName}

abbrev pub IsWordOf : List ℕ → Word → Type 0
IsWordOf text word.Type = IsTypeName text × (IsPartName text → ⊥)
IsWordOf text word.Name = IsPartName text × (IsTypeName text → ⊥)
IsWordOf text word.Other = (IsTypeName text → ⊥) × (IsPartName text → ⊥)

-- whether a token is a keyword
abbrev pub is_word : TokenKind → Bool
is_word (kind.Word keyword) = true
is_word _ = false

-- whether there is one token, a keyword
abbrev pub is_reserved : List Token → Bool
is_reserved (token ∷ []) = is_word token.kind
is_reserved _ = false
