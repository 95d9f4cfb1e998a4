-- The token that a spelling of a form is, where it keeps the form's bounds.
use Rattle.std.specs.Prelude.{ℕ, ◌+◌, ◌-◌, ◌*◌, ◌^◌, nat_le, Bool, ◌&&◌, ◌==◌, if◌then◌else◌, List, take, drop, pos}
use Rattle.std.specs.Prelude.{Option, Some, None}
use Rattle.std.specs.Char.{is_ascii_digit}
use Rattle.std.specs.List.{filter, before_first, after_first, count_by}
use Rattle.std.specs.Option.{option_map}
use Rattle.std.specs.Result.{result_ok}
use Rattle.std.specs.Str.Parse.{digits_value}
use Rattle.cat_num.specs.Whole.{largest}
use Rattle.cat_date.specs.Text.{day_of_text}
use Rattle.cat_lex.specs.declared.form.Form.{Form}
use Rattle.cat_lex.specs.declared.form.Form.TheVariants.{TypeWord, Word, Pair, Whole, Decimal, Percent, Amount, Date}
use Rattle.cat_lex.specs.declared.form.Form.TheVariants.{Mark}
use Rattle.cat_lex.specs.declared.token.TokenKind.{TokenKind}
use Rattle.cat_lex.specs.declared.token.TokenKind.TheVariants as kind
use Rattle.cat_lex.specs.declared.words.Keyword.{Keyword}
use Rattle.cat_lex.specs.Words.{keyword_of}

-- the point of a decimal
abbrev pub is_point : ℕ → Bool
is_point byte = byte == 46

-- the number that the digits of a spelling write, whatever stands between them
abbrev pub number_of : List ℕ → ℕ
number_of word = digits_value 10 (filter is_ascii_digit word)

-- how many digits stand before the point, and how many after it
abbrev pub units_of : List ℕ → ℕ
units_of word = count_by is_ascii_digit (before_first is_point word)

-- how many digits stand behind the point
abbrev pub places_of : List ℕ → ℕ
places_of word = count_by is_ascii_digit (after_first is_point word)

-- the cents of an amount
abbrev pub cents_of : List ℕ → ℕ
cents_of word = number_of word * 10 ^ (2 - places_of word)

-- the token, where it is within its bound
abbrev pub within : Bool → TokenKind → Option TokenKind
within fits token = if fits then Some token else None

-- a keyword, or else a name
abbrev pub word_kind : Option Keyword → List ℕ → TokenKind
word_kind None word = kind.Lower word
word_kind (Some keyword) word = kind.Word keyword

-- the token, or none where the spelling passes a bound
abbrev pub token_of : Form → List ℕ → Option TokenKind
token_of TypeWord word = Some (kind.Upper word)
token_of Word word = Some (word_kind (keyword_of word) word)
token_of (Pair keyword) word = Some (kind.Pair keyword)
token_of Whole word = within (nat_le (number_of word) largest) (kind.Int (pos (number_of word)))
token_of Decimal word = within (nat_le (units_of word) 9 && nat_le (places_of word) 9)
    (kind.Dec (record { digits = number_of word; places = places_of word }))
token_of Percent word = within (nat_le (units_of word) 9 && nat_le (places_of word) 7)
    (kind.Pct (record { digits = number_of word; places = places_of word + 2 }))
token_of Amount word = within (nat_le (cents_of word) largest) (kind.Money (pos (cents_of word)))
token_of Date word = option_map (λ day. kind.Date day) (result_ok (day_of_text (take 10 (drop 1 word))))
token_of (Mark symbol) word = Some (kind.Symbol symbol)
