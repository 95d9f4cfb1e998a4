-- The forms of tokens, without their bounds: which spellings each has, and which is the longest in front of a text.
use Rattle.std.specs.Prelude.{◌≡◌, ◌≢◌, ◌≤◌, ℕ, Bool, true, false, not, ◌&&◌, ◌==◌, List, [], ◌∷◌, ◌++◌, map}
use Rattle.std.specs.Prelude.{length, Some, codes}
use Rattle.std.specs.Char.{encode_utf8, is_ascii_digit, is_ascii_uppercase}
use Rattle.std.specs.List.{list_all, concat}
use Rattle.std.specs.Str.{encode_utf8_all}
use Rattle.unicode_ident.specs.Ident.{is_xid_start, is_xid_continue}
use Rattle.cat_pos.specs.Bytes.{is_blank}
use Rattle.cat_date.specs.Text.{form_of}
use Rattle.cat_lex.specs.declared.form.Form.{Form}
use Rattle.cat_lex.specs.declared.form.Form.TheVariants.{TypeWord, Word, Pair, Whole, Decimal, Percent, Amount, Date}
use Rattle.cat_lex.specs.declared.form.Form.TheVariants.{Mark}
use Rattle.cat_lex.specs.declared.words.DoubleKeyword.{DoubleKeyword}
use Rattle.cat_lex.specs.Gaps.{is_white_space}
use Rattle.cat_lex.specs.Words.{double_keyword_of, symbol_of}

-- one digit or more
pub record AreDigits (text : List ℕ) : Type 0 where
  pub some : text ≢ []
  pub digits : list_all is_ascii_digit text ≡ true

-- a word: a first character that passes, and then any that continue an identifier
pub record IsWord (begins : ℕ → Bool) (word : List ℕ) : Type 0 where
  pub first : ℕ
  pub others : List ℕ
  pub begun : begins first ≡ true
  pub continued : list_all is_xid_continue others ≡ true
  pub spelled : word ≡ encode_utf8_all (first ∷ others)

-- what begins a name
abbrev pub begins_name : ℕ → Bool
begins_name c = is_xid_start c && not (is_ascii_uppercase c)

-- a word that ends before this rest is whole
abbrev pub IsWhole : List ℕ → Type 0
IsWhole rest = (c : ℕ) (more : List ℕ) → rest ≡ encode_utf8 c ++ more → is_xid_continue c ≡ false

-- two whole words of the list, with white space between
pub record IsPair (keyword : DoubleKeyword) (word rest : List ℕ) : Type 0 where
  pub first : List ℕ
  pub spaces : List ℕ
  pub second : List ℕ
  pub listed : double_keyword_of first second ≡ Some keyword
  pub some : spaces ≢ []
  pub white : list_all is_white_space spaces ≡ true
  pub spelled : word ≡ first ++ (spaces ++ second)
  pub whole : IsWhole rest

-- nothing, or a point and digits
abbrev pub after_point : List ℕ → List ℕ
after_point [] = []
after_point (c ∷ digits) = 46 ∷ c ∷ digits

-- digits, `.`, digits
pub record IsDecimal (word : List ℕ) : Type 0 where
  pub units : List ℕ
  pub places : List ℕ
  pub some : AreDigits units
  pub more : AreDigits places
  pub spelled : word ≡ units ++ after_point places

-- digits or a decimal, then blanks, then `%`
pub record IsPercent (word : List ℕ) : Type 0 where
  pub units : List ℕ
  pub places : List ℕ
  pub spaces : List ℕ
  pub some : AreDigits units
  pub digits : list_all is_ascii_digit places ≡ true
  pub spaced : list_all is_blank spaces ≡ true
  pub spelled : word ≡ units ++ (after_point places ++ (spaces ++ codes "%"))

-- three digits
abbrev pub is_group : List ℕ → Bool
is_group text = length text == 3 && list_all is_ascii_digit text

-- a group of digits with its comma in front
abbrev pub after_comma : List ℕ → List ℕ
after_comma group = 44 ∷ group

-- `$`, digits, groups of a comma and three digits, then nothing or a point and one or two digits
pub record IsAmount (word : List ℕ) : Type 0 where
  pub units : List ℕ
  pub groups : List (List ℕ)
  pub cents : List ℕ
  pub some : AreDigits units
  pub grouped : list_all is_group groups ≡ true
  pub digits : list_all is_ascii_digit cents ≡ true
  pub at_most_two : length cents ≤ 2
  pub spelled : word ≡ codes "$" ++ (units ++ (concat (map after_comma groups) ++ after_point cents))

-- the word has the form, where this rest follows it
abbrev pub HasForm : Form → List ℕ → List ℕ → Type 0
HasForm TypeWord word rest = IsWord is_ascii_uppercase word
HasForm Word word rest = IsWord begins_name word
HasForm (Pair keyword) word rest = IsPair keyword word rest
HasForm Whole word rest = AreDigits word
HasForm Decimal word rest = IsDecimal word
HasForm Percent word rest = IsPercent word
HasForm Amount word rest = IsAmount word
HasForm Date word rest = form_of word ≡ codes "|0000-00-00|"
HasForm (Mark symbol) word rest = symbol_of word ≡ Some symbol

-- the word has the form, and no longer front of the text has any
pub record IsLongest (form : Form) (word rest : List ℕ) : Type 0 where
  pub formed : HasForm form word rest
  pub longest : (other : Form) (more after : List ℕ) → rest ≡ more ++ after → more ≢ []
      → HasForm other (word ++ more) after → ⊥
