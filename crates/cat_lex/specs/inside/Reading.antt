-- What the scanner reads in front of a text: the form, and what follows. Proved to be the longest token's.
use Rattle.std.specs.Prelude.{ℕ, ◌-◌, nat_le, Bool, true, false, not, ◌&&◌, ◌||◌, ◌==◌, if◌then◌else◌, List, [], ◌∷◌}
use Rattle.std.specs.Prelude.{take, drop, length, Option, Some, None, codes, bytes_eq}
use Rattle.std.specs.Char.{is_ascii_digit, is_ascii_uppercase, is_ascii_alphabetic}
use Rattle.std.specs.Str.{encode_utf8_all, chars}
use Rattle.unicode_ident.specs.Ident.{is_xid_start, is_xid_continue}
use Rattle.cat_pos.specs.Position.{is_line_feed}
use Rattle.cat_date.specs.Text.{form_of}
use Rattle.cat_lex.specs.declared.words.DoubleKeyword.{DoubleKeyword}
use Rattle.cat_lex.specs.declared.symbol.Symbol.{Symbol}
use Rattle.cat_lex.specs.declared.form.Form.{Form}
use Rattle.cat_lex.specs.declared.form.Form.TheVariants.{TypeWord, Word, Pair, Whole, Decimal, Percent, Amount, Date}
use Rattle.cat_lex.specs.declared.form.Form.TheVariants.{Mark}
use Rattle.cat_lex.specs.Gaps.{is_white_space, begins_comment}
use Rattle.cat_lex.specs.Words.{double_keyword_of, symbol_of}
use Rattle.cat_pos.specs.Bytes.{is_blank}

-- the text without its longest front that passes
abbrev pub skip : (ℕ → Bool) → List ℕ → List ℕ
skip passes [] = []
skip passes (c ∷ cs) = if passes c then skip passes cs else c ∷ cs

-- a text whose first byte passes a test
abbrev pub begins : (ℕ → Bool) → List ℕ → Bool
begins passes [] = false
begins passes (c ∷ cs) = passes c

-- a point and a digit come first, and the text after a point and its digits
abbrev pub is_pointed : List ℕ → Bool
is_pointed [] = false
is_pointed (c ∷ cs) = c == 46 && begins is_ascii_digit cs

-- the text behind a point and its digits, where these come first
abbrev pub skip_places : List ℕ → List ℕ
skip_places text = if is_pointed text then skip is_ascii_digit (drop 1 text) else text

-- the sign of a percentage
abbrev pub is_percent_sign : ℕ → Bool
is_percent_sign c = c == 37

-- a number, whose first digits stand in front of the text
abbrev pub number_after : List ℕ → Form × List ℕ
number_after units =
    let places = skip_places units in
    let spaces = skip is_blank places in
    if begins is_percent_sign spaces then (Percent, drop 1 spaces) else if is_pointed units then (Decimal, places) else
    (Whole, units)

-- a number, where a digit comes first
abbrev pub number_read : List ℕ → Form × List ℕ
number_read text = number_after (skip is_ascii_digit text)

-- the text after all groups of a comma and three digits
abbrev pub skip_groups : List ℕ → List ℕ
skip_groups (c ∷ x ∷ y ∷ z ∷ cs) =
    if c == 44 && is_ascii_digit x && is_ascii_digit y && is_ascii_digit z then skip_groups cs else c ∷ x ∷ y ∷ z ∷ cs
skip_groups text = text

-- the text after a point and one or two digits
abbrev pub skip_cents : List ℕ → List ℕ
skip_cents text = if is_pointed text then (if begins is_ascii_digit (drop 2 text) then drop 3 text else drop 2 text)
    else text

-- an amount, whose `$` stands in front of the text
abbrev pub amount_read : List ℕ → Option (Form × List ℕ)
amount_read text = if begins is_ascii_digit text then Some (Amount, skip_cents (skip_groups (skip is_ascii_digit text)))
    else None

-- a date between bars, where one comes first
abbrev pub date_read : List ℕ → Option (Form × List ℕ)
date_read text = if bytes_eq (form_of (take 12 text)) (codes "|0000-00-00|") then Some (Date, drop 12 text) else None

-- the mark that was found, with what follows it; else the other reading
abbrev pub mark_or : Option Symbol → List ℕ → Option (Form × List ℕ) → Option (Form × List ℕ)
mark_or None rest other = other
mark_or (Some symbol) rest other = Some (Mark symbol, rest)

-- the mark of two bytes, else that of one, where one comes first
abbrev pub mark_read : List ℕ → Option (Form × List ℕ)
mark_read [] = None
mark_read (c ∷ []) = mark_or (symbol_of (c ∷ [])) [] None
mark_read (c ∷ d ∷ rest) = mark_or (symbol_of (c ∷ d ∷ [])) rest (mark_or (symbol_of (c ∷ [])) (d ∷ rest) None)

-- the text after its longest front of characters that pass
abbrev pub after : (ℕ → Bool) → List ℕ → List ℕ
after passes text = encode_utf8_all (skip passes (chars text))

-- what stands in front of the rest
abbrev pub front_of : List ℕ → List ℕ → List ℕ
front_of text rest = take (length text - length rest) text

-- the double keyword that was found, with what follows it; else the word alone
abbrev pub pair_or : Option DoubleKeyword → List ℕ → List ℕ → Form × List ℕ
pair_or None end rest = (Word, rest)
pair_or (Some keyword) end rest = (Pair keyword, end)

-- a word that the rest follows, or a double keyword that it begins
abbrev pub pair_read : List ℕ → List ℕ → Form × List ℕ
pair_read text rest =
    let second = after is_white_space rest in
    let end = after is_xid_continue second in
    if begins is_white_space rest then pair_or (double_keyword_of (front_of text rest) (front_of second end)) end rest
    else
    (Word, rest)

-- a type's word, or else a word or a double keyword, by the first character
abbrev pub begin_word : List ℕ → List ℕ → Option (Form × List ℕ)
begin_word [] text = None
begin_word (c ∷ cs) text =
    let rest = after is_xid_continue text in
    if is_ascii_uppercase c then Some (TypeWord, rest) else if is_xid_start c then Some (pair_read text rest) else None

-- a word or a double keyword, where one comes first
abbrev pub word_read : List ℕ → Option (Form × List ℕ)
word_read text = begin_word (chars text) text

-- a byte that may begin a word
abbrev pub is_word_byte : ℕ → Bool
is_word_byte byte = is_ascii_alphabetic byte || nat_le 128 byte

-- the form in front of a text, and what follows it
abbrev pub read : List ℕ → Option (Form × List ℕ)
read [] = None
read (byte ∷ bytes) =
    if is_word_byte byte then word_read (byte ∷ bytes)
    else if is_ascii_digit byte then Some (number_read (byte ∷ bytes))
    else if byte == 36 then amount_read bytes
    else if byte == 124 then date_read (byte ∷ bytes)
    else mark_read (byte ∷ bytes)

-- the text after all white space and comments, from outside a comment or from inside one
abbrev pub skip_gap : Bool → List ℕ → List ℕ
skip_gap inside [] = []
skip_gap true (byte ∷ bytes) = skip_gap (not (is_line_feed byte)) bytes
skip_gap false (byte ∷ bytes) =
    if is_white_space byte then skip_gap false bytes else if begins_comment byte bytes then skip_gap true bytes else
    byte ∷ bytes
