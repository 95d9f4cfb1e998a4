-- Texts and the longest token in front of each, by computation.
use Rattle.std.proofs.Common.{◌≡◌, ℕ, true, false, List, [], ◌∷◌, refl}
use Rattle.std.specs.Prelude.{Some, None, pos, codes}
use Rattle.std.specs.Char.{encode_utf8}
use Rattle.std.specs.Str.{is_utf8, chars}
use Rattle.std.proofs.lemmas.Str.{IsUtf8-from_is_utf8}
use Rattle.unicode_ident.proofs.Computing.{unicode_ident}
use Rattle.cat_date.specs.Calendar.{day_of_civil}
use Rattle.cat_date.specs.Text.{day_of_text}
use Rattle.cat_lex.specs.declared.form.Form.{Form}
use Rattle.cat_lex.specs.declared.form.Form.TheVariants.{Word, Pair, Whole, Decimal, Percent, Amount, Date, Mark}
use Rattle.cat_lex.specs.declared.symbol.Symbol.TheVariants.{MinusMinus}
use Rattle.cat_lex.specs.declared.words.DoubleKeyword.TheVariants.{UnderCondition}
use Rattle.cat_lex.specs.declared.token.TokenKind.TheVariants as kind
use Rattle.cat_lex.specs.Words.{double_keywords, symbols}
use Rattle.cat_lex.specs.Values.{token_of}
use Rattle.cat_lex.specs.Gaps.{IsGap, IsLastGap, begins_gap}
use Rattle.cat_lex.specs.Lexes.{BeginsNoToken}
use Rattle.cat_lex.specs.inside.Reading.{read}
use Rattle.cat_lex.proofs.Fronts.{IsFront, read_longest, read_none}

-- `unfolding computing` lets `refl` compute what is read in front of a text
computing : Unit {0}
unfolding is_utf8 chars encode_utf8 unicode_ident symbols double_keywords
computing = tt

-- this form comes first in the text, and leaves this rest
first : (form : Form) (text rest : List ℕ) → is_utf8 text ≡ true → read text ≡ Some (form, rest)
    → IsFront form text rest
first form text rest utf8 is = read_longest form text rest (IsUtf8-from_is_utf8 text utf8) is

nothing : (text : List ℕ) → is_utf8 text ≡ true → read text ≡ None → BeginsNoToken text
nothing text utf8 is = read_none text (IsUtf8-from_is_utf8 text utf8) is

spaces_stand_before_a_percent_sign : IsFront Percent (codes "20 % of") (codes " of")
unfolding computing
spaces_stand_before_a_percent_sign = first _ _ _ refl refl

a_point_without_digits_ends_a_number : IsFront Whole (codes "1..2") (codes "..2")
unfolding computing
a_point_without_digits_ends_a_number = first _ _ _ refl refl

a_decimal_has_one_point : IsFront Decimal (codes "1.2.3") (codes ".3")
unfolding computing
a_decimal_has_one_point = first _ _ _ refl refl

a_group_has_three_digits : IsFront Amount (codes "$1,000,00") (codes ",00")
unfolding computing
a_group_has_three_digits = first _ _ _ refl refl

cents_have_two_digits : IsFront Amount (codes "$1.234") (codes "4")
unfolding computing
cents_have_two_digits = first _ _ _ refl refl

of_two_signs_the_longer_is_read : IsFront (Mark MinusMinus) (codes "---") (codes "-")
unfolding computing
of_two_signs_the_longer_is_read = first _ _ _ refl refl

blanks_stand_inside_a_double_keyword : IsFront (Pair UnderCondition) (codes "under \n condition:") (codes ":")
unfolding computing
blanks_stand_inside_a_double_keyword = first _ _ _ refl refl

a_longer_word_is_no_double_keyword : IsFront Word (codes "list offer") (codes " offer")
unfolding computing
a_longer_word_is_no_double_keyword = first _ _ _ refl refl

a_comment_parts_two_words : IsFront Word (codes "under # c\ncondition") (codes " # c\ncondition")
unfolding computing
a_comment_parts_two_words = first _ _ _ refl refl

-- `été!`
a_name_may_have_accents : IsFront Word (195 ∷ 169 ∷ 116 ∷ 195 ∷ 169 ∷ 33 ∷ []) (codes "!")
unfolding computing
a_name_may_have_accents = first _ _ _ refl refl

a_dollar_sign_alone_is_no_token : BeginsNoToken (codes "$ 1")
unfolding computing
a_dollar_sign_alone_is_no_token = nothing _ refl refl

an_attribute_is_no_token : BeginsNoToken (codes "#[a]")
unfolding computing
an_attribute_is_no_token = nothing _ refl refl

an_attribute_is_no_comment : begins_gap (codes "#[a]") ≡ false
an_attribute_is_no_comment = refl

a_comment_ends_with_its_line : IsGap (codes " # a [ $\n")
a_comment_ends_with_its_line = refl

the_last_line_may_be_a_comment : IsLastGap (codes " # a")
the_last_line_may_be_a_comment = refl

thousands_and_a_digit_of_cents : token_of Amount (codes "$1,000,000.5") ≡ Some (kind.Money (pos 100000050))
thousands_and_a_digit_of_cents = refl

digits_of_a_percentage : token_of Percent (codes "1.50 %") ≡ Some (kind.Pct (record { digits = 150; places = 4 }))
digits_of_a_percentage = refl

ten_places_pass_the_bound : token_of Decimal (codes "0.1234567890") ≡ None
ten_places_pass_the_bound = refl

the_largest_number_keeps_it : token_of Whole (codes "9223372036854775807") ≡ Some (kind.Int (pos 9223372036854775807))
the_largest_number_keeps_it = refl

a_day_that_no_month_has : token_of Date (codes "|2024-02-30|") ≡ None
unfolding day_of_text day_of_civil
a_day_that_no_month_has = refl
