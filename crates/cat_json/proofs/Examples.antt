-- Worked examples of what JSON is read as, each by computation.
use Rattle.std.proofs.Common.{◌≡◌, [], ◌∷◌, Ok, refl}
use Rattle.std.specs.Prelude.{Some, None, pos, negsuc, codes}
use Rattle.std.specs.Fmt.{digits}
use Rattle.serde_json.specs.Data.{null, number, string, object, unsigned, negative, member, no_members}
use Rattle.cat_num.specs.Frac.{ratio, lowest, gcd}
use Rattle.cat_date.proofs.Exported.{cat_date_on_literals}
use Rattle.cat_json.specs.declared.step.Step.TheVariants.{Name, Element}
use Rattle.cat_json.specs.declared.refusal.Reason.TheVariants.{Missing, WrongForm, OutOfRange}
use Rattle.cat_json.specs.Paths.{path_text, refused, at_step}
use Rattle.cat_json.specs.WholeNumbers.{integer_of, whole_in}
use Rattle.cat_json.specs.Numerals.{text_fraction, text_cents}
use Rattle.cat_json.specs.Scalars.{text_day, cents_in}
use Rattle.cat_json.specs.Spans.{span_in}
use Rattle.cat_json.specs.Keys.{unknown_key, is_among}

a_path_joins_names_and_elements : path_text (Name (codes "a") ∷ Name (codes "b") ∷ Element 10 ∷ Element 0 ∷ Name
    (codes "c") ∷ []) ≡ codes "a.b[10][0].c"
unfolding digits
a_path_joins_names_and_elements = refl

the_whole_is_the_input : path_text [] ≡ codes "(input)"
the_whole_is_the_input = refl

the_greatest_integer_is_read : whole_in (integer_of (number (unsigned 9223372036854775807))) ≡ Ok
    (pos 9223372036854775807)
the_greatest_integer_is_read = refl

one_more_is_out_of_range : whole_in (integer_of (number (unsigned 9223372036854775808))) ≡ refused OutOfRange
one_more_is_out_of_range = refl

the_least_machine_integer_is_out_of_range : whole_in (integer_of (number (negative (negsuc 9223372036854775807))))
    ≡ refused OutOfRange
the_least_machine_integer_is_out_of_range = refl

a_text_is_no_integer : whole_in (integer_of (string (codes "1"))) ≡ refused WrongForm
a_text_is_no_integer = refl

a_decimal_text_is_read : text_fraction (codes "-0.250") ≡ Ok (record { num = negsuc 0; den = 4 })
unfolding text_fraction ratio lowest gcd
a_decimal_text_is_read = refl

a_quotient_is_reduced : text_fraction (codes "4/006") ≡ Ok (record { num = pos 2; den = 3 })
unfolding text_fraction ratio lowest gcd
a_quotient_is_reduced = refl

a_denominator_of_zero_is_out_of_range : text_fraction (codes "1/0") ≡ refused OutOfRange
unfolding text_fraction ratio
a_denominator_of_zero_is_out_of_range = refl

ten_places_have_another_form : text_fraction (codes "0.0000000000") ≡ refused WrongForm
unfolding text_fraction
ten_places_have_another_form = refl

twenty_digits_are_out_of_range : text_fraction (codes "00000000000000000001") ≡ refused OutOfRange
unfolding text_fraction
twenty_digits_are_out_of_range = refl

a_point_needs_digits_on_both_sides : text_fraction (codes "1.") ≡ refused WrongForm
unfolding text_fraction
a_point_needs_digits_on_both_sides = refl

a_plus_has_another_form : text_fraction (codes "+1") ≡ refused WrongForm
unfolding text_fraction
a_plus_has_another_form = refl

one_place_is_tenths : text_cents (codes "-3.5") ≡ Ok (negsuc 349)
unfolding text_cents
one_place_is_tenths = refl

three_places_are_no_amount : text_cents (codes "3.500") ≡ refused WrongForm
unfolding text_cents
three_places_are_no_amount = refl

units_are_hundreds_of_cents : cents_in (Some (pos 92233720368547758)) None ≡ Ok (pos 9223372036854775800)
units_are_hundreds_of_cents = refl

one_unit_more_is_out_of_range : cents_in (Some (pos 92233720368547759)) None ≡ refused OutOfRange
one_unit_more_is_out_of_range = refl

a_leap_day_is_read : text_day (codes "2024-02-29") ≡ Ok (pos 19782)
unfolding text_day cat_date_on_literals
a_leap_day_is_read = refl

no_such_day_is_out_of_range : text_day (codes "2023-02-29") ≡ refused OutOfRange
unfolding text_day cat_date_on_literals
no_such_day_is_out_of_range = refl

a_short_month_has_another_form : text_day (codes "2024-2-29") ≡ refused WrongForm
unfolding text_day
a_short_month_has_another_form = refl

a_duration_is_read : span_in
    (object (member (codes "days") (number (unsigned 3)) (member (codes "months") (number (negative (negsuc 0)))
    no_members))) ≡ Ok (record { months = negsuc 0; days = pos 3 })
a_duration_is_read = refl

days_are_missed_first : span_in (object no_members) ≡ at_step (Name (codes "days")) (refused Missing)
days_are_missed_first = refl

an_extra_key_comes_after_the_parts : span_in
    (object (member (codes "a") null
    (member (codes "days") (number (unsigned 3)) (member (codes "months") null no_members)))) ≡ at_step
    (Name (codes "months")) (refused WrongForm)
an_extra_key_comes_after_the_parts = refl

the_first_unknown_key_is_told : unknown_key (is_among (codes "b" ∷ []))
    (member (codes "a") null (member (codes "b") null (member (codes "c") null no_members))) ≡ Some (codes "a")
the_first_unknown_key_is_told = refl
