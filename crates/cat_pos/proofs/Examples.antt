-- The limits, and positions in the text of the lines `ab`, an empty one and `cd`.
use Rattle.std.proofs.Common.{◌≡◌, List, ℕ, [], ◌∷◌, refl}
use Rattle.std.specs.Prelude.{◌^◌, ◌*◌, codes, Some, None}
use Rattle.std.specs.Fmt.{digits}
use Rattle.cat_pos.specs.declared.limits.TheConstants.{ENTRIES_BOUND}
use Rattle.cat_pos.specs.Limits.{most_file_bytes, most_source_bytes, most_input_bytes}
use Rattle.cat_pos.specs.Position.{pos_of, line_of, column_of, position_of, shown}

a_file_has_at_most_4_MiB : most_file_bytes ≡ 4 * 2 ^ 20
a_file_has_at_most_4_MiB = refl

a_source_has_at_most_16_MiB : most_source_bytes ≡ 16 * 2 ^ 20
a_source_has_at_most_16_MiB = refl

an_input_has_at_most_64_MiB : most_input_bytes ≡ 64 * 2 ^ 20
an_input_has_at_most_64_MiB = refl

a_u32_numbers_each_entry : ENTRIES_BOUND ≡ 2 ^ 32
a_u32_numbers_each_entry = refl

abbrev text : List ℕ
text = 97 ∷ 98 ∷ 10 ∷ 10 ∷ 99 ∷ 100 ∷ []

the_first_byte_is_at_line_one_column_one : position_of text 0 0 ≡ pos_of 0 1 1
unfolding line_of column_of
the_first_byte_is_at_line_one_column_one = refl

a_line_feed_stands_at_the_end_of_its_line : position_of text 0 2 ≡ pos_of 0 1 3
unfolding line_of column_of
a_line_feed_stands_at_the_end_of_its_line = refl

an_empty_line_has_one_position : position_of text 0 3 ≡ pos_of 0 2 1
unfolding line_of column_of
an_empty_line_has_one_position = refl

the_end_is_a_position : position_of text 4 6 ≡ pos_of 4 3 3
unfolding line_of column_of
the_end_is_a_position = refl

a_position_shows_its_file_by_name :
    shown (codes "a.md" ∷ codes "b.md" ∷ []) (pos_of 1 12 345) ≡ Some (codes "b.md:12:345")
unfolding digits
a_position_shows_its_file_by_name = refl

a_file_without_a_name_is_not_shown : shown [] (pos_of 0 1 1) ≡ None
a_file_without_a_name_is_not_shown = refl
