-- Lines, what they are, and the segments of small sources.
use Rattle.std.proofs.Common.{◌≡◌, ℕ, List, [], ◌∷◌, ◌++◌, refl, false}
use Rattle.std.specs.Prelude.{codes, None, Err}
use Rattle.cat_weave.specs.Lines.{lines_of, bare, without_end, without_last, without_last_blanks, without_first_blanks}
use Rattle.cat_weave.specs.Kinds.{Kind, LawLine, OpeningLine, CodeLine, ClosingLine, HeadingLine, IncludeLine}
use Rattle.cat_weave.specs.Kinds.{level_of, law_kind, kind_of, kinds_of}
use Rattle.cat_weave.specs.Woven.{line_position, code_text, segments_from, closes, unclosed, woven_lines}
use Rattle.cat_weave.specs.declared.segment.Segment.TheVariants.{Code, Heading, Include}
use Rattle.cat_weave.specs.declared.segment.WeaveRefusal.TheVariants.{FenceOpen}

each_line_has_its_line_feed : lines_of (97 ∷ 10 ∷ 10 ∷ 98 ∷ []) ≡ (97 ∷ 10 ∷ []) ∷ (10 ∷ []) ∷ (98 ∷ []) ∷ []
unfolding lines_of
each_line_has_its_line_feed = refl

an_empty_text_has_no_lines : lines_of [] ≡ []
unfolding lines_of
an_empty_text_has_no_lines = refl

a_carriage_return_and_blanks_are_passed_over : bare (codes "``` " ++ (9 ∷ 13 ∷ 10 ∷ [])) ≡ codes "```"
unfolding without_end without_last without_last_blanks
a_carriage_return_and_blanks_are_passed_over = refl

a_carriage_return_at_the_end_of_the_file_stays : bare (codes "```" ++ 13 ∷ []) ≡ codes "```" ++ 13 ∷ []
unfolding without_end without_last without_last_blanks
a_carriage_return_at_the_end_of_the_file_stays = refl

a_carriage_return_before_blanks_stays : bare (codes "```" ++ (13 ∷ 32 ∷ 10 ∷ [])) ≡ codes "```" ++ 13 ∷ []
unfolding without_end without_last without_last_blanks
a_carriage_return_before_blanks_stays = refl

metadata_opens_a_block : law_kind (codes "```catala-metadata") ≡ OpeningLine
unfolding law_kind
metadata_opens_a_block = refl

further_words_open_none : law_kind (codes "```catala x") ≡ LawLine
unfolding law_kind level_of
further_words_open_none = refl

a_heading_has_its_level : law_kind (codes "## Art. 1") ≡ HeadingLine 2 (codes "Art. 1")
unfolding law_kind level_of
a_heading_has_its_level = refl

a_heading_keeps_its_first_blanks_but_one : law_kind (codes "#  a") ≡ HeadingLine 1 (codes " a")
unfolding law_kind level_of
a_heading_keeps_its_first_blanks_but_one = refl

a_number_sign_without_a_blank_is_law : law_kind (codes "#a") ≡ LawLine
unfolding law_kind level_of
a_number_sign_without_a_blank_is_law = refl

seven_number_signs_are_law : law_kind (codes "####### a") ≡ LawLine
unfolding law_kind level_of
seven_number_signs_are_law = refl

an_include_names_a_file : law_kind (codes "> Include:   b.md") ≡ IncludeLine (codes "b.md")
unfolding law_kind level_of without_first_blanks
an_include_names_a_file = refl

an_include_without_its_blank_is_law : law_kind (codes "> Include:b.md") ≡ LawLine
unfolding law_kind level_of
an_include_without_its_blank_is_law = refl

abbrev fence : List ℕ
fence = codes "```" ++ 10 ∷ []

abbrev opening : List ℕ
opening = codes "```catala" ++ 10 ∷ []

abbrev heading : List ℕ
heading = codes "# a" ++ 10 ∷ []

in_a_block_all_is_code_but_the_fence : kinds_of false (fence ∷ opening ∷ heading ∷ opening ∷ fence ∷ heading ∷ []) ≡
    LawLine ∷ OpeningLine ∷ CodeLine heading ∷ CodeLine opening ∷ ClosingLine ∷ HeadingLine 1 (codes "a") ∷ []
unfolding kinds_of kind_of law_kind level_of without_end without_last without_last_blanks
in_a_block_all_is_code_but_the_fence = refl

abbrev lines : List Kind
lines = OpeningLine ∷ CodeLine heading ∷ CodeLine heading ∷ ClosingLine ∷ OpeningLine ∷ CodeLine opening ∷
    ClosingLine ∷ OpeningLine ∷ ClosingLine ∷ IncludeLine (codes "b") ∷ LawLine ∷ HeadingLine 1 (codes "c") ∷ []

a_block_is_one_piece_and_an_empty_one_none : segments_from 7 false 1 lines ≡ Code
    (record { text = heading ++ heading; pos = line_position 7 2 }) ∷ Code
    (record { text = opening; pos = line_position 7 6 }) ∷ Include (codes "b") (line_position 7 10) ∷ Heading 1
    (codes "c") (line_position 7 12) ∷ []
unfolding segments_from code_text
a_block_is_one_piece_and_an_empty_one_none = refl

each_block_is_closed : unclosed 1 lines ≡ None
unfolding unclosed closes
each_block_is_closed = refl

the_open_block_is_named : woven_lines 7 (LawLine ∷ OpeningLine ∷ ClosingLine ∷ OpeningLine ∷ CodeLine heading ∷ []) ≡
    Err (FenceOpen (line_position 7 4))
unfolding unclosed closes
the_open_block_is_named = refl
