-- Small trees of files, and what is gathered of them.
use Rattle.std.proofs.Common.{◌≡◌, ℕ, List, [], ◌∷◌, ◌++◌, true, false, nat_le, replicate, refl, cond}
use Rattle.std.specs.Prelude.{codes, bytes_eq, Some, None}
use Rattle.std.specs.Str.{is_utf8, chars}
use lib.Utf8.{encode}
use Rattle.cat_weave.specs.Lines.{lines_of, without_end, without_last, without_last_blanks, without_first_blanks}
use Rattle.cat_weave.specs.Kinds.{level_of, law_kind, kind_of, kinds_of}
use Rattle.cat_weave.specs.Woven.{line_position, code_text, segments_from, closes, unclosed, woven}
use Rattle.cat_weave.specs.Gathered.{Contents, Whole, Refused, StopsAt, segments_gathered, included, gathered}
use Rattle.cat_weave.specs.Gathered.{gathered_none, limit_after, is_full}
use Rattle.cat_weave.specs.declared.source.GatherRefusal.TheVariants.{IncludeTwice, FenceOpen}

abbrev line : List ℕ → List ℕ
line text = text ++ 10 ∷ []

abbrev code : List ℕ → List ℕ
code text = line (codes "```catala") ++ (line text ++ line (codes "```"))

abbrev include : List ℕ → List ℕ
include name = line (codes "> Include: " ++ name)

abbrev files : List ℕ → List ℕ → Contents
files a b name = cond (bytes_eq name (codes "a")) (Some a) (cond (bytes_eq name (codes "b")) (Some b) None)

the_included_code_stands_in_place_of_its_include : gathered (files
    (code (codes "1") ++ (include (codes "b") ++ code (codes "3"))) (code (codes "2"))) (codes "a")
    ≡ Whole (record {
      files = codes "a" ∷ codes "b" ∷ [];
      pieces = record { text = line (codes "1"); pos = line_position 0 2 } ∷
          record { text = line (codes "2"); pos = line_position 1 2 } ∷
          record { text = line (codes "3"); pos = line_position 0 6 } ∷ [];
      headings = [];
    })
unfolding gathered included segments_gathered woven lines_of kinds_of kind_of law_kind level_of without_end without_last
    without_last_blanks without_first_blanks code_text segments_from closes unclosed is_utf8 chars encode
the_included_code_stands_in_place_of_its_include = refl

abbrev nest : List ℕ → List ℕ → List ℕ → Contents
nest a b c name = cond (bytes_eq name (codes "c")) (Some c) (files a b name)

an_included_file_may_include : gathered (nest (include (codes "b") ++ code (codes "4"))
    (code (codes "1") ++ (include (codes "c") ++ code (codes "3"))) (code (codes "2"))) (codes "a")
    ≡ Whole (record {
      files = codes "a" ∷ codes "b" ∷ codes "c" ∷ [];
      pieces =
          record { text = line (codes "1"); pos = line_position 1 2 } ∷
          record { text = line (codes "2"); pos = line_position 2 2 } ∷
          record { text = line (codes "3"); pos = line_position 1 6 } ∷
          record { text = line (codes "4"); pos = line_position 0 3 } ∷ [];
      headings = [];
    })
unfolding gathered included segments_gathered woven lines_of kinds_of kind_of law_kind level_of without_end without_last
    without_last_blanks without_first_blanks code_text segments_from closes unclosed is_utf8 chars encode
an_included_file_may_include = refl

a_file_is_taken_once : gathered (files (include (codes "b") ++ include (codes "b")) []) (codes "a")
    ≡ Refused (IncludeTwice (codes "a") (line_position 0 2))
unfolding gathered included segments_gathered woven lines_of kinds_of kind_of law_kind level_of without_end without_last
    without_last_blanks without_first_blanks code_text segments_from closes unclosed is_utf8 chars encode
a_file_is_taken_once = refl

the_main_file_is_taken_too : gathered (files (include (codes "a")) []) (codes "a")
    ≡ Refused (IncludeTwice (codes "a") (line_position 0 1))
unfolding gathered included segments_gathered woven lines_of kinds_of kind_of law_kind level_of without_end without_last
    without_last_blanks without_first_blanks code_text segments_from closes unclosed is_utf8 chars encode
the_main_file_is_taken_too = refl

a_heading_counts_the_pieces_in_front_of_it : gathered (files (include (codes "b") ++ line (codes "# h"))
    (code (codes "1"))) (codes "a")
    ≡ Whole (record {
      files = codes "a" ∷ codes "b" ∷ [];
      pieces = record { text = line (codes "1"); pos = line_position 1 2 } ∷ [];
      headings = record { pieces = 1; level = 1; text = codes "h"; pos = line_position 0 2 } ∷ [];
    })
unfolding gathered included segments_gathered woven lines_of kinds_of kind_of law_kind level_of without_end without_last
    without_last_blanks without_first_blanks code_text segments_from closes unclosed is_utf8 chars encode
a_heading_counts_the_pieces_in_front_of_it = refl

a_file_that_includes_the_main_file_is_refused : gathered (files (include (codes "b")) (include (codes "a")))
    (codes "a") ≡ Refused (IncludeTwice (codes "b") (line_position 1 1))
unfolding gathered included segments_gathered woven lines_of kinds_of kind_of law_kind level_of without_end without_last
    without_last_blanks without_first_blanks code_text segments_from closes unclosed is_utf8 chars encode
a_file_that_includes_the_main_file_is_refused = refl

a_file_is_woven_before_its_includes_are_taken : gathered (files (include (codes "a") ++ line (codes "```catala")) [])
    (codes "a") ≡ Refused (FenceOpen (codes "a") (line_position 0 2))
unfolding gathered included segments_gathered woven lines_of kinds_of kind_of law_kind level_of without_end without_last
    without_last_blanks without_first_blanks code_text segments_from closes unclosed is_utf8 chars encode
a_file_is_woven_before_its_includes_are_taken = refl

gathering_stops_at_a_file_without_content : gathered (files (include (codes "c")) []) (codes "a") ≡ StopsAt
    (codes "c") 13
unfolding gathered included segments_gathered woven lines_of kinds_of kind_of law_kind level_of without_end without_last
    without_last_blanks without_first_blanks code_text segments_from closes unclosed is_utf8 chars encode
gathering_stops_at_a_file_without_content = refl

-- ---- limits

a_file_of_4_MiB_may_be_the_first : nat_le 4194304 (limit_after 0) ≡ true
a_file_of_4_MiB_may_be_the_first = refl

a_file_of_one_byte_more_may_not : nat_le 4194305 (limit_after 0) ≡ false
a_file_of_one_byte_more_may_not = refl

one_byte_may_follow_16_MiB_but_one : limit_after 16777215 ≡ 1
one_byte_may_follow_16_MiB_but_one = refl

none_may_follow_16_MiB : limit_after 16777216 ≡ 0
none_may_follow_16_MiB = refl

a_file_may_follow_63 : is_full (record gathered_none { files = replicate 63 (codes "a") }) ≡ false
a_file_may_follow_63 = refl

none_may_follow_64 : is_full (record gathered_none { files = replicate 64 (codes "a") }) ≡ true
none_may_follow_64 = refl
