-- Shelves that tell few files, and what a run reads of them.
use Rattle.std.proofs.Common.{◌≡◌, ℕ, List, [], refl, cond}
use Rattle.std.specs.Prelude.{codes, bytes_eq, Some, None, Option}
use Rattle.std.specs.Str.{is_utf8, chars}
use lib.Utf8.{encode}
use Rattle.cat_io.specs.Shelf.{Shelved}
use Rattle.cat_weave.specs.Lines.{lines_of, without_end, without_last, without_last_blanks, without_first_blanks}
use Rattle.cat_weave.specs.Kinds.{level_of, law_kind, kind_of, kinds_of}
use Rattle.cat_weave.specs.Woven.{line_position, code_text, segments_from, closes, unclosed, woven}
use Rattle.cat_weave.specs.Gathered.{Whole, Refused, segments_gathered, included, gathered}
use Rattle.cat_weave.specs.declared.source.GatherRefusal.TheVariants.{IncludeTwice}
use Rattle.cat_app.specs.Words.{Request, request}
use Rattle.cat_app.specs.declared.request.Mode.TheVariants.{Run}
use Rattle.cat_laws.specs.Told.{TellsRun}
use Rattle.cat_laws.proofs.Endings.{ending_is}

-- a shelf in memory with these contents
abbrev shelf_of : (List ℕ → Option (List ℕ)) → Shelved
shelf_of content = record { content = content; misses = []; faults = []; longs = [] }

-- a run of its scope
abbrev run_of_it : Request
run_of_it = request Run (codes "S") (codes "a.md") (codes "-") None

-- ---- a source of one block, and an input

abbrev block : List ℕ
block = codes "```catala\ndeclaration scope S:\n```\n"

abbrev two : List ℕ → Option (List ℕ)
two name = cond (bytes_eq name (codes "a.md")) (Some block) (cond (bytes_eq name (codes "-")) (Some (codes "{}")) None)

-- no other file has to be told
a_source_and_an_input_are_enough : TellsRun (shelf_of two) run_of_it
unfolding gathered included segments_gathered woven lines_of kinds_of kind_of law_kind level_of without_end without_last
    without_last_blanks without_first_blanks code_text segments_from closes unclosed is_utf8 chars encode
a_source_and_an_input_are_enough = record { mode = refl; source = tt; input = λ source program scope asked. refl }

-- ---- a source that includes itself

abbrev circle : List ℕ → Option (List ℕ)
circle name = cond (bytes_eq name (codes "a.md")) (Some (codes "> Include: a.md\n")) None

circle_is : gathered circle (codes "a.md") ≡ Refused (IncludeTwice (codes "a.md") (line_position 0 1))
unfolding gathered included segments_gathered woven lines_of kinds_of kind_of law_kind level_of without_end without_last
    without_last_blanks without_first_blanks code_text segments_from closes unclosed is_utf8 chars encode
circle_is = refl

-- no input has to be told
a_source_that_is_refused_is_enough : TellsRun (shelf_of circle) run_of_it
unfolding gathered included segments_gathered woven lines_of kinds_of kind_of law_kind level_of without_end without_last
    without_last_blanks without_first_blanks code_text segments_from closes unclosed is_utf8 chars encode
a_source_that_is_refused_is_enough = record {
  mode = refl;
  source = tt;
  input = λ source program scope asked.
      let same : Whole source ≡ Refused (IncludeTwice (codes "a.md") (line_position 0 1)) =
      ending_is circle (codes "a.md") (Refused (IncludeTwice (codes "a.md") (line_position 0 1))) (Whole source)
      circle_is tt asked.source_read in
      cc same;
}
