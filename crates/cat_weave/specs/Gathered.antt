-- What is gathered of a main file and the files that it includes, where each file's content is known by its name.
use Rattle.std.specs.Prelude.{ℕ, zero, suc, ◌+◌, ◌-◌, nat_le, min, Bool, true, false, ◌||◌, List, [], ◌∷◌, ◌++◌, length}
use Rattle.std.specs.Prelude.{slice_index_or, bytes_eq, Option, Some, None, Result, Ok, Err}
use Rattle.cat_pos.specs.Position.{pos_file}
use Rattle.cat_pos.specs.Limits.{most_files, most_file_bytes, most_source_bytes}
use Rattle.cat_pos.specs.declared.pos.Pos.{Pos}
use Rattle.cat_pos.specs.declared.pos.Piece.{Piece}
use Rattle.cat_weave.specs.Woven.{woven}
use Rattle.cat_weave.specs.declared.segment.Heading.{Heading as Headed}
use Rattle.cat_weave.specs.declared.segment.Segment.{Segment}
use Rattle.cat_weave.specs.declared.segment.Segment.TheVariants.{Code, Heading, Include}
use Rattle.cat_weave.specs.declared.segment.Woven.{Woven}
use Rattle.cat_weave.specs.declared.segment.WeaveRefusal.{WeaveRefusal}
use Rattle.cat_weave.specs.declared.segment.WeaveRefusal.TheVariants as weaving
use Rattle.cat_weave.specs.declared.source.Source.{Source}
use Rattle.cat_weave.specs.declared.source.GatherRefusal.{GatherRefusal}
use Rattle.cat_weave.specs.declared.source.GatherRefusal.TheVariants.{NotUtf8, FenceOpen, IncludeTwice, TooLarge}
use Rattle.cat_weave.specs.declared.source.GatherRefusal.TheVariants.{Memory}

-- what files hold, by their names
abbrev pub Contents : Type 0
Contents = List ℕ → Option (List ℕ)

-- the files taken so far and how many bytes they have, and the code and headings so far
pub record Gathered : Type 0 where
  pub files : List (List ℕ)
  pub bytes : ℕ
  pub pieces : List Piece
  pub headings : List Headed

-- in front of the first file
abbrev pub gathered_none : Gathered
gathered_none = record { files = []; bytes = 0; pieces = []; headings = [] }

-- one piece more
abbrev pub with_piece : Piece → Gathered → Gathered
with_piece piece g = record g { pieces = g.pieces ++ piece ∷ [] }

-- a heading stands behind the pieces so far
abbrev pub with_heading : ℕ → List ℕ → Pos → Gathered → Gathered
with_heading level text pos g = record g {
  headings = g.headings ++ record { pieces = length g.pieces; level = level; text = text; pos = pos } ∷ [];
}

-- one file more, of so many bytes
abbrev pub with_file : List ℕ → ℕ → Gathered → Gathered
with_file name size g = record g { files = g.files ++ name ∷ []; bytes = g.bytes + size }

-- all that was gathered
abbrev pub source_of : Gathered → Source
source_of g = record { files = g.files; pieces = g.pieces; headings = g.headings }

-- gathering gives something or is refused, or it comes to a file whose content isn't known, behind so many bytes
pub data Ending (T : Type 0) : Type 0 where
  Whole : T → Ending T
  Refused : GatherRefusal → Ending T
  StopsAt : List ℕ → ℕ → Ending T

-- it goes on where something was given
abbrev pub and_then : {T : Type 0} → Ending Gathered → (Gathered → Ending T) → Ending T
and_then (Whole g) next = next g
and_then (Refused refusal) next = Refused refusal
and_then (StopsAt name bytes) next = StopsAt name bytes

-- what there is with the include of a file at a position, behind what was gathered in front of it
abbrev pub Including : Type 0
Including = List ℕ → Pos → Gathered → Ending Gathered

-- the code and headings of a file in their order, with each include replaced by those of the file that it names
unfoldable pub segments_gathered : Including → List Segment → Gathered → Ending Gathered
segments_gathered include [] g = Whole g
segments_gathered include (Code piece ∷ segments) g = segments_gathered include segments (with_piece piece g)
segments_gathered include (Heading level text pos ∷ segments) g =
    segments_gathered include segments (with_heading level text pos g)
segments_gathered include (Include path pos ∷ segments) g =
    and_then (include path pos g) (segments_gathered include segments)

-- a refused file is named
abbrev pub woven_as : List ℕ → Result Woven WeaveRefusal → Result (List Segment) GatherRefusal
woven_as name (Ok woven) = Ok woven.segments
woven_as name (Err (weaving.NotUtf8 pos)) = Err (NotUtf8 name pos)
woven_as name (Err (weaving.FenceOpen pos)) = Err (FenceOpen name pos)
woven_as name (Err weaving.Memory) = Err Memory

-- a file of so many bytes, by what weaving it gives
abbrev pub woven_gathered : Including → List ℕ → ℕ → Gathered → Result (List Segment) GatherRefusal → Ending Gathered
woven_gathered include name size g (Ok segments) = segments_gathered include segments (with_file name size g)
woven_gathered include name size g (Err refusal) = Refused refusal

-- a file has at most 4 MiB, and at most what the files in front of it leave of 16 MiB
abbrev pub limit_after : ℕ → ℕ
limit_after bytes = min most_file_bytes (most_source_bytes - bytes)

-- a file within its limit is woven, as the next in number
abbrev pub bytes_gathered : Including → List ℕ → Gathered → List ℕ → Bool → Ending Gathered
bytes_gathered include name g bytes true =
    woven_gathered include name (length bytes) g (woven_as name (woven bytes (length g.files)))
bytes_gathered include name g bytes false = Refused (TooLarge name)

-- a file is read, and then woven
abbrev pub file_gathered : Including → List ℕ → Gathered → Option (List ℕ) → Ending Gathered
file_gathered include name g None = StopsAt name g.bytes
file_gathered include name g (Some bytes) =
    bytes_gathered include name g bytes (nat_le (length bytes) (limit_after g.bytes))

-- the name is one of these
abbrev pub is_among : List ℕ → List (List ℕ) → Bool
is_among name [] = false
is_among name (n ∷ names) = bytes_eq n name || is_among name names

-- no further file may be taken
abbrev pub is_full : Gathered → Bool
is_full g = nat_le most_files (length g.files)

-- an include that can't be taken is refused in the file in which it stands
abbrev pub twice : {T : Type 0} → Pos → Gathered → Ending T
twice pos g = Refused (IncludeTwice (slice_index_or g.files (pos_file pos) []) pos)

-- an include, unless there are enough files or its own was taken
abbrev pub included_unless : Bool → Bool → Contents → Including → Including
included_unless true taken contents include path pos g = twice pos g
included_unless false true contents include path pos g = twice pos g
included_unless false false contents include path pos g = file_gathered include path g (contents path)

-- an include in a file inside which so many further ones may stand in one another: as no file is taken twice and there
-- are at most 64, none stands inside the innermost of 64
unfoldable pub included : Contents → ℕ → Including
included contents zero path pos g = twice pos g
included contents (suc deeper) path pos g =
    included_unless (is_full g) (is_among path g.files) contents (included contents deeper) path pos g

-- what is gathered of a main file, inside which 63 others may stand in one another
unfoldable pub gathered : Contents → List ℕ → Ending Source
gathered contents main =
    and_then (file_gathered (included contents 63) main gathered_none (contents main)) (λ g. Whole (source_of g))
