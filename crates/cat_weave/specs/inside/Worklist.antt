-- Gathering by a list of the segments to come, in front of which the segments of each included file are put.
use Rattle.std.specs.Prelude.{ℕ, zero, suc, nat_le, Bool, true, false, List, [], ◌∷◌, ◌++◌, length, Option, Some, None}
use Rattle.std.specs.Prelude.{Result, Ok, Err}
use Rattle.cat_pos.specs.declared.pos.Pos.{Pos}
use Rattle.cat_weave.specs.Woven.{woven}
use Rattle.cat_weave.specs.declared.segment.Segment.{Segment}
use Rattle.cat_weave.specs.declared.segment.Segment.TheVariants.{Code, Heading, Include}
use Rattle.cat_weave.specs.Gathered.{Contents, Gathered, with_piece, with_heading, with_file, source_of, limit_after}
use Rattle.cat_weave.specs.Gathered.{Ending, Whole, Refused, StopsAt, woven_as, is_among, twice}
use Rattle.cat_weave.specs.declared.source.Source.{Source}
use Rattle.cat_weave.specs.declared.source.GatherRefusal.{GatherRefusal}
use Rattle.cat_weave.specs.declared.source.GatherRefusal.TheVariants.{TooLarge}

-- where an include leads, from its path and position, the segments to come after it and what is gathered so far
abbrev pub Leading : Type 0
Leading = List ℕ → Pos → List Segment → Gathered → Ending Source

-- where the segments to come lead
unfoldable pub gather_segments : Leading → List Segment → Gathered → Ending Source
gather_segments include [] g = Whole (source_of g)
gather_segments include (Code piece ∷ segments) g = gather_segments include segments (with_piece piece g)
gather_segments include (Heading level text pos ∷ segments) g =
    gather_segments include segments (with_heading level text pos g)
gather_segments include (Include path pos ∷ segments) g = include path pos segments g

-- the segments of a file are put in front
abbrev pub put_in_front : Leading → List ℕ → ℕ → List Segment → Gathered → Result (List Segment) GatherRefusal
    → Ending Source
put_in_front include name size segments g (Ok own) = gather_segments include (own ++ segments) (with_file name size g)
put_in_front include name size segments g (Err refusal) = Refused refusal

-- a file within its limit is woven, as the next in number
abbrev pub weave_within : Leading → List ℕ → List Segment → Gathered → List ℕ → Bool → Ending Source
weave_within include name segments g bytes true =
    put_in_front include name (length bytes) segments g (woven_as name (woven bytes (length g.files)))
weave_within include name segments g bytes false = Refused (TooLarge name)

-- a file is read, and then woven
abbrev pub take_file : Leading → List ℕ → List Segment → Gathered → Option (List ℕ) → Ending Source
take_file include name segments g None = StopsAt name g.bytes
take_file include name segments g (Some bytes) =
    weave_within include name segments g bytes (nat_le (length bytes) (limit_after g.bytes))

-- an include, unless its file was taken
abbrev pub include_unless : Bool → Contents → Leading → Leading
include_unless true contents include path pos segments g = twice pos g
include_unless false contents include path pos segments g = take_file include path segments g (contents path)

-- an include where so many further files may be taken
unfoldable pub include_with : Contents → ℕ → Leading
include_with contents zero path pos segments g = twice pos g
include_with contents (suc more) path pos segments g =
    include_unless (is_among path g.files) contents (include_with contents more) path pos segments g
