-- What the code keeps while it gathers.
use Rattle.std.specs.Prelude.{◌≡◌, ℕ, ◌+◌, ◌-◌, ◌<◌, ◌≤◌, true, List, ◌++◌, length, All, Result, Ok, Err, Vec}
use Rattle.std.specs.declared.alloc.Global.{Global}
use Rattle.cat_pos.specs.Position.{pos_file, pos_column}
use Rattle.cat_pos.specs.Readable.{AreReadable}
use Rattle.cat_pos.specs.Limits.{most_files, most_file_bytes, most_source_bytes}
use Rattle.cat_io.specs.Shelf.{Shelved, Gives, Keeps, Reads}
use Rattle.cat_io.specs.declared.shelf.ShelfFault.TheVariants as fault
use Rattle.cat_weave.specs.Woven.{woven, code_size, code_total, segment_position}
use Rattle.cat_weave.specs.declared.segment.Segment.{Segment}
use Rattle.cat_weave.specs.Gathered.{Contents, Ending, Gathered, gathered, woven_as, limit_after, with_file, is_among}
use Rattle.cat_weave.specs.inside.Worklist.{gather_segments, include_with}
use Rattle.cat_weave.specs.Causes.{AreTold, pieces_total}
use Rattle.cat_weave.specs.declared.gatherer.Gathering.{Gathering}
use Rattle.cat_weave.specs.declared.source.Source.{Source}
use Rattle.cat_weave.specs.declared.source.GatherRefusal.{GatherRefusal}
use Rattle.cat_weave.specs.declared.source.GatherRefusal.TheVariants.{NotUtf8, FenceOpen, IncludeTwice, Missing}
use Rattle.cat_weave.specs.declared.source.GatherRefusal.TheVariants.{ReadFault, TooLarge, Memory}

-- what the code has gathered
abbrev pub gathered_of : Gathering → Gathered
gathered_of g = record { files = g.files; bytes = g.bytes; pieces = g.pieces; headings = g.headings }

-- a segment that stands in a file taken, at the beginning of a line
pub record IsInFiles (files : ℕ) (segment : Segment) : Type 0 where
  pub file : pos_file (segment_position segment) < files
  pub line : (segment_position segment).line ≤ most_file_bytes
  pub column : pos_column (segment_position segment) ≡ 1
  pub size : code_size segment ≤ most_file_bytes

-- the bounds of what is gathered and of these segments to come
pub record AreBounded (g : Gathered) (segments : List Segment) : Type 0 where
  pub few : length g.files ≤ most_files
  pub all : g.bytes ≤ most_source_bytes
  pub short : AreReadable g.pieces
  pub code : pieces_total g.pieces + code_total segments ≤ g.bytes
  pub starts : All (IsInFiles (length g.files)) segments

-- a read of that file was refused so
abbrev pub IsReadFault : List ℕ → ℕ → Shelved → Shelved → GatherRefusal → Type 0
IsReadFault name limit old new (Missing n) = (n ≡ name) × Reads name limit old new (Err fault.Missing)
IsReadFault name limit old new (ReadFault n) = (n ≡ name) × Reads name limit old new (Err fault.Failed)
IsReadFault name limit old new (TooLarge n) = (n ≡ name) × Reads name limit old new (Err fault.Long)
IsReadFault name limit old new Memory = Keeps name old new
IsReadFault name limit old new (NotUtf8 n pos) = ⊥
IsReadFault name limit old new (FenceOpen n pos) = ⊥
IsReadFault name limit old new (IncludeTwice n pos) = ⊥

-- a read of that file gave its bytes, or was refused so
abbrev pub ReadsFile : List ℕ → ℕ → Shelved → Shelved → Result (Vec ℕ Global) GatherRefusal → Type 0
ReadsFile name limit old new (Ok bytes) = Reads name limit old new (Ok bytes)
ReadsFile name limit old new (Err refusal) = IsReadFault name limit old new refusal

-- these bytes of a file give these segments, or are refused so
pub record Weaves (told : Contents) (name : List ℕ) (g : Gathered) (bytes : List ℕ)
    (own : Result (List Segment) GatherRefusal) : Type 0 where
  pub read : Gives (told name) (limit_after g.bytes) bytes
  pub segments : woven_as name (woven bytes (length g.files)) ≡ own

-- a file was taken: its segments stand in front of those to come
pub record Takes (told : Contents) (name : List ℕ) (old : Gathered) (segments : List Segment) (new : Gathered)
    (after : List Segment) : Type 0 where
  pub bytes : List ℕ
  pub own : List Segment
  pub weaves : Weaves told name old bytes (Ok own)
  pub gathered_is : new ≡ with_file name (length bytes) old
  pub segments_are : after ≡ own ++ segments

-- what is left to take: bytes of further files, and segments
abbrev pub left_to_take : Gathered → List Segment → ℕ
left_to_take g segments = (most_source_bytes - g.bytes) + length segments

-- a file was taken, the shelf is as it was, and no more is left to take than there was
pub record IsTaken (old new : Shelved) (name : List ℕ) (g : Gathered) (segments : List Segment) (h : Gathered)
    (after : List Segment) : Type 0 where
  pub same : new ≡ old
  pub takes : Takes old.content name g segments h after
  pub fewer : left_to_take h after ≤ left_to_take g segments

-- taking a file was refused so
abbrev pub IsRefusedTake : List ℕ → Gathered → Shelved → Shelved → GatherRefusal → Type 0
IsRefusedTake name g old new (NotUtf8 n pos) =
    (bytes : List ℕ) × (new ≡ old) × Weaves old.content name g bytes (Err (NotUtf8 n pos))
IsRefusedTake name g old new (FenceOpen n pos) =
    (bytes : List ℕ) × (new ≡ old) × Weaves old.content name g bytes (Err (FenceOpen n pos))
IsRefusedTake name g old new refusal = IsReadFault name (limit_after g.bytes) old new refusal

-- files of these names hold the same
abbrev pub SameOn : List (List ℕ) → Contents → Contents → Type 0
SameOn files contents other = (name : List ℕ) → is_among name files ≡ true → other name ≡ contents name

-- where the files taken hold what was read of them, gathering goes on so
pub record GoesOn (told : Contents) (main : List ℕ) (files : List (List ℕ)) (on : Contents → Ending Source) : Type 0
  where
    pub contents : Contents
    pub agrees : AreTold told contents
    pub goes_on : (other : Contents) → SameOn files contents other → gathered other main ≡ on other

-- gathering goes on with these segments
abbrev pub AreToCome : Contents → List ℕ → Gathered → List Segment → Type 0
AreToCome told main g segments =
    GoesOn told main g.files (λ contents. gather_segments (include_with contents (64 - length g.files)) segments g)

-- of each main file of which gathering came here, it goes on with these segments, within their bounds
pub record LeadsOn (told : Contents) (comes : List ℕ → Type 0) (g : Gathered) (segments : List Segment) : Type 0 where
  pub bounded : AreBounded g segments
  pub leads : (main : List ℕ) → comes main → AreToCome told main g segments

-- the shelf is as it was, and no more is left to take
pub record IsKept (old new : Shelved) (left most : ℕ) : Type 0 where
  pub same : new ≡ old
  pub fewer : left ≤ most
