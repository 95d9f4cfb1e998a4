-- The pieces of a source stand in its files.
use Rattle.std.proofs.Common.{◌≡◌, ◌<◌, ◌≤◌, ◌+◌, ℕ, zero, suc, nat_le, Bool, true, false, List, [], ◌∷◌, ◌++◌, length}
use Rattle.std.proofs.Common.{Option}
use Rattle.std.proofs.Common.{Some, None, Ok, Err, refl, subst, arith, if◌then◌else◌}
use Rattle.std.proofs.lemmas.List.{length-append}
use Rattle.std.proofs.lemmas.Bool.Decides.{nat_tests}
use Rattle.std.specs.Prelude.{Result}
use Rattle.std.specs.Str.{is_utf8}
use Rattle.std.specs.Str.Lossy.{utf8_valid_len}
use Rattle.cat_pos.specs.declared.limits.TheConstants.{MOST_FILES}
use Rattle.cat_pos.specs.declared.pos.Piece.{Piece}
use Rattle.cat_pos.specs.declared.pos.Pos.{Pos}
use Rattle.cat_pos.specs.Limits.{most_files}
use Rattle.cat_pos.specs.Position.{pos_file, position_of}
use Rattle.cat_pos.proofs.Packing.{file_kept}
use Rattle.cat_weave.specs.Lines.{lines_of}
use Rattle.cat_weave.specs.Kinds.{Kind, CodeLine, HeadingLine, IncludeLine, kinds_of}
use Rattle.cat_weave.specs.Woven.{line_position, is_code, segment_at, segments_from, unclosed, woven_unless}
use Rattle.cat_weave.specs.Woven.{woven_lines, woven, segment_position}
use Rattle.cat_weave.specs.declared.segment.Segment.{Segment}
use Rattle.cat_weave.specs.declared.segment.Segment.TheVariants.{Code, Heading, Include}
use Rattle.cat_weave.specs.declared.segment.Woven.{Woven}
use Rattle.cat_weave.specs.declared.segment.WeaveRefusal.{WeaveRefusal}
use Rattle.cat_weave.specs.declared.segment.WeaveRefusal.TheVariants as weaving
use Rattle.cat_weave.specs.declared.source.Source.{Source}
use Rattle.cat_weave.specs.Gathered.{Contents, Gathered, gathered_none, with_piece, with_heading, with_file, source_of}
use Rattle.cat_weave.specs.Gathered.{Ending, Whole, Refused, StopsAt, Including, segments_gathered, woven_as}
use Rattle.cat_weave.specs.Gathered.{woven_gathered, limit_after, bytes_gathered, file_gathered, is_among, is_full}
use Rattle.cat_weave.specs.Gathered.{included_unless, included, gathered}
use Rattle.cat_scope.specs.Names.{AllHave}
use Rattle.cat_scope.proofs.Exported.{all_append}
use Rattle.cat_emitted.proofs.SourceFiles.{OnWhole, on_then}

all_weaker : {A : Type 0} (P R : A → Type 0) (xs : List A) → AllHave P xs → ((x : A) → P x → R x) → AllHave R xs
all_weaker P R [] h go = tt
all_weaker P R (x ∷ xs) h go = (go x h.0, all_weaker P R xs h.1 go)

-- ---- segments of a file

-- a segment stands in that file
abbrev IsIn : ℕ → Segment → Type 0
IsIn file segment = pos_file (segment_position segment) ≡ file

module _ (file : ℕ) (low : file < MOST_FILES) where
  at_line : (n : ℕ) → pos_file (line_position file n) ≡ file
  at_line n = file_kept file n 1 low

  segment_in : (n : ℕ) (after : Bool) (line : Kind) (lines : List Kind)
      → AllHave (IsIn file) (segment_at (line_position file n) after line lines)
  segment_in n false (CodeLine text) lines = (at_line n, tt)
  segment_in n true (CodeLine text) lines = tt
  segment_in n false (HeadingLine level text) lines = (at_line n, tt)
  segment_in n true (HeadingLine level text) lines = (at_line n, tt)
  segment_in n false (IncludeLine path) lines = (at_line n, tt)
  segment_in n true (IncludeLine path) lines = (at_line n, tt)
  segment_in n after _ lines = tt

  segments_in : (after : Bool) (n : ℕ) (lines : List Kind) → AllHave (IsIn file) (segments_from file after n lines)
  unfolding segments_from
  segments_in after n [] = tt
  segments_in after n (line ∷ lines) =
      all_append (IsIn file) (segment_at (line_position file n) after line lines) _ (segment_in n after line lines)
      (segments_in (is_code line) (n + 1) lines)

  -- what holds of the segments of a file that is woven
  OnWoven : Result Woven WeaveRefusal → Type 0
  OnWoven (Ok w) = AllHave (IsIn file) w.segments
  OnWoven (Err refusal) = Unit {0}

  on_unless : (lines : List Kind) (o : Option ℕ) → OnWoven (woven_unless file o (segments_from file false 1 lines))
  unfolding OnWoven
  on_unless lines None = segments_in false 1 lines
  on_unless lines (Some n) = tt

  woven_in : (bytes : List ℕ) → OnWoven (woven bytes file)
  unfolding woven OnWoven
  woven_in bytes = by (is_utf8 bytes) (position_of bytes file (utf8_valid_len bytes))
    where
      by : (b : Bool) (bad : Pos) → OnWoven (if b then woven_lines file (kinds_of false (lines_of bytes))
          else Err (weaving.NotUtf8 bad))
      by true bad = on_unless (kinds_of false (lines_of bytes)) (unclosed 1 (kinds_of false (lines_of bytes)))
      by false bad = tt

-- ---- what is gathered

-- the pieces so far stand in the files so far
abbrev AreIn : Gathered → Type 0
AreIn g = AllHave (λ (piece : Piece). pos_file piece.pos < length g.files) g.pieces

-- more was gathered, and its pieces stand in its files
record IsMore (old new : Gathered) : Type 0 where
  files : length old.files ≤ length new.files
  pieces : AreIn new

abbrev Keeps : Including → Type 0
Keeps include = (path : List ℕ) (pos : Pos) (g : Gathered) → AreIn g → OnWhole (IsMore g) (include path pos g)

same : (g : Gathered) → AreIn g → IsMore g g
same g h = record { files = omega arith; pieces = h }

then_more : (a b c : Gathered) → length a.files ≤ length b.files → IsMore b c → IsMore a c
then_more a b c fewer more = record { files = omega (arith, fewer, more.files); pieces = more.pieces }

on_more : (a b : Gathered) (e : Ending Gathered) → length a.files ≤ length b.files → OnWhole (IsMore b) e
    → OnWhole (IsMore a) e
on_more a b (Whole c) fewer h = then_more a b c fewer h
on_more a b (Refused refusal) fewer h = tt
on_more a b (StopsAt name bytes) fewer h = tt

module _ (include : Including) (keeps : Keeps include) where
  abbrev IsBelow : ℕ → Segment → Type 0
  IsBelow files segment = pos_file (segment_position segment) < files

  segments_kept : (segments : List Segment) (g : Gathered) → AllHave (IsBelow (length g.files)) segments → AreIn g
      → OnWhole (IsMore g) (segments_gathered include segments g)
  unfolding segments_gathered
  segments_kept [] g below has = same g has
  segments_kept (Code piece ∷ segments) g below has =
      on_more g (with_piece piece g) _ (omega arith)
      (segments_kept segments (with_piece piece g) below.1
      (all_append (λ (p : Piece). pos_file p.pos < length g.files) g.pieces (piece ∷ []) has (below.0, tt)))
  segments_kept (Heading level text pos ∷ segments) g below has =
      on_more g (with_heading level text pos g) _ (omega arith)
      (segments_kept segments (with_heading level text pos g) below.1 has)
  segments_kept (Include path pos ∷ segments) g below has =
      on_then (IsMore g) (IsMore g) (include path pos g) (segments_gathered include segments) (keeps path pos g has)
      (λ h more. on_more g h _ more.files
      (segments_kept segments h
      (all_weaker (IsBelow (length g.files)) (IsBelow (length h.files)) segments below.1
      (λ s one. omega (arith, one, more.files))) more.pieces))

  file_kept_in : (name : List ℕ) (g : Gathered) (o : Option (List ℕ)) → length g.files < most_files → AreIn g
      → OnWhole (IsMore g) (file_gathered include name g o)
  unfolding OnWoven
  file_kept_in name g None room has = tt
  file_kept_in name g (Some bytes) room has = by (nat_le (length bytes) (limit_after g.bytes))
    where
      counted : length (g.files ++ name ∷ []) ≡ length g.files + 1
      counted = length-append g.files (name ∷ [])

      wove : (r : Result Woven WeaveRefusal) → OnWoven (length g.files) room r
          → OnWhole (IsMore g) (woven_gathered include name (length bytes) g (woven_as name r))
      wove (Ok w) all =
          on_more g (with_file name (length bytes) g) _ (omega (arith, counted))
          (segments_kept w.segments (with_file name (length bytes) g)
          (all_weaker (IsIn (length g.files)) (IsBelow (length (g.files ++ name ∷ []))) w.segments all
          (λ s is. omega (arith, is, counted)))
          (all_weaker (λ (p : Piece). pos_file p.pos < length g.files)
          (λ (p : Piece). pos_file p.pos < length (g.files ++ name ∷ [])) g.pieces has
          (λ p below. omega (arith, below, counted))))
      wove (Err (weaving.NotUtf8 pos)) all = tt
      wove (Err (weaving.FenceOpen pos)) all = tt
      wove (Err weaving.Memory) all = tt

      by : (b : Bool) → OnWhole (IsMore g) (bytes_gathered include name g bytes b)
      by true = wove (woven bytes (length g.files)) (woven_in (length g.files) room bytes)
      by false = tt

included_keeps : (contents : Contents) (deeper : ℕ) → Keeps (included contents deeper)
unfolding included
included_keeps contents zero path pos g has = tt
included_keeps contents (suc deeper) path pos g has =
    by (is_full g) refl (is_among path g.files) (included_keeps contents deeper)
  where
    by : (full : Bool) → is_full g ≡ full → (taken : Bool) → Keeps (included contents deeper)
        → OnWhole (IsMore g) (included_unless full taken contents (included contents deeper) path pos g)
    by true e taken below = tt
    by false e true below = tt
    by false e false below =
        file_kept_in (included contents deeper) below path g (contents path) (grind (arith, nat_tests, e)) has

pub pieces_in : (contents : Contents) (main : List ℕ) (source : Source) → gathered contents main ≡ Whole source
    → AllHave (λ piece. pos_file piece.pos < length source.files) source.pieces
unfolding gathered
pieces_in contents main source is =
    subst (OnWhole (λ (s : Source). AllHave (λ (p : Piece). pos_file p.pos < length s.files) s.pieces)) is
    (on_then (IsMore gathered_none) (λ (s : Source). AllHave (λ (p : Piece). pos_file p.pos < length s.files) s.pieces)
    (file_gathered (included contents 63) main gathered_none (contents main)) (λ g. Whole (source_of g))
    (file_kept_in (included contents 63) (included_keeps contents 63) main gathered_none (contents main) (omega arith)
    tt)
    (λ g more. more.pieces))
