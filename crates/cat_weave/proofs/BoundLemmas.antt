-- The bounds of what is gathered, from one segment to the next.
use Rattle.std.proofs.Common.{◌≡◌, ◌∙◌, ap, sym, subst, ℕ, ◌+◌, ◌<◌, ◌≤◌, List, [], ◌∷◌, ◌++◌, length, arith}
use Rattle.std.proofs.Common.{length-append}
use Rattle.std.proofs.lemmas.List.Elements.{All-nil, All-cons, All-head, All-tail, All-append, All-push, All-weaker}
use Rattle.std.specs.Prelude.{All}
use Rattle.cat_pos.specs.declared.pos.Piece.{Piece}
use Rattle.cat_pos.proofs.Packing.{file_kept, column_kept}
use Rattle.cat_pos.specs.Position.{pos_file, pos_column}
use Rattle.cat_weave.specs.Woven.{segment_position, code_size, code_total, AreWithin}
use Rattle.cat_weave.specs.declared.segment.Heading.{Heading as Headed}
use Rattle.cat_weave.specs.declared.segment.Segment.{Segment}
use Rattle.cat_weave.specs.declared.segment.Segment.TheVariants.{Code}
use Rattle.cat_weave.specs.Gathered.{Gathered, gathered_none, with_file, limit_after}
use Rattle.cat_pos.specs.Readable.{IsReadable}
use Rattle.cat_pos.specs.Limits.{most_files, most_file_bytes}
use Rattle.cat_weave.specs.Causes.{pieces_total, AreReadableTogether}
use Rattle.cat_weave.specs.inside.UnderWay.{IsInFiles, AreBounded}

pieces_total-push : (pieces : List Piece) (piece : Piece) →
    pieces_total (pieces ++ piece ∷ []) ≡ pieces_total pieces + length piece.text
pieces_total-push [] piece = omega arith
pieces_total-push (p ∷ pieces) piece = omega (arith, pieces_total-push pieces piece)

code_total-append : (segments more : List Segment)
    → code_total (segments ++ more) ≡ code_total segments + code_total more
code_total-append [] more = omega arith
code_total-append (segment ∷ segments) more = omega (arith, code_total-append segments more)

-- no segment has more code than all
size_in_total : (segments : List Segment) → All (λ segment. code_size segment ≤ code_total segments) segments
size_in_total [] = All-nil (λ segment. code_size segment ≤ 0)
size_in_total (segment ∷ segments) =
    All-cons (λ p. code_size p ≤ code_size segment + code_total segments) segment segments (omega arith)
    (All-weaker (λ p. code_size p ≤ code_total segments) (λ p. code_size p ≤ code_size segment + code_total segments)
    (λ p small. omega (arith, small)) segments (size_in_total segments))

pub bounded_none : AreBounded gathered_none []
bounded_none =
    record {
      few = omega arith;
      all = omega arith;
      short = All-nil IsReadable;
      code = omega arith;
      starts = All-nil
          (IsInFiles 0);
    }

pub bounded_code : (g : Gathered) (pieces : List Piece) (piece : Piece) (segment : Segment) (segments : List Segment) →
    segment ≡ Code piece → pieces ≡ g.pieces ++ piece ∷ [] → AreBounded g (segment ∷ segments) →
    AreBounded (record g { pieces = pieces }) segments
bounded_code g pieces piece segment segments is_segment is bounded =
    let here = All-head (IsInFiles (length g.files)) segment segments bounded.starts in
    let here_code = rw is_segment at here in
    let short : IsReadable piece =
    record {
      size = here_code.size;
      line = omega (arith, here_code.line);
      column = omega
          (arith, here_code.column);
    } in
    let size : code_size segment ≡ length piece.text = ap code_size is_segment in
    rw is (record {
      few = bounded.few;
      all = bounded.all;
      short = All-push IsReadable g.pieces piece bounded.short short;
      code = omega (arith, pieces_total-push g.pieces piece, bounded.code, size);
      starts = All-tail (IsInFiles (length g.files)) segment segments bounded.starts;
    })

pub bounded_other : (g : Gathered) (segment : Segment) (segments : List Segment) → AreBounded g (segment ∷ segments)
    → AreBounded g segments
bounded_other g segment segments bounded = record {
  few = bounded.few;
  all = bounded.all;
  short = bounded.short;
  code = omega (arith, bounded.code);
  starts = All-tail (IsInFiles (length g.files)) segment segments bounded.starts;
}

pub bounded_heading : (g : Gathered) (headings : List Headed) (segment : Segment) (segments : List Segment) →
    AreBounded g (segment ∷ segments) → AreBounded (record g { headings = headings }) segments
bounded_heading g headings segment segments bounded =
    let rest = bounded_other g segment segments bounded in
    record { few = rest.few; all = rest.all; short = rest.short; code = rest.code; starts = rest.starts }

-- segments of one file more
in_file : (size file : ℕ) (segments : List Segment) → size ≤ most_file_bytes → file < most_files
    → AreWithin size file segments → All (IsInFiles (file + 1)) segments
in_file size file segments small known within =
    let sizes = size_in_total segments in
    λ k d inside.
    let starts = within.starts k d inside in
    let size_here = sizes k d inside in
    record {
      file = omega (arith, ap pos_file starts.begins ∙ file_kept file (segment_position d).line 1 known);
      line = omega (arith, starts.within);
      column = ap pos_column starts.begins ∙ column_kept file (segment_position d).line 1 known;
      size = omega (arith, size_here, within.code);
    }

pub bounded_file : (old : Gathered) (name bytes : List ℕ) (own segments : List Segment) →
    length bytes ≤ limit_after old.bytes → AreWithin (length bytes) (length old.files) own → length old.files < 64 →
    AreBounded old segments
    → AreBounded (with_file name (length bytes) old) (own ++ segments)
bounded_file old name bytes own segments short within room bounded =
    let number = length-append old.files (name ∷ []) in
    let before =
    All-weaker (IsInFiles (length old.files)) (IsInFiles (length old.files + 1))
    (λ segment is. record { file = omega (arith, is.file); line = is.line; column = is.column; size = is.size })
    segments bounded.starts in
    let starts =
    All-append (IsInFiles (length old.files + 1)) own segments
    (in_file (length bytes) (length old.files) own (omega arith) room within) before in
    record {
      few = omega (arith, number);
      all = omega (arith, bounded.all);
      short = bounded.short;
      code = omega (arith, code_total-append own segments, bounded.code, within.code);
      starts = subst (λ (n : ℕ). All (IsInFiles n) (own ++ segments)) (sym number) starts;
    }

pub bounded_taken : (g : Gathered) (name bytes : List ℕ) (files : List (List ℕ)) (size : ℕ)
    (own segments after : List Segment) → files ≡ g.files ++ name ∷ [] → size ≡ length bytes → after ≡ own ++ segments →
    length bytes ≤ limit_after g.bytes
    → AreWithin (length bytes) (length g.files) own → length g.files < 64 → AreBounded g segments →
    AreBounded (record g { files = files; bytes = g.bytes + size }) after
bounded_taken g name bytes files size own segments after files_are size_is are short within room bounded =
    rw (files_are, size_is, are) (bounded_file g name bytes own segments short within room bounded)

pub readable : (g : Gathered) → AreBounded g [] → AreReadableTogether g.pieces
readable g bounded = record { each = bounded.short; together = omega (arith, bounded.code, bounded.all) }
