-- How many segments there are, how much code they have, and where they stand.
use Rattle.std.proofs.Common.{◌≡◌, ◌≢◌, ◌∙◌, ap, sym, subst, ℕ, suc, ◌+◌, ◌≤◌, Bool, true, false, cond, List, [], ◌∷◌}
use Rattle.std.proofs.Common.{length, refl, arith, length-append, Some, None, Option, Ok, Err, Result}
use Rattle.std.proofs.lemmas.List.Elements.{All-nil, All-cons, All-append}
use Rattle.std.specs.List.{concat}
use Rattle.std.specs.Prelude.{All, IfOk}
use Rattle.cat_pos.specs.Position.{is_line_feed}
use Rattle.cat_weave.specs.Lines.{lines_of, in_front, bare}
use Rattle.cat_weave.specs.Kinds.{Kind, LawLine, OpeningLine, CodeLine, ClosingLine, HeadingLine, IncludeLine}
use Rattle.cat_weave.specs.Kinds.{kinds_of, kind_of, law_kind, is_opening, is_heading, is_include, is_closing}
use Rattle.cat_weave.specs.Kinds.{heading_of, include_of, stays_inside}
use Rattle.cat_weave.specs.Woven.{line_position, code_text, is_code, segment_at, segments_from, unclosed, woven_unless}
use Rattle.cat_weave.specs.Woven.{woven_lines, code_total, segment_position, IsLineStart, AreWithin}
use Rattle.cat_weave.specs.inside.Reading.{law_kinds}
use Rattle.cat_weave.specs.declared.segment.Segment.{Segment}
use Rattle.cat_weave.specs.declared.segment.Woven.{Woven}
use Rattle.cat_weave.specs.declared.segment.WeaveRefusal.{WeaveRefusal}
use Rattle.cat_weave.specs.declared.segment.WeaveRefusal.TheVariants.{Memory}

-- each line has a byte
length-in_front : (byte : ℕ) (lines : List (List ℕ)) → length (in_front byte lines) ≤ length lines + 1
length-in_front byte [] = omega arith
length-in_front byte (line ∷ lines) = omega arith

length-lines_of : (text : List ℕ) → length (lines_of text) ≤ length text
unfolding lines_of
length-lines_of [] = omega arith
length-lines_of (byte ∷ text) =
    let rest = length-lines_of text in
    let front = length-in_front byte (lines_of text) in
    elim (is_line_feed byte) as (λ v. length (cond v ((byte ∷ []) ∷ lines_of text) (in_front byte (lines_of text))) ≤
    suc (length text)) [ true ↦ omega arith | false ↦ omega arith ]

concat-in_front : (byte : ℕ) (lines : List (List ℕ)) → concat (in_front byte lines) ≡ byte ∷ concat lines
concat-in_front byte [] = refl
concat-in_front byte (line ∷ lines) = refl

concat-lines_of : (text : List ℕ) → concat (lines_of text) ≡ text
unfolding lines_of
concat-lines_of [] = refl
concat-lines_of (byte ∷ text) =
    let rest = ap (λ more. byte ∷ more) (concat-lines_of text) in
    let front = concat-in_front byte (lines_of text) ∙ rest in
    elim (is_line_feed byte) as (λ v. concat (cond v ((byte ∷ []) ∷ lines_of text) (in_front byte (lines_of text))) ≡
    byte ∷ text) [ true ↦ rest | false ↦ front ]

length-kinds_of : (inside : Bool) (lines : List (List ℕ)) → length (kinds_of inside lines) ≡ length lines
unfolding kinds_of
length-kinds_of inside [] = refl
length-kinds_of inside (line ∷ lines) = ap suc (length-kinds_of (stays_inside (kind_of inside line)) lines)

-- at most one segment for each line
length-segment_at : (file n : ℕ) (after : Bool) (line : Kind) (lines : List Kind) →
    length (segment_at (line_position file n) after line lines) ≤ 1
length-segment_at file n false (CodeLine text) lines = omega arith
length-segment_at file n false line lines = omega arith
length-segment_at file n true (CodeLine text) lines = omega arith
length-segment_at file n true line lines = omega arith

length-segments_from : (file n : ℕ) (after : Bool) (lines : List Kind) →
    length (segments_from file after n lines) ≤ length lines
unfolding segments_from
length-segments_from file n after [] = omega arith
length-segments_from file n after (line ∷ lines) =
    let first = length-segment_at file n after line lines in
    let rest = length-segments_from file (n + 1) (is_code line) lines in
    omega (
      arith,
      length-append (segment_at (line_position file n) after line lines)
          (segments_from file (is_code line) (n + 1) lines),
    )

-- how much code the lines have
abbrev kind_size : Kind → ℕ
kind_size (CodeLine text) = length text
kind_size _ = 0

abbrev kinds_size : List Kind → ℕ
kinds_size [] = 0
kinds_size (line ∷ lines) = kind_size line + kinds_size lines

law_kind-size : (line : List ℕ) → kind_size (law_kind line) ≡ 0
unfolding law_kind
law_kind-size line =
    elim (is_opening line) as (λ v. kind_size (cond v OpeningLine
    (cond (is_heading line) (heading_of line) (cond (is_include line) (include_of line) LawLine))) ≡ 0) [
      | true ↦ refl
      | false ↦ elim (is_heading line) as (λ v. kind_size (cond v (heading_of line)
          (cond (is_include line) (include_of line) LawLine)) ≡ 0) [
            | true ↦ refl
            | false ↦ elim (is_include line) as (λ v. kind_size (cond v (include_of line) LawLine) ≡ 0) [
              | true ↦ refl
              | false ↦ refl
            ]
          ]
    ]

kind_of-size : (inside : Bool) (line : List ℕ) → kind_size (kind_of inside line) ≤ length line
unfolding kind_of
kind_of-size false line = omega (arith, law_kind-size (bare line))
kind_of-size true line =
    elim (is_closing (bare line)) as (λ v. kind_size (cond v ClosingLine (CodeLine line)) ≤ length line) [
      | true ↦
          omega arith
      | false ↦ omega arith
    ]

kinds_of-size : (inside : Bool) (lines : List (List ℕ)) → kinds_size (kinds_of inside lines) ≤ length (concat lines)
unfolding kinds_of
kinds_of-size inside [] = omega arith
kinds_of-size inside (line ∷ lines) =
    let first = kind_of-size inside line in
    let rest = kinds_of-size (stays_inside (kind_of inside line)) lines in
    omega (arith, length-append line (concat lines))

code_in_segments : (file n : ℕ) (after : Bool) (lines : List Kind) →
    cond after (length (code_text lines)) 0 + code_total (segments_from file after n lines) ≤ kinds_size lines
unfolding code_text segments_from
code_in_segments file n false [] = omega arith
code_in_segments file n true [] = omega arith
code_in_segments file n false (CodeLine text ∷ lines) =
    omega (arith, length-append text (code_text lines), code_in_segments file (n + 1) true lines)
code_in_segments file n false (line ∷ lines) = omega (arith, code_in_segments file (n + 1) false lines)
code_in_segments file n true (CodeLine text ∷ lines) =
    omega (arith, length-append text (code_text lines), code_in_segments file (n + 1) true lines)
code_in_segments file n true (line ∷ lines) = omega (arith, code_in_segments file (n + 1) false lines)

-- each segment stands in a line of its own
abbrev StartsLine : ℕ → ℕ → Segment → Type 0
StartsLine file m segment = IsLineStart file m (segment_position segment)

one_start : (file n m : ℕ) (segment : Segment) → segment_position segment ≡ line_position file n → n ≤ m →
    All (StartsLine file m) (segment ∷ [])
one_start file n m segment is below =
    All-cons (StartsLine file m) segment [] (rw is (record { begins = refl; within = below }))
    (All-nil (StartsLine file m))

start_segment : (file n m : ℕ) (after : Bool) (line : Kind) (lines : List Kind) → n ≤ m →
    All (StartsLine file m) (segment_at (line_position file n) after line lines)
start_segment file n m false (CodeLine text) lines below = one_start file n m _ refl below
start_segment file n m false (HeadingLine level text) lines below = one_start file n m _ refl below
start_segment file n m false (IncludeLine path) lines below = one_start file n m _ refl below
start_segment file n m false line lines below = All-nil (StartsLine file m)
start_segment file n m true (HeadingLine level text) lines below = one_start file n m _ refl below
start_segment file n m true (IncludeLine path) lines below = one_start file n m _ refl below
start_segment file n m true line lines below = All-nil (StartsLine file m)

start_segments : (file n m : ℕ) (after : Bool) (lines : List Kind) → n + length lines ≤ m + 1 →
    All (StartsLine file m) (segments_from file after n lines)
unfolding segments_from
start_segments file n m after [] below = All-nil (StartsLine file m)
start_segments file n m after (line ∷ lines) below =
    All-append (StartsLine file m) (segment_at (line_position file n) after line lines)
    (segments_from file (is_code line) (n + 1) lines)
    (start_segment file n m after line lines (omega arith))
    (start_segments file (n + 1) m (is_code line) lines (omega arith))

segments_within : (file : ℕ) (text : List ℕ) → AreWithin (length text) file
    (segments_from file false 1 (law_kinds text))
segments_within file text =
    let lines = length-lines_of text in
    let kinds = length-kinds_of false (lines_of text) in
    let size = kinds_of-size false (lines_of text) in
    let whole = ap length (concat-lines_of text) in
    record {
      few = omega (arith, length-segments_from file 1 false (law_kinds text));
      code = omega (arith, code_in_segments file 1 false (law_kinds text));
      starts = start_segments file 1 (length text) false (law_kinds text) (omega arith);
    }

within_ok : (file : ℕ) (text : List ℕ) (w : Woven) (opened : Option ℕ) →
    Ok w ≡ woven_unless file opened (segments_from file false 1 (law_kinds text))
    → AreWithin (length text) file w.segments
within_ok file text w None is =
    let same : w ≡ record { segments = segments_from file false 1 (law_kinds text) } = cc in
    subst (λ (v : Woven). AreWithin (length text) file v.segments) (sym same) (segments_within file text)
within_ok file text w (Some n) is = cc

-- what is woven of a text is within its bounds
pub woven_within : (file : ℕ) (text : List ℕ) (r : Result Woven WeaveRefusal) →
    (r ≢ Err Memory → r ≡ woven_lines file (law_kinds text)) → IfOk r (λ w. AreWithin (length text) file w.segments)
woven_within file text (Ok w) gives = within_ok file text w (unclosed 1 (law_kinds text)) (gives (λ same. cc))
woven_within file text (Err refusal) gives = tt
