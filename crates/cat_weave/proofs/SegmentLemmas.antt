-- The segments of lines, one line or one block at a time.
use Rattle.std.proofs.Common.{◌≡◌, ◌≢◌, ◌∙◌, ap, sym, ℕ, ◌+◌, ◌-◌, ◌≤◌, Bool, true, false, cond, List, [], ◌∷◌, ◌++◌}
use Rattle.std.proofs.Common.{length, take, drop, refl, arith, append_assoc, append-nil, length-append, Some, None}
use Rattle.std.proofs.Common.{Option, Ok, Err, Result, ⊎_elim}
use Rattle.std.proofs.lemmas.List.{drop_at, take_at, drop-drop, take-append-drop, length-take-le}
use Rattle.std.proofs.lemmas.Bool.{cases_Bool}
use Rattle.std.proofs.lemmas.Str.{is_utf8-from_IsUtf8, IsUtf8-from_is_utf8}
use Rattle.std.specs.List.{concat}
use Rattle.std.specs.Str.{IsUtf8, is_utf8}
use Rattle.std.specs.Str.Lossy.{utf8_valid_len}
use Rattle.std.specs.Option.{option_to_list}
use Rattle.std.specs.Prelude.{MatchResult}
use Rattle.cat_pos.specs.declared.pos.Pos.{Pos}
use Rattle.cat_pos.specs.Position.{position_of}
use Rattle.cat_weave.specs.Lines.{lines_of, bare}
use Rattle.cat_weave.specs.Kinds.{Kind, LawLine, OpeningLine, CodeLine, ClosingLine, HeadingLine, IncludeLine}
use Rattle.cat_weave.specs.Kinds.{kinds_of, kind_of, law_kind, is_closing, stays_inside}
use Rattle.cat_weave.specs.Woven.{line_position, code_text, segments_from, closes, unclosed, woven_unless, woven_lines}
use Rattle.cat_weave.specs.Woven.{woven}
use Rattle.cat_weave.specs.inside.Reading.{law_kinds, block_kinds, code_lines, IsCodeBefore, code_segment, IsStep}
use Rattle.cat_weave.specs.inside.Reading.{IsOpen}
use Rattle.cat_weave.specs.declared.weaver.Step.{Step}
use Rattle.cat_weave.specs.declared.segment.Segment.{Segment}
use Rattle.cat_weave.specs.declared.segment.Segment.TheVariants.{Heading, Include}
use Rattle.cat_weave.specs.declared.segment.Woven.{Woven}
use Rattle.cat_weave.specs.declared.segment.WeaveRefusal.{WeaveRefusal}
use Rattle.cat_weave.specs.declared.segment.WeaveRefusal.TheVariants.{NotUtf8, FenceOpen, Memory}

-- the definitions, one line at a time
pub law_kinds_first : (text line after : List ℕ) → lines_of text ≡ line ∷ lines_of after →
    law_kinds text ≡ law_kind (bare line) ∷ kinds_of (stays_inside (law_kind (bare line))) (lines_of after)
unfolding kinds_of kind_of
law_kinds_first text line after first = rw first refl

pub block_kinds_closed : (text line after : List ℕ) → lines_of text ≡ line ∷ lines_of after →
    is_closing (bare line) ≡ true → block_kinds text ≡ ClosingLine ∷ law_kinds after
unfolding kinds_of kind_of
block_kinds_closed text line after first closing = rw (first, closing) refl

pub block_kinds_code : (text line after : List ℕ) → lines_of text ≡ line ∷ lines_of after →
    is_closing (bare line) ≡ false → block_kinds text ≡ CodeLine line ∷ block_kinds after
unfolding kinds_of kind_of
block_kinds_code text line after first other = rw (first, other) refl

pub law_kinds_none : law_kinds [] ≡ []
unfolding kinds_of lines_of
law_kinds_none = refl

pub block_kinds_none : block_kinds [] ≡ []
unfolding kinds_of lines_of
block_kinds_none = refl

-- what the first line is, as it was read
pub line_read : (text line after read : List ℕ) (kind : Kind) → lines_of text ≡ line ∷ lines_of after →
    read ≡ bare line → kind ≡ law_kind read → law_kinds text ≡ kind ∷ kinds_of (stays_inside kind) (lines_of after)
line_read text line after read kind first is_bare is_kind =
    rw (is_kind, is_bare) (law_kinds_first text line after first)

-- the rest of a text after one line more, and what stands in front of it
pub rest_after : (text rest line after : List ℕ) → length rest ≤ length text →
    rest ≡ drop (length text - length rest) text → rest ≡ line ++ after → after ≡ drop (length text - length after) text
rest_after text rest line after within is_rest parts =
    let sizes = ap length parts ∙ length-append line after in
    let at : length text - length rest + length line ≡ length text - length after = omega (arith, sizes) in
    let line_off = drop_at line after (length line) refl in
    sym (sym (ap (λ n. drop n text) at) ∙ sym (drop-drop (length line) (length text - length rest) text) ∙ ap
    (λ r. drop (length line) r) (sym is_rest ∙ parts) ∙ line_off)

pub front_after : (text rest line after : List ℕ) → length rest ≤ length text →
    rest ≡ drop (length text - length rest) text → rest ≡ line ++ after
    → take (length text - length after) text ≡ take (length text - length rest) text ++ line
front_after text rest line after within is_rest parts =
    let front = take (length text - length rest) text in
    let sizes = ap length parts ∙ length-append line after in
    let whole : text ≡ front ++ line ++ after =
    sym (take-append-drop (length text - length rest) text) ∙ ap (λ r. front ++ r) (sym is_rest ∙ parts) ∙ sym
    (append_assoc front line after) in
    let size : length (front ++ line) ≡ length text - length after =
    length-append front line ∙ omega (
      arith,
      sizes,
      length-take-le (length text - length rest) text
          (omega arith),
    ) in
    ap (λ t. take (length text - length after) t) whole ∙ take_at (front ++ line) after (length text - length after)
    size

pub front_is : (text : List ℕ) (n : ℕ) → take (n - 0) (drop 0 text) ≡ take n text
front_is text n = let same : n - 0 ≡ n = omega arith in ap (λ m. take m text) same

-- code lines in front of a closing line
code_text_closed : (texts : List (List ℕ)) (rest : List Kind) →
    code_text (code_lines texts ++ ClosingLine ∷ rest) ≡ concat texts
unfolding code_text
code_text_closed [] rest = refl
code_text_closed (text ∷ texts) rest = ap (λ more. text ++ more) (code_text_closed texts rest)

closes_closed : (texts : List (List ℕ)) (rest : List Kind) → closes (code_lines texts ++ ClosingLine ∷ rest) ≡ true
unfolding closes
closes_closed [] rest = refl
closes_closed (text ∷ texts) rest = closes_closed texts rest

closes_open : (texts : List (List ℕ)) → closes (code_lines texts ++ []) ≡ false
unfolding closes
closes_open [] = refl
closes_open (text ∷ texts) = closes_open texts

unclosed_closed : (n m : ℕ) (texts : List (List ℕ)) (rest : List Kind) → m ≡ n + length texts + 1 →
    unclosed n (code_lines texts ++ ClosingLine ∷ rest) ≡ unclosed m rest
unfolding unclosed
unclosed_closed n m [] rest at = let same : n + 1 ≡ m = omega arith in rw same refl
unclosed_closed n m (text ∷ texts) rest at = unclosed_closed (n + 1) m texts rest (omega arith)

segments_closed : (file n m : ℕ) (texts : List (List ℕ)) (rest : List Kind) → m ≡ n + length texts + 1 →
    segments_from file true n (code_lines texts ++ ClosingLine ∷ rest) ≡ segments_from file false m rest
unfolding segments_from
segments_closed file n m [] rest at = let same : n + 1 ≡ m = omega arith in rw same refl
segments_closed file n m (text ∷ texts) rest at = segments_closed file (n + 1) m texts rest (omega arith)

block_segments : (file n m : ℕ) (texts : List (List ℕ)) (rest : List Kind) → m ≡ n + length texts + 1
    → segments_from file false n (code_lines texts ++ ClosingLine ∷ rest) ≡ code_segment (line_position file n)
    (concat texts) (length texts) ++ segments_from file false m rest
unfolding segments_from
block_segments file n m [] rest at = let same : n + 1 ≡ m = omega arith in rw same refl
block_segments file n m (text ∷ texts) rest at =
    rw (code_text_closed texts rest, segments_closed file (n + 1) m texts rest (omega arith)) refl

-- one code line more
code_lines-append : (texts : List (List ℕ)) (line : List ℕ) (rest : List Kind) →
    code_lines (texts ++ line ∷ []) ++ rest ≡ code_lines texts ++ (CodeLine line ∷ rest)
code_lines-append [] line rest = refl
code_lines-append (text ∷ texts) line rest = ap (λ more. CodeLine text ∷ more) (code_lines-append texts line rest)

concat_push : (texts : List (List ℕ)) (line : List ℕ) → concat (texts ++ line ∷ []) ≡ concat texts ++ line
concat_push [] line = append-nil line
concat_push (text ∷ texts) line =
    ap (λ more. text ++ more) (concat_push texts line) ∙ sym (append_assoc text (concat texts) line)

pub code_before_more : (lines rest after : List Kind) (code line more : List ℕ) (count : ℕ) →
    IsCodeBefore lines code count rest → rest ≡ CodeLine line ∷ after → more ≡ code ++ line →
    IsCodeBefore lines more (count + 1) after
code_before_more lines rest after code line more count before first is = record {
  texts = before.texts ++ line ∷ [];
  many = omega (arith, length-append before.texts (line ∷ []), before.many);
  joined = concat_push before.texts line ∙ ap (λ front. front ++ line) before.joined ∙ sym is;
  whole = before.whole ∙ ap (λ lines. code_lines before.texts ++ lines) first ∙ sym
      (code_lines-append before.texts line after);
}

pub code_before_open : (lines : List Kind) (code : List ℕ) (count : ℕ) → IsCodeBefore lines code count [] →
    closes lines ≡ false
code_before_open lines code count before = ap closes before.whole ∙ closes_open before.texts

pub code_before_end : (lines : List Kind) (code rest : List ℕ) (count : ℕ) → length rest ≡ 0 →
    IsCodeBefore lines code count (block_kinds rest) → closes lines ≡ false
code_before_end lines code [] count none before = code_before_open lines code count (rw block_kinds_none at before)
code_before_end lines code (byte ∷ rest) count none before = absurd (omega arith)

-- a whole block, with its opening line n
pub block_step_is : (file n count m : ℕ) (lines block rest : List Kind) (code : List ℕ) (segment : Option Segment)
    → lines ≡ OpeningLine ∷ block → IsCodeBefore block code count (ClosingLine ∷ rest) →
    option_to_list segment ≡ code_segment (line_position file (n + 1)) code count → m ≡ count + 2
    → IsStep file n lines segment m rest
unfolding segments_from unclosed
block_step_is file n count m lines block rest code segment opening before made at =
    let end : n + m ≡ n + 1 + length before.texts + 1 = omega (arith, before.many) in
    let segments = block_segments file (n + 1) (n + m) before.texts rest end in
    let closed = closes_closed before.texts rest in
    let after = unclosed_closed (n + 1) (n + m) before.texts rest end in
    record {
      segments = rw (opening, before.whole, segments, made, ← before.joined, ← before.many) refl;
      opened = rw (opening, before.whole, closed) after;
    }

pub open_step : (file n : ℕ) (lines block : List Kind) (refusal : WeaveRefusal) → lines ≡ OpeningLine ∷ block →
    (refusal ≢ Memory → (refusal ≡ FenceOpen (line_position file n)) × (closes block ≡ false)) →
    IsOpen file n lines refusal
unfolding unclosed
open_step file n lines block refusal opening is_open other =
    let is = is_open other in
    (is.0, rw (opening, is.1) refl)

pub opening_step : (file n : ℕ) (lines block : List Kind) (r : Result Step WeaveRefusal) → lines ≡ OpeningLine ∷ block
    → MatchResult r (λ s. (code : List ℕ) × (count : ℕ) × IsCodeBefore block code count
    (ClosingLine ∷ law_kinds s.after.now) × (option_to_list s.segment ≡ code_segment (line_position file (n + 1)) code
    count) × (s.lines ≡ count + 2))
    (λ e. e ≢ Memory → (e ≡ FenceOpen (line_position file n)) × (closes block ≡ false))
    → MatchResult r (λ s. IsStep file n lines s.segment s.lines (law_kinds s.after.now)) (λ e. IsOpen file n lines e)
opening_step file n lines block (Ok s) opening gives =
    block_step_is file n gives.1 s.lines lines block (law_kinds s.after.now) gives.0 s.segment opening gives.2 gives.3
    gives.4
opening_step file n lines block (Err e) opening gives = open_step file n lines block e opening gives

-- a single line
pub law_step : (file n : ℕ) (lines rest : List Kind) → lines ≡ LawLine ∷ rest → IsStep file n lines None 1 rest
unfolding segments_from unclosed
law_step file n lines rest first = record { segments = rw first refl; opened = rw first refl }

pub heading_step : (file n level : ℕ) (text : List ℕ) (lines rest : List Kind) →
    lines ≡ HeadingLine level text ∷ rest →
    IsStep file n lines (Some (Heading level text (line_position file n))) 1 rest
unfolding segments_from unclosed
heading_step file n level text lines rest first = record { segments = rw first refl; opened = rw first refl }

pub include_step : (file n : ℕ) (path : List ℕ) (lines rest : List Kind) → lines ≡ IncludeLine path ∷ rest →
    IsStep file n lines (Some (Include path (line_position file n))) 1 rest
unfolding segments_from unclosed
include_step file n path lines rest first = record { segments = rw first refl; opened = rw first refl }

-- what is woven with these segments in front
abbrev pub woven_after : List Segment → ℕ → ℕ → List Kind → Result Woven WeaveRefusal
woven_after made file n lines = woven_unless file (unclosed n lines) (made ++ segments_from file false n lines)

pub woven_all : (made : List Segment) (file n : ℕ) (text : List ℕ) → length text ≡ 0 →
    woven_after made file n (law_kinds text) ≡ Ok (record { segments = made })
unfolding unclosed segments_from
woven_all made file n [] none = rw (law_kinds_none, append-nil) refl
woven_all made file n (byte ∷ text) none = absurd (omega arith)

-- a file's bytes
pub woven_utf8 : (bytes : List ℕ) (file : ℕ) → IsUtf8 bytes → woven bytes file ≡ woven_lines file (law_kinds bytes)
unfolding woven
woven_utf8 bytes file utf8 = rw (is_utf8-from_IsUtf8 bytes utf8) refl

pub woven_not_utf8 : (bytes : List ℕ) (file at : ℕ) (pos : Pos) → ¬ (IsUtf8 bytes) → at ≡ utf8_valid_len bytes →
    pos ≡ position_of bytes file at → woven bytes file ≡ Err (NotUtf8 pos)
unfolding woven
woven_not_utf8 bytes file at pos not_utf8 longest place =
    ⊎_elim (λ yes. absurd (not_utf8 (IsUtf8-from_is_utf8 bytes yes)))
    (λ no. ap (λ (b : Bool). cond b (woven_lines file (law_kinds bytes))
    (Err (NotUtf8 (position_of bytes file (utf8_valid_len bytes))))) no ∙ rw (place, longest) refl)
    (cases_Bool (is_utf8 bytes))
