-- The files of a source have names that are lines.
use Rattle.std.proofs.Common.{◌≡◌, ◌==◌, ◌-◌, ◌+◌, ℕ, zero, suc, Bool, true, false, not, List, [], ◌∷◌, length}
use Rattle.std.proofs.Common.{Option, Some, None, Ok, Err, IsTrue, refl, ap, subst, if◌then◌else◌, arith, take, drop}
use Rattle.std.specs.Prelude.{Result, slice_index}
use Rattle.std.specs.List.{list_all, prefix_len, suffix_len}
use Rattle.std.specs.Str.{is_utf8, IsUtf8}
use Rattle.std.specs.Str.Lossy.{utf8_valid_len}
use Rattle.cat_pos.specs.Bytes.{is_blank}
use Rattle.cat_pos.specs.Position.{is_line_feed, position_of}
use Rattle.cat_pos.specs.declared.pos.Pos.{Pos}
use Rattle.cat_weave.specs.Lines.{in_front, lines_of, last_is, without_last, without_end, without_last_blanks}
use Rattle.cat_weave.specs.Lines.{without_first_blanks, bare}
use Rattle.cat_weave.specs.Kinds.{Kind, OpeningLine, CodeLine, ClosingLine, HeadingLine, IncludeLine, LawLine, kinds_of}
use Rattle.cat_weave.specs.Kinds.{is_opening, is_closing, is_heading, is_include, heading_of, include_of, law_kind}
use Rattle.cat_weave.specs.Kinds.{kind_of}
use Rattle.cat_weave.specs.Kinds.{stays_inside}
use Rattle.cat_weave.specs.Woven.{line_position, is_code, segment_at, segments_from, unclosed, woven_unless}
use Rattle.cat_weave.specs.Woven.{woven_lines}
use Rattle.cat_weave.specs.Woven.{woven}
use Rattle.cat_weave.specs.declared.segment.Woven.{Woven}
use Rattle.cat_weave.specs.declared.segment.WeaveRefusal.{WeaveRefusal}
use Rattle.cat_weave.specs.declared.segment.WeaveRefusal.TheVariants as weaving
use Rattle.cat_weave.specs.declared.source.Source.{Source}
use Rattle.cat_weave.specs.Gathered.{Contents, Whole, gathered}
use Rattle.cat_scope.specs.Names.{AllHave}
use Rattle.cat_scope.proofs.Exported.{all_append}
use Rattle.cat_emitted.proofs.WordFacts.{no_feed}
use Rattle.cat_emitted.proofs.SourceFiles.{Includes, files_named}
use Rattle.std.proofs.lemmas.Bool.{and_parts, and_from}
use Rattle.std.proofs.lemmas.Str.{is_utf8-from_IsUtf8, IsUtf8-from_is_utf8}
use Rattle.cat_image.specs.Listed.{is_line}
use Rattle.cat_emitted.specs.Emitted.{AreFileNames}
use Rattle.cat_emitted.proofs.Utf8Lines.{bare_utf8, include_utf8, lines_utf8}

abbrev pub IsFree : List ℕ → Type 0
IsFree text = list_all no_feed text ≡ true

take_free : (n : ℕ) (text : List ℕ) → IsFree text → IsFree (take n text)
take_free zero text h = refl
take_free (suc n) [] h = refl
take_free (suc n) (b ∷ bs) h =
    let parts = and_parts (no_feed b) (list_all no_feed bs) h in
    and_from (no_feed b) (list_all no_feed (take n bs)) parts.0 (take_free n bs parts.1)

drop_free : (n : ℕ) (text : List ℕ) → IsFree text → IsFree (drop n text)
drop_free zero text h = h
drop_free (suc n) [] h = refl
drop_free (suc n) (b ∷ bs) h = drop_free n bs (and_parts (no_feed b) (list_all no_feed bs) h).1

-- ---- lines

-- only the last byte may be a line feed
abbrev IsLine : List ℕ → Type 0
IsLine [] = Unit {0}
IsLine (b ∷ []) = Unit {0}
IsLine (b ∷ c ∷ cs) = (no_feed b ≡ true) × IsLine (c ∷ cs)

put_in_front : (byte : ℕ) (lines : List (List ℕ)) → no_feed byte ≡ true → AllHave IsLine lines
    → AllHave IsLine (in_front byte lines)
put_in_front byte [] free h = (tt, tt)
put_in_front byte ([] ∷ lines) free h = (tt, h.1)
put_in_front byte ((c ∷ cs) ∷ lines) free h = ((free, h.0), h.1)

lines_are : (bytes : List ℕ) → AllHave IsLine (lines_of bytes)
unfolding lines_of
lines_are [] = tt
lines_are (byte ∷ bytes) = by (is_line_feed byte) refl (lines_are bytes)
  where
    by : (b : Bool) → is_line_feed byte ≡ b → AllHave IsLine (lines_of bytes)
        → AllHave IsLine (if b then (byte ∷ []) ∷ lines_of bytes else in_front byte (lines_of bytes))
    by true is rest = (tt, rest)
    by false is rest = put_in_front byte (lines_of bytes) (ap not is) rest

front_free : (line : List ℕ) → IsLine line → IsFree (take (length line - 1) line)
front_free [] h = refl
front_free (b ∷ []) h = refl
front_free (b ∷ c ∷ cs) h =
    let same : length (b ∷ c ∷ cs) - 1 ≡ suc (length (c ∷ cs) - 1) = omega arith in
    rw same (and_from (no_feed b) (list_all no_feed (take (length (c ∷ cs) - 1) (c ∷ cs))) h.0
    (front_free (c ∷ cs) h.1))

whole_free : (line : List ℕ) → IsLine line → last_is 10 line ≡ false → IsFree line
whole_free [] h e = refl
whole_free (b ∷ []) h e = and_from (no_feed b) true (ap not e) refl
whole_free (b ∷ c ∷ cs) h e =
    let same : length (b ∷ c ∷ cs) - 1 ≡ suc (length (c ∷ cs) - 1) = omega arith in
    let later : last_is 10 (c ∷ cs) ≡ false =
    subst (λ n. (slice_index (b ∷ c ∷ cs) n == 10) ≡ false) same e in
    and_from (no_feed b) (list_all no_feed (c ∷ cs)) h.0 (whole_free (c ∷ cs) h.1 later)

last_free : (byte : ℕ) (text : List ℕ) → IsFree text → IsFree (without_last byte text)
unfolding without_last
last_free byte text h = by (last_is byte text)
  where
    by : (b : Bool) → IsFree (if b then take (length text - 1) text else text)
    by true = take_free (length text - 1) text h
    by false = h

end_free : (line : List ℕ) → IsLine line → IsFree (without_end line)
unfolding without_end without_last
end_free line h = by (last_is 10 line) refl
  where
    by : (b : Bool) → last_is 10 line ≡ b → IsFree (if b
        then without_last 13 (if b then take (length line - 1) line else line) else line)
    by true is = last_free 13 (take (length line - 1) line) (front_free line h)
    by false is = whole_free line h is

bare_free : (line : List ℕ) → IsLine line → IsFree (bare line)
unfolding without_last_blanks
bare_free line h =
    take_free (length (without_end line) - suffix_len is_blank (without_end line)) (without_end line) (end_free line h)

-- ---- kinds

-- a text is a line
abbrev pub IsName : List ℕ → Type 0
IsName text = is_line text ≡ true

abbrev FreeKind : Kind → Type 0
FreeKind (IncludeLine path) = IsName path
FreeKind LawLine = Unit {0}
FreeKind OpeningLine = Unit {0}
FreeKind ClosingLine = Unit {0}
FreeKind (CodeLine text) = Unit {0}
FreeKind (HeadingLine level text) = Unit {0}

path_free : (line : List ℕ) → IsFree line → IsFree (without_first_blanks (drop 11 line))
unfolding without_first_blanks
path_free line h = drop_free (prefix_len is_blank (drop 11 line)) (drop 11 line) (drop_free 11 line h)

law_free : (line : List ℕ) → IsFree line → IsUtf8 line → FreeKind (law_kind line)
unfolding law_kind
law_free line h u = by (is_opening line) (is_heading line) (is_include line) refl
  where
    by : (a b c : Bool) → is_include line ≡ c → FreeKind (if a then OpeningLine else if b then heading_of line
        else if c then include_of line else LawLine)
    by true b c is = tt
    by false true c is = tt
    by false false true is =
        and_from (is_utf8 (without_first_blanks (drop 11 line)))
        (list_all no_feed (without_first_blanks (drop 11 line)))
        (is_utf8-from_IsUtf8 (without_first_blanks (drop 11 line)) (include_utf8 line is u)) (path_free line h)
    by false false false is = tt

kind_free : (inside : Bool) (line : List ℕ) → IsLine line → IsUtf8 line → FreeKind (kind_of inside line)
unfolding kind_of
kind_free false line h u = law_free (bare line) (bare_free line h) (bare_utf8 line u)
kind_free true line h u = by (is_closing (bare line))
  where
    by : (b : Bool) → FreeKind (if b then ClosingLine else CodeLine line)
    by true = tt
    by false = tt

kinds_free : (inside : Bool) (lines : List (List ℕ)) → AllHave IsLine lines → AllHave IsUtf8 lines
    → AllHave FreeKind (kinds_of inside lines)
unfolding kinds_of
kinds_free inside [] h u = tt
kinds_free inside (line ∷ lines) h u =
    (kind_free inside line h.0 u.0, kinds_free (stays_inside (kind_of inside line)) lines h.1 u.1)

-- ---- segments

segment_free : (pos : Pos) (after : Bool) (line : Kind) (lines : List Kind) → FreeKind line
    → AllHave (Includes IsName) (segment_at pos after line lines)
segment_free pos false (CodeLine text) lines h = (tt, tt)
segment_free pos true (CodeLine text) lines h = tt
segment_free pos false (HeadingLine level text) lines h = (tt, tt)
segment_free pos true (HeadingLine level text) lines h = (tt, tt)
segment_free pos false (IncludeLine path) lines h = (h, tt)
segment_free pos true (IncludeLine path) lines h = (h, tt)
segment_free pos false LawLine lines h = tt
segment_free pos true LawLine lines h = tt
segment_free pos false OpeningLine lines h = tt
segment_free pos true OpeningLine lines h = tt
segment_free pos false ClosingLine lines h = tt
segment_free pos true ClosingLine lines h = tt

segments_free : (file : ℕ) (after : Bool) (n : ℕ) (lines : List Kind) → AllHave FreeKind lines
    → AllHave (Includes IsName) (segments_from file after n lines)
unfolding segments_from
segments_free file after n [] h = tt
segments_free file after n (line ∷ lines) h =
    all_append (Includes IsName) (segment_at (line_position file n) after line lines) _
    (segment_free (line_position file n) after line lines h.0)
    (segments_free file (is_code line) (n + 1) lines h.1)

abbrev OnWoven : Result Woven WeaveRefusal → Type 0
OnWoven (Ok w) = AllHave (Includes IsName) w.segments
OnWoven (Err refusal) = Unit {0}

woven_free : (bytes : List ℕ) (file : ℕ) → OnWoven (woven bytes file)
unfolding woven
woven_free bytes file = by (is_utf8 bytes) refl (position_of bytes file (utf8_valid_len bytes))
  where
    unless : IsUtf8 bytes → (o : Option ℕ)
        → OnWoven (woven_unless file o (segments_from file false 1 (kinds_of false (lines_of bytes))))
    unless u None =
        segments_free file false 1 (kinds_of false (lines_of bytes))
        (kinds_free false (lines_of bytes) (lines_are bytes) (lines_utf8 (length bytes) bytes (omega arith) u))
    unless u (Some n) = tt

    by : (b : Bool) → is_utf8 bytes ≡ b → (bad : Pos) → OnWoven (if b
        then woven_lines file (kinds_of false (lines_of bytes)) else Err (weaving.NotUtf8 bad))
    by true is bad = unless (IsUtf8-from_is_utf8 bytes is) (unclosed 1 (kinds_of false (lines_of bytes)))
    by false is bad = tt

-- ---- files

pub files_lines : (contents : Contents) (main : List ℕ) (source : Source) → IsTrue (is_line main)
    → gathered contents main ≡ Whole source → AreFileNames source.files
files_lines contents main source own is =
    let named = files_named IsName (λ bytes file w same. subst OnWoven same (woven_free bytes file)) contents main
    source own is in
    record { apart = named.apart; lines = named.names }
