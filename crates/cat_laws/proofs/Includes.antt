-- The name that an include gives is no longer than the file in which it stands.
use Rattle.std.proofs.Common.{◌≤◌, ◌+◌, ◌-◌, ℕ, zero, suc, Bool, true, false, cond, List, [], ◌∷◌, ◌++◌, length, refl}
use Rattle.std.proofs.Common.{take, drop, Option, Some, None, Result, Ok, Err, arith}
use Rattle.std.specs.Prelude.{IfOk}
use Rattle.std.specs.List.{prefix_len, suffix_len}
use Rattle.std.specs.Str.{is_utf8}
use Rattle.std.specs.Str.Lossy.{utf8_valid_len}
use Rattle.cat_pos.specs.Bytes.{is_blank}
use Rattle.cat_pos.specs.Position.{is_line_feed, position_of}
use Rattle.cat_pos.specs.declared.pos.Pos.{Pos}
use Rattle.cat_scope.specs.Names.{AllHave}
use Rattle.cat_weave.specs.Lines.{lines_of, in_front, bare, last_is, without_last, without_end, without_last_blanks}
use Rattle.cat_weave.specs.Lines.{without_first_blanks}
use Rattle.cat_weave.specs.Kinds.{Kind, LawLine, OpeningLine, CodeLine, ClosingLine, HeadingLine, IncludeLine}
use Rattle.cat_weave.specs.Kinds.{kinds_of, kind_of, law_kind, is_opening, is_heading, is_include, is_closing}
use Rattle.cat_weave.specs.Kinds.{heading_of, include_of, stays_inside}
use Rattle.cat_weave.specs.Woven.{line_position, is_code, segment_at, segments_from, unclosed, woven_unless}
use Rattle.cat_weave.specs.Woven.{woven_lines, woven, AreWithin}
use Rattle.cat_weave.specs.inside.Reading.{law_kinds}
use Rattle.cat_weave.specs.declared.segment.Segment.{Segment}
use Rattle.cat_weave.specs.declared.segment.Segment.TheVariants.{Include}
use Rattle.cat_weave.specs.declared.segment.Woven.{Woven}
use Rattle.cat_weave.specs.declared.segment.WeaveRefusal.{WeaveRefusal}
use Rattle.cat_weave.specs.declared.segment.WeaveRefusal.TheVariants.{NotUtf8}
use Rattle.cat_weave.proofs.WithinLemmas.{woven_within}

-- an include gives a name of at most so many bytes
abbrev pub IsShort : ℕ → Segment → Type 0
IsShort most (Include path pos) = length path ≤ most
IsShort most segment = Unit {0}

abbrev IsShortKind : ℕ → Kind → Type 0
IsShortKind most (IncludeLine path) = length path ≤ most
IsShortKind most line = Unit {0}

-- ---- lists

all_append : {A : Type 0} (Has : A → Type 0) (xs ys : List A) → AllHave Has xs → AllHave Has ys → AllHave Has (xs ++ ys)
all_append Has [] ys all more = more
all_append Has (x ∷ xs) ys all more = (all.0, all_append Has xs ys all.1 more)

pub all_weaker : {A : Type 0} (Has Also : A → Type 0) → ((x : A) → Has x → Also x) → (xs : List A) → AllHave Has xs
    → AllHave Also xs
all_weaker Has Also also [] all = tt
all_weaker Has Also also (x ∷ xs) all = (also x all.0, all_weaker Has Also also xs all.1)

take_short : (n : ℕ) (xs : List ℕ) → length (take n xs) ≤ length xs
take_short zero xs = omega arith
take_short (suc n) [] = omega arith
take_short (suc n) (x ∷ xs) = omega (arith, take_short n xs)

drop_short : (n : ℕ) (xs : List ℕ) → length (drop n xs) ≤ length xs
drop_short zero xs = omega arith
drop_short (suc n) [] = omega arith
drop_short (suc n) (x ∷ xs) = omega (arith, drop_short n xs)

-- ---- lines

-- texts of at most so many bytes
abbrev AreShort : ℕ → List (List ℕ) → Type 0
AreShort most lines = AllHave (λ line. length line ≤ most) lines

longer_by_one : (most : ℕ) (lines : List (List ℕ)) → AreShort most lines → AreShort (suc most) lines
longer_by_one most lines short =
    all_weaker (λ line. length line ≤ most) (λ line. length line ≤ suc most) (λ line h. omega (arith, h)) lines short

front_short : (byte most : ℕ) (lines : List (List ℕ)) → AreShort most lines → AreShort (suc most) (in_front byte lines)
front_short byte most [] short = (omega arith, tt)
front_short byte most (line ∷ lines) short = (omega (arith, short.0), longer_by_one most lines short.1)

lines_short : (text : List ℕ) → AreShort (length text) (lines_of text)
unfolding lines_of
lines_short [] = tt
lines_short (byte ∷ text) =
    let rest = lines_short text in
    elim (is_line_feed byte) as (λ v. AreShort (suc (length text))
    (cond v ((byte ∷ []) ∷ lines_of text) (in_front byte (lines_of text)))) [
      | true ↦ (omega arith, longer_by_one (length text) (lines_of text) rest)
      | false ↦ front_short byte (length text) (lines_of text) rest
    ]

last_short : (byte : ℕ) (text : List ℕ) → length (without_last byte text) ≤ length text
unfolding without_last
last_short byte text = elim (last_is byte text)
    as (λ v. length (cond v (take (length text - 1) text) text) ≤ length text) [
      | true ↦ take_short (length text - 1) text
      | false ↦ omega arith
    ]

end_short : (line : List ℕ) → length (without_end line) ≤ length line
unfolding without_end
end_short line = elim (last_is 10 line)
    as (λ v. length (cond v (without_last 13 (without_last 10 line)) line) ≤ length line) [
      | true ↦ omega (arith, last_short 13 (without_last 10 line), last_short 10 line)
      | false ↦ omega arith
    ]

bare_short : (line : List ℕ) → length (bare line) ≤ length line
unfolding without_last_blanks
bare_short line =
    let text = without_end line in
    omega (arith, take_short (length text - suffix_len is_blank text) text, end_short line)

include_short : (most : ℕ) (line : List ℕ) → length line ≤ most → IsShortKind most (include_of line)
unfolding without_first_blanks
include_short most line short =
    let text = drop 11 line in
    omega (arith, short, drop_short 11 line, drop_short (prefix_len is_blank text) text)

law_short : (most : ℕ) (line : List ℕ) → length line ≤ most → IsShortKind most (law_kind line)
unfolding law_kind
law_short most line short =
    elim (is_opening line) as (λ v. IsShortKind most (cond v OpeningLine
    (cond (is_heading line) (heading_of line) (cond (is_include line) (include_of line) LawLine)))) [
      | true ↦ tt
      | false ↦ elim (is_heading line) as (λ v. IsShortKind most (cond v (heading_of line)
          (cond (is_include line) (include_of line) LawLine))) [
            | true ↦ tt
            | false ↦ elim (is_include line) as (λ v. IsShortKind most (cond v (include_of line) LawLine)) [
              | true ↦ include_short most line short
              | false ↦ tt
            ]
          ]
    ]

kind_short : (most : ℕ) (inside : Bool) (line : List ℕ) → length line ≤ most → IsShortKind most (kind_of inside line)
unfolding kind_of
kind_short most false line short = law_short most (bare line) (omega (arith, short, bare_short line))
kind_short most true line short =
    elim (is_closing (bare line)) as (λ v. IsShortKind most (cond v ClosingLine (CodeLine line))) [
      | true ↦ tt
      | false ↦ tt
    ]

kinds_short : (most : ℕ) (inside : Bool) (lines : List (List ℕ)) → AreShort most lines
    → AllHave (IsShortKind most) (kinds_of inside lines)
unfolding kinds_of
kinds_short most inside [] short = tt
kinds_short most inside (line ∷ lines) short =
    (kind_short most inside line short.0, kinds_short most (stays_inside (kind_of inside line)) lines short.1)

-- ---- segments

at_short : (most : ℕ) (pos : Pos) (after : Bool) (line : Kind) (lines : List Kind) → IsShortKind most line
    → AllHave (IsShort most) (segment_at pos after line lines)
at_short most pos false (CodeLine text) lines short = (tt, tt)
at_short most pos false (HeadingLine level text) lines short = (tt, tt)
at_short most pos false (IncludeLine path) lines short = (short, tt)
at_short most pos false line lines short = tt
at_short most pos true (HeadingLine level text) lines short = (tt, tt)
at_short most pos true (IncludeLine path) lines short = (short, tt)
at_short most pos true line lines short = tt

from_short : (most file : ℕ) (after : Bool) (n : ℕ) (lines : List Kind) → AllHave (IsShortKind most) lines
    → AllHave (IsShort most) (segments_from file after n lines)
unfolding segments_from
from_short most file after n [] short = tt
from_short most file after n (line ∷ lines) short =
    all_append (IsShort most) (segment_at (line_position file n) after line lines)
    (segments_from file (is_code line) (n + 1) lines) (at_short most (line_position file n) after line lines short.0)
    (from_short most file (is_code line) (n + 1) lines short.1)

-- ---- a file

-- what is woven of a file of so many bytes
pub record IsWovenOf (size file : ℕ) (segments : List Segment) : Type 0 where
  pub within : AreWithin size file segments
  pub short : AllHave (IsShort size) segments

both_ok : (size file : ℕ) (r : Result Woven WeaveRefusal) → IfOk r (λ w. AreWithin size file w.segments)
    → IfOk r (λ w. AllHave (IsShort size) w.segments) → IfOk r (λ w. IsWovenOf size file w.segments)
both_ok size file (Ok w) within short = record { within = within; short = short }
both_ok size file (Err refusal) within short = tt

short_unless : (size file : ℕ) (opened : Option ℕ) (segments : List Segment) → AllHave (IsShort size) segments
    → IfOk (woven_unless file opened segments) (λ w. AllHave (IsShort size) w.segments)
short_unless size file None segments short = short
short_unless size file (Some n) segments short = tt

lines_woven : (file : ℕ) (text : List ℕ)
    → IfOk (woven_lines file (law_kinds text)) (λ w. IsWovenOf (length text) file w.segments)
lines_woven file text =
    both_ok (length text) file (woven_lines file (law_kinds text))
    (woven_within file text (woven_lines file (law_kinds text)) (λ _. refl))
    (short_unless (length text) file (unclosed 1 (law_kinds text)) (segments_from file false 1 (law_kinds text))
    (from_short (length text) file false 1 (law_kinds text)
    (kinds_short (length text) false (lines_of text) (lines_short text))))

pub woven_is : (bytes : List ℕ) (file : ℕ) → IfOk (woven bytes file) (λ w. IsWovenOf (length bytes) file w.segments)
unfolding woven
woven_is bytes file =
    elim (is_utf8 bytes) as (λ v. IfOk (cond v (woven_lines file (law_kinds bytes))
    (Err (NotUtf8 (position_of bytes file (utf8_valid_len bytes)))))
    (λ w. IsWovenOf (length bytes) file w.segments)) [ true ↦ lines_woven file bytes | false ↦ tt ]
