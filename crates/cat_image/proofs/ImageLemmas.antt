-- What is read is an image, and why a text that isn't read is none.
use Rattle.std.proofs.Common.{◌≡◌, ℕ, zero, suc, ◌+◌, ◌<◌, Bool, true, false, List, [], ◌∷◌, ◌++◌, map, length, take}
use Rattle.std.proofs.Common.{drop}
use Rattle.std.proofs.Common.{subst, Option, Some, None, refl, sym, ap, ◌∙◌, arith, codes, append_assoc, append-nil}
use Rattle.std.proofs.Common.{length-append}
use Rattle.std.specs.Prelude.{Result, Ok, Err, if◌then◌else◌, nat_eq, ◌==◌}
use Rattle.std.specs.List.{AllByRecursion}
use Rattle.std.specs.Fmt.{digits}
use Rattle.std.specs.Str.{bytes_eq, is_utf8, chars}
use lib.Utf8.{encode}
use Rattle.std.proofs.lemmas.List.{take_at, map-append, same_from_push}
use Rattle.std.proofs.lemmas.Slice.Eq.{bytes_eq-Decides}
use Rattle.cat_code.specs.declared.instr.Instr.{Instr}
use Rattle.cat_code.specs.declared.instr.Instr.TheVariants as instr
use Rattle.cat_image.specs.declared.tables.ImageTables.{ImageTables}
use Rattle.cat_image.specs.declared.refusal.ImageRefusal.{ImageRefusal}
use Rattle.cat_image.specs.declared.refusal.ImageRefusal.TheVariants as refusal
use Rattle.cat_image.specs.declared.row.Row.{Row}
use Rattle.cat_image.specs.declared.row.Row.TheVariants as row
use Rattle.cat_image.specs.declared.reading.Reading.{Reading}
use Rattle.cat_image.specs.Words.{Text, parts}
use Rattle.cat_image.specs.Rows.{row_text, IsRow, rows_of}
use Rattle.cat_image.specs.Image.{image_lines, IsImage}
use Rattle.cat_image.specs.Refused.{all_but_last, lines_of, IsFront, HasCause}
use Rattle.cat_image.specs.inside.Reads.{when, cut}
use Rattle.cat_image.specs.inside.ReadRows.{row_read}
use Rattle.cat_image.specs.inside.Reading.{nothing_read}
use Rattle.cat_image.specs.inside.Putting.{put}
use Rattle.cat_image.specs.inside.Endings.{taken, ending, whole_ending, EndsSo}
use Rattle.cat_image.proofs.CutLemmas.{IsCutTo, cut_told, cut_at, HasFirst, some_part, AllLack, parts_lack}
use Rattle.cat_image.proofs.ReadLemmas.{all_append, all_front, all_back}
use Rattle.cat_image.proofs.WrittenLemmas.{row_written}
use Rattle.cat_image.proofs.PutLemmas.{IsStanding}
use Rattle.cat_image.proofs.RunLemmas.{puts, puts_append, puts_more, IsRun, run_none, IsSplit, same_rows, same_row}
use Rattle.cat_image.proofs.AcceptLemmas.{at}
use Rattle.cat_image.proofs.SectionLemmas.{rows_come, rows_lead}
use Rattle.cat_image.proofs.EndingLemmas.{EndsIn, IsReadTo, IsBad, IsShort, ending_told}

abbrev version : Text
version = codes "catala-code 1"

abbrev AreTexts : List Text → Type 0
AreTexts lines = AllByRecursion (λ line. is_utf8 line ≡ true) lines

-- ---- lines and the text of them

abbrev pub text_of : List Text → Text
text_of [] = []
text_of (line ∷ lines) = line ++ 10 ∷ text_of lines

pub parts_of_text : (lines : List Text) → AllLack 10 lines → parts 10 (text_of lines) ≡ lines ++ [] ∷ []
unfolding parts
parts_of_text [] lack = refl
parts_of_text (line ∷ lines) lack =
    let text = line ++ 10 ∷ text_of lines in
    let told : IsCutTo 10 text (Some (line, text_of lines)) =
    subst (IsCutTo 10 text) (cut_at 10 line (text_of lines) lack.0) (cut_told 10 text) in
    told.1 ∙ ap (λ (ls : List Text). line ∷ ls) (parts_of_text lines lack.1)

last_off : (lines : List Text) (rest : Text) → all_but_last (lines ++ rest ∷ []) ≡ lines
last_off [] rest = refl
last_off (line ∷ []) rest = refl
last_off (line ∷ next ∷ lines) rest = ap (λ (ls : List Text). line ∷ ls) (last_off (next ∷ lines) rest)

version_text : is_utf8 (codes "catala-code 1") ≡ true
unfolding is_utf8 chars encode
version_text = refl

version_lacks : cut 10 (codes "catala-code 1") ≡ None
unfolding cut
version_lacks = refl

-- ---- the image of lines that are taken

nothing_stands : IsStanding nothing_read
nothing_stands = record { behind = refl }

rows_are : (lines : List Text) (s : Reading) (run : IsRun nothing_read lines s)
    → rows_of s.tables s.instructions ≡ run.rows
rows_are lines s run = (puts_more run.rows nothing_read s nothing_stands run.leads).rows

image_of_run : (bytes : List ℕ) (lines : List Text) (s : Reading) → IsRun nothing_read lines s
    → 0 < length s.instructions
    → parts 10 bytes ≡ (version ∷ lines) ++ [] ∷ [] → IsImage bytes s.tables s.instructions
image_of_run bytes lines s run some are =
    let rows = rows_are lines s run in
    let same : lines ≡ map row_text (rows_of s.tables s.instructions) = run.lines_are ∙ ap (map row_text) (sym rows) in
    record {
      rows = subst (AllByRecursion IsRow) (sym rows) run.are_rows;
      some = some;
      lines = are ∙ ap (λ (ls : List Text). (version ∷ ls) ++ [] ∷ []) same;
      texts = (version_text, subst AreTexts same run.texts);
    }

-- ---- an image that begins with lines that are taken

front_of_image : (lines rest : List Text) (s : Reading) → IsRun nothing_read (lines ++ rest) s
    → 0 < length s.instructions
    → AllLack 10 (lines ++ rest) → IsFront (version ∷ lines)
front_of_image lines rest s run some lack =
    let all = version ∷ (lines ++ rest) in
    let are = parts_of_text all (version_lacks, lack) in
    record {
      bytes = text_of all;
      tables = s.tables;
      instructions = s.instructions;
      rest = rest;
      image = image_of_run (text_of all) (lines ++ rest) s run some are;
      lines_are = ap all_but_last are ∙ last_off all [];
    }

return_text : row_text (row.Instruction 0 instr.Return) ≡ codes "0 return"
unfolding digits
return_text = refl

return_utf8 : is_utf8 (codes "0 return") ≡ true
unfolding is_utf8 chars encode
return_utf8 = refl

return_lacks : cut 10 (codes "0 return") ≡ None
unfolding cut
return_lacks = refl

-- with an instruction more
with_return : (lines : List Text) (s : Reading) → IsRun nothing_read lines s → s.instructions ≡ []
    → IsRun nothing_read (lines ++ codes "0 return" ∷ [])
    (record { tables = s.tables; instructions = s.instructions ++ instr.Return ∷ []; section = 9 })
with_return lines s run none =
    let x = row.Instruction 0 instr.Return in
    let to : Reading = record { tables = s.tables; instructions = s.instructions ++ instr.Return ∷ []; section = 9 } in
    let due : put s x ≡ Some to =
    ap (λ (n : ℕ). if 0 == n then Some to else None) (ap length none) in
    record {
      rows = run.rows ++ x ∷ [];
      lines_are = ap (λ (ls : List Text). ls ++ codes "0 return" ∷ []) run.lines_are
          ∙ ap (λ (t : Text). map row_text run.rows ++ t ∷ []) (sym return_text)
          ∙ sym (map-append row_text run.rows (x ∷ []));
      are_rows = all_append IsRow run.rows (x ∷ []) run.are_rows ((omega arith, tt), tt);
      texts = all_append (λ line. is_utf8 line ≡ true) lines (codes "0 return" ∷ []) run.texts (return_utf8, tt);
      leads = puts_append run.rows (x ∷ []) nothing_read
          ∙ ap (λ (o : Option Reading). when o (puts (x ∷ []))) run.leads
          ∙ ap (λ (o : Option Reading). when o (puts [])) due;
    }

front_of_run : (lines : List Text) (s : Reading) → IsRun nothing_read lines s → AllLack 10 lines
    → IsFront (version ∷ lines)
front_of_run lines s run lack = by s.instructions refl
  where
    by : (is : List Instr) → s.instructions ≡ is → IsFront (version ∷ lines)
    by [] none =
        let long = length-append s.instructions (instr.Return ∷ []) in
        front_of_image lines (codes "0 return" ∷ [])
        (record { tables = s.tables; instructions = s.instructions ++ instr.Return ∷ []; section = 9 })
        (with_return lines s run none) (omega (arith, long))
        (all_append (λ line. cut 10 line ≡ None) lines (codes "0 return" ∷ []) lack (return_lacks, tt))
    by (i ∷ is) some =
        let count = ap length some in
        front_of_image lines [] s (subst (λ (ls : List Text). IsRun nothing_read ls s) (sym (append-nil lines)) run)
        (omega (arith, count)) (subst (AllLack 10) (sym (append-nil lines)) lack)

front_of_none : IsFront []
front_of_none =
    let one = front_of_run [] nothing_read (run_none nothing_read) tt in
    record {
      bytes = one.bytes;
      tables = one.tables;
      instructions = one.instructions;
      rest = version ∷ one.rest;
      image = one.image;
      lines_are = one.lines_are;
    }

-- ---- the lines of an image

lines_of_image : (bytes : List ℕ) (tables : ImageTables) (is : List Instr) → IsImage bytes tables is
    → lines_of bytes ≡ image_lines tables is
lines_of_image bytes tables is image = ap all_but_last image.lines ∙ last_off (image_lines tables is) []

abbrev first_of : List Text → Text
first_of [] = []
first_of (line ∷ lines) = line

taken_is : (r : Reading) (line : Text) (x : Row) → is_utf8 line ≡ true → row_read line ≡ Some x → taken r line ≡ put r x
taken_is r line x text is = rw (text, is) refl

put_some : (x : Row) (xs : List Row) (o : Option Reading) (s : Reading) → when o (puts xs) ≡ Some s → o ≡ None → ⊥
put_some x xs None s is none = cc
put_some x xs (Some t) s is none = cc

-- a line that isn't taken behind others
not_front : (front : List Text) (line : Text) (to : Reading) → IsRun nothing_read front to → taken to line ≡ None
    → IsFront (version ∷ (front ++ line ∷ [])) → ⊥
not_front front line to run not_taken other =
    let rows = rows_of other.tables other.instructions in
    let same : map row_text rows ≡ map row_text run.rows ++ line ∷ other.rest =
    ap (drop 1) (sym (lines_of_image other.bytes other.tables other.instructions other.image) ∙ other.lines_are)
    ∙ append_assoc front (line ∷ []) other.rest ∙ ap (λ (ls : List Text). ls ++ line ∷ other.rest) run.lines_are in
    let split = same_rows run.rows rows line other.rest run.are_rows other.image.rows same in
    let whole = at other.tables other.instructions (rows_come other.tables other.instructions).section in
    let leads : when (put to split.one) (puts split.more) ≡ Some whole =
    ap (λ (o : Option Reading). when o (puts (split.one ∷ split.more))) (sym run.leads)
    ∙ sym (puts_append run.rows (split.one ∷ split.more) nothing_read)
    ∙ ap (λ (xs : List Row). puts xs nothing_read) (sym split.are) ∙ rows_lead other.tables other.instructions in
    let text : AreTexts (line ∷ other.rest) =
    all_back (λ l. is_utf8 l ≡ true) (map row_text run.rows) (line ∷ other.rest)
    (subst AreTexts same other.image.texts.1) in
    let read : row_read line ≡ Some split.one = ap row_read (sym split.text) ∙ row_written split.one split.is_row in
    put_some split.one split.more (put to split.one) whole leads
    (sym (taken_is to line split.one text.0 read) ∙ not_taken)

-- another first line
not_version : (line : Text) → bytes_eq line version ≡ false → IsFront (line ∷ []) → ⊥
not_version line other front =
    let same : version ≡ line =
    ap first_of (sym (lines_of_image front.bytes front.tables front.instructions front.image) ∙ front.lines_are) in
    let equal = (bytes_eq-Decides line version).1 (sym same) in
    absurd (cc)

-- rows of the same lines
all_same : (xs ys : List Row) → AllByRecursion IsRow xs → AllByRecursion IsRow ys → map row_text xs ≡ map row_text ys
    → xs ≡ ys
all_same [] [] one other same = refl
all_same [] (y ∷ ys) one other same = absurd (cc)
all_same (x ∷ xs) [] one other same = absurd (cc)
all_same (x ∷ xs) (y ∷ ys) one other same =
    ap (λ (z : Row). z ∷ xs) (same_row x y one.0 other.0 (ap first_of same))
    ∙ ap (λ (zs : List Row). y ∷ zs) (all_same xs ys one.1 other.1 (ap (drop 1) same))

abbrev some_reading : Option Reading → Reading
some_reading None = nothing_read
some_reading (Some r) = r

-- ---- why

-- all lines are taken, and no image has them
no_image : (bytes : List ℕ) (lines : List Text) (rest : Text) (to : Reading) → IsRun nothing_read lines to
    → (rest ≡ [] → to.instructions ≡ []) → parts 10 bytes ≡ version ∷ (lines ++ rest ∷ [])
    → (tables : ImageTables) (is : List Instr) → IsImage bytes tables is → ⊥
no_image bytes lines rest to run short are tables is image =
    let both : (lines ≡ map row_text (rows_of tables is)) × (rest ≡ []) =
    same_from_push lines (map row_text (rows_of tables is)) rest [] (ap (drop 1) (sym are ∙ image.lines)) in
    let rows : run.rows ≡ rows_of tables is =
    all_same run.rows (rows_of tables is) run.are_rows image.rows (sym run.lines_are ∙ both.0) in
    let same : to ≡ at tables is (rows_come tables is).section =
    ap some_reading (sym run.leads ∙ ap (λ (xs : List Row). puts xs nothing_read) rows ∙ rows_lead tables is) in
    let none = ap length (short both.1) in
    let count = ap (λ (r : Reading). length r.instructions) same in
    let some = image.some in
    omega (arith, none, count, some)

-- one part alone
no_lines : (bytes : List ℕ) (rest : Text) → parts 10 bytes ≡ rest ∷ []
    → (tables : ImageTables) (is : List Instr) → IsImage bytes tables is → ⊥
no_lines bytes rest are tables is image =
    let count = ap length (sym are ∙ image.lines) in
    let long = length-append (map row_text (rows_of tables is)) ([] ∷ []) in
    omega (arith, count, long)

lacks_but_last : (ps : List Text) → AllLack 10 ps → AllLack 10 (all_but_last ps)
lacks_but_last [] lack = tt
lacks_but_last (p ∷ []) lack = tt
lacks_but_last (p ∷ q ∷ ps) lack = (lack.0, lacks_but_last (q ∷ ps) lack.1)

-- no line feeds stand in the lines of a text
lines_lack : (bytes : List ℕ) (first next : Text) (ps lines : List Text) → parts 10 bytes ≡ first ∷ next ∷ ps
    → all_but_last (next ∷ ps) ≡ lines → AllLack 10 lines
lines_lack bytes first next ps lines are same =
    subst (AllLack 10) same (lacks_but_last (next ∷ ps) (subst (AllLack 10) are (parts_lack 10 bytes)).1)

bad_cause : (bytes : List ℕ) (first next : Text) (ps : List Text) (n : ℕ) → parts 10 bytes ≡ first ∷ next ∷ ps
    → bytes_eq first version ≡ true → IsBad nothing_read 1 (next ∷ ps) n → HasCause bytes (refusal.BadLine n)
bad_cause bytes first next ps n are is bad =
    let same : first ≡ version = (bytes_eq-Decides first version).0 is in
    let lines : lines_of bytes ≡ (version ∷ bad.front) ++ bad.line ∷ bad.more =
    ap all_but_last are ∙ ap (λ (l : Text). l ∷ all_but_last (next ∷ ps)) same
    ∙ ap (λ (ls : List Text). version ∷ ls) bad.lines_are in
    let count = ap length lines ∙ length-append (version ∷ bad.front) (bad.line ∷ bad.more) in
    let number = bad.number in
    let long = length-append (version ∷ bad.front) (bad.line ∷ []) in
    let front : take (suc (length bad.front)) (lines_of bytes) ≡ version ∷ bad.front =
    ap (take (suc (length bad.front))) lines
    ∙ take_at (version ∷ bad.front) (bad.line ∷ bad.more) (suc (length bad.front)) refl in
    let more : take n (lines_of bytes) ≡ version ∷ (bad.front ++ bad.line ∷ []) =
    ap (take n) (lines ∙ sym (append_assoc (version ∷ bad.front) (bad.line ∷ []) bad.more))
    ∙ take_at ((version ∷ bad.front) ++ bad.line ∷ []) bad.more n (omega (arith, long, number)) in (
      suc (length bad.front),
      omega (arith, number),
      omega (arith, count),
      subst IsFront (sym front) (front_of_run bad.front bad.to bad.run
          (all_front (λ line. cut 10 line ≡ None) bad.front (bad.line ∷ bad.more)
          (lines_lack bytes first next ps (bad.front ++ bad.line ∷ bad.more) are bad.lines_are))),
      (λ other. not_front bad.front bad.line bad.to bad.run bad.not_taken (subst IsFront more other)),
    )

-- the first line is another one
first_cause : (bytes : List ℕ) (first next : Text) (ps : List Text) → parts 10 bytes ≡ first ∷ next ∷ ps
    → bytes_eq first version ≡ false → HasCause bytes (refusal.BadLine 1)
first_cause bytes first next ps are other =
    let lines : lines_of bytes ≡ first ∷ all_but_last (next ∷ ps) = ap all_but_last are in
    let count = ap length lines in
    let one : take 1 (lines_of bytes) ≡ first ∷ [] = ap (take 1) lines in (
      0,
      refl,
      omega (arith, count),
      front_of_none,
      (λ front. not_version first other (subst IsFront one front)),
    )

short_cause : (bytes : List ℕ) (first next : Text) (ps : List Text) → parts 10 bytes ≡ first ∷ next ∷ ps
    → bytes_eq first version ≡ true → IsShort nothing_read (next ∷ ps) → HasCause bytes refusal.Short
short_cause bytes first next ps are is short =
    let same : first ≡ version = (bytes_eq-Decides first version).0 is in
    let parts_are : parts 10 bytes ≡ version ∷ (short.lines ++ short.rest ∷ []) =
    are ∙ ap (λ (l : Text). l ∷ next ∷ ps) same ∙ ap (λ (ls : List Text). version ∷ ls) short.parts_are in
    let inner : all_but_last (next ∷ ps) ≡ short.lines =
    ap all_but_last short.parts_are ∙ last_off short.lines short.rest in
    let lines : lines_of bytes ≡ version ∷ short.lines =
    ap all_but_last parts_are ∙ last_off (version ∷ short.lines) short.rest in (
      subst IsFront (sym lines)
          (front_of_run short.lines short.to short.run (lines_lack bytes first next ps short.lines are inner)),
      no_image bytes short.lines short.rest short.to short.run short.short parts_are,
    )

none_cause : (bytes : List ℕ) (rest : Text) → parts 10 bytes ≡ rest ∷ [] → HasCause bytes refusal.Short
none_cause bytes rest are =
    let lines : lines_of bytes ≡ [] = ap all_but_last are in
    (subst IsFront (sym lines) front_of_none, no_lines bytes rest are)

-- ---- the whole

-- what an end says of the bytes
abbrev pub IsTold : List ℕ → Result Reading ImageRefusal → Type 0
IsTold bytes (Ok s) = IsImage bytes s.tables s.instructions
IsTold bytes (Err why) = HasCause bytes why

told_behind : (bytes : List ℕ) (first next : Text) (ps : List Text) → parts 10 bytes ≡ first ∷ next ∷ ps
    → bytes_eq first version ≡ true → (e : Result Reading ImageRefusal) → EndsIn nothing_read 1 (next ∷ ps) e
    → IsTold bytes e
told_behind bytes first next ps are is (Ok s) ends =
    let same : first ≡ version = (bytes_eq-Decides first version).0 is in
    image_of_run bytes ends.lines s ends.run ends.some
    (are ∙ ap (λ (l : Text). l ∷ next ∷ ps) same ∙ ap (λ (ls : List Text). version ∷ ls) ends.parts_are)
told_behind bytes first next ps are is (Err (refusal.BadLine n)) ends = bad_cause bytes first next ps n are is ends
told_behind bytes first next ps are is (Err refusal.Short) ends = short_cause bytes first next ps are is ends
told_behind bytes first next ps are is (Err refusal.Memory) ends = tt

told_first : (bytes : List ℕ) (first next : Text) (ps : List Text) → parts 10 bytes ≡ first ∷ next ∷ ps
    → (same : Bool) → bytes_eq first version ≡ same
    → IsTold bytes (if same then ending (next ∷ ps) nothing_read 1 else Err (refusal.BadLine 1))
told_first bytes first next ps are true is =
    told_behind bytes first next ps are is (ending (next ∷ ps) nothing_read 1) (ending_told next ps nothing_read 1)
told_first bytes first next ps are false is = first_cause bytes first next ps are is

told_parts : (bytes : List ℕ) (ps : List Text) → parts 10 bytes ≡ ps → HasFirst ps → IsTold bytes (whole_ending ps)
told_parts bytes [] are has = let none = has.are in absurd (cc)
told_parts bytes (rest ∷ []) are has = none_cause bytes rest are
told_parts bytes (first ∷ next ∷ ps) are has = told_first bytes first next ps are (bytes_eq first version) refl

pub whole_told : (bytes : List ℕ) → IsTold bytes (whole_ending (parts 10 bytes))
whole_told bytes = told_parts bytes (parts 10 bytes) refl (some_part 10 bytes)

-- what reading gives
pub read_image : (bytes : List ℕ) (s : Reading) → EndsSo (whole_ending (parts 10 bytes)) (Ok s)
    → IsImage bytes s.tables s.instructions
read_image bytes s is = subst (IsTold bytes) is (whole_told bytes)

pub read_cause : (bytes : List ℕ) (why : ImageRefusal) → EndsSo (whole_ending (parts 10 bytes)) (Err why)
    → HasCause bytes why
read_cause bytes (refusal.BadLine n) is = subst (IsTold bytes) is (whole_told bytes)
read_cause bytes refusal.Short is = subst (IsTold bytes) is (whole_told bytes)
read_cause bytes refusal.Memory is = tt

-- ---- one image

some_tables : (bytes : List ℕ) (tables others : ImageTables) (is js : List Instr) → IsImage bytes tables is
    → IsImage bytes others js → at tables is (rows_come tables is).section ≡ at others js (rows_come others js).section
some_tables bytes tables others is js one other =
    let lines = sym (lines_of_image bytes tables is one) ∙ lines_of_image bytes others js other in
    let rows : rows_of tables is ≡ rows_of others js =
    all_same (rows_of tables is) (rows_of others js) one.rows other.rows (ap (drop 1) lines) in
    ap some_reading (sym (rows_lead tables is) ∙ ap (λ (xs : List Row). puts xs nothing_read) rows
    ∙ rows_lead others js)

-- a text is the image of tables and instructions at most once
pub one_image : (bytes : List ℕ) (tables others : ImageTables) (is js : List Instr) → IsImage bytes tables is
    → IsImage bytes others js → (tables ≡ others) × (is ≡ js)
one_image bytes tables others is js one other =
    let same = some_tables bytes tables others is js one other in
    (ap (λ (r : Reading). r.tables) same, ap (λ (r : Reading). r.instructions) same)
