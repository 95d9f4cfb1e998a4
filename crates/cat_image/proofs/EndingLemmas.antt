-- What reading ends in: the run of the lines in front, and why it ends there.
use Rattle.std.proofs.Common.{subst, ◌≡◌, ◌≢◌, ℕ, zero, suc, ◌+◌, ◌<◌, Bool, true, false, List, [], ◌∷◌, ◌++◌, map}
use Rattle.std.proofs.Common.{length, take}
use Rattle.std.proofs.Common.{Option, Some, None, refl, sym, ap, ◌∙◌, arith, codes}
use Rattle.std.specs.Prelude.{Result, Ok, Err, ◌==◌, if◌then◌else◌}
use Rattle.std.specs.Str.{bytes_eq}
use Rattle.std.proofs.lemmas.Bool.Decides.{nat_tests}
use Rattle.cat_code.specs.declared.instr.Instr.{Instr}
use Rattle.cat_image.specs.declared.refusal.ImageRefusal.{ImageRefusal}
use Rattle.cat_image.specs.declared.refusal.ImageRefusal.TheVariants as refusal
use Rattle.cat_image.specs.declared.reading.Reading.{Reading}
use Rattle.cat_image.specs.Words.{Text, parts}
use Rattle.cat_image.specs.Refused.{all_but_last}
use Rattle.cat_image.specs.declared.row.Row.{Row}
use Rattle.cat_image.specs.inside.Reads.{when, cut}
use Rattle.cat_image.specs.inside.ReadRows.{row_read}
use Rattle.cat_image.specs.inside.Reading.{Takes, nothing_read}
use Rattle.cat_image.specs.inside.Putting.{put}
use Rattle.cat_image.specs.inside.Endings.{text_in, taken, ended, goes_on, ending, whole_ending}
use Rattle.cat_image.proofs.CutLemmas.{IsCutTo, cut_told, HasFirst, some_part}
use Rattle.cat_image.proofs.RunLemmas.{IsRun, IsTaken, line_taken, run_more, run_none}

-- ---- how reading ends

-- all lines are taken, and nothing stands behind the last one
pub record IsReadTo (r : Reading) (parts : List Text) (s : Reading) : Type 0 where
  pub lines : List Text
  pub parts_are : parts ≡ lines ++ [] ∷ []
  pub run : IsRun r lines s
  pub some : 0 < length s.instructions

-- a line isn't taken
pub record IsBad (r : Reading) (n : ℕ) (parts : List Text) (m : ℕ) : Type 0 where
  pub front : List Text
  pub line : Text
  pub more : List Text
  pub number : m ≡ n + suc (length front)
  pub lines_are : all_but_last parts ≡ front ++ line ∷ more
  pub to : Reading
  pub run : IsRun r front to
  pub not_taken : taken to line ≡ None

-- all lines are taken, and it isn't whole
pub record IsShort (r : Reading) (parts : List Text) : Type 0 where
  pub lines : List Text
  pub rest : Text
  pub parts_are : parts ≡ lines ++ rest ∷ []
  pub to : Reading
  pub run : IsRun r lines to
  pub short : rest ≡ [] → to.instructions ≡ []

-- by how it ends
abbrev pub EndsIn : Reading → ℕ → List Text → Result Reading ImageRefusal → Type 0
EndsIn r n parts (Ok s) = IsReadTo r parts s
EndsIn r n parts (Err (refusal.BadLine m)) = IsBad r n parts m
EndsIn r n parts (Err refusal.Short) = IsShort r parts
EndsIn r n parts (Err refusal.Memory) = Unit {0}

-- ---- behind a line

more_ends : (r s : Reading) (n : ℕ) (line next : Text) (parts : List Text) → IsTaken r line s
    → (e : Result Reading ImageRefusal)
    → EndsIn s (n + 1) (next ∷ parts) e → EndsIn r n (line ∷ next ∷ parts) e
more_ends r s n line next parts taken (Ok t) ends = record {
  lines = line ∷ ends.lines;
  parts_are = ap (λ (ps : List Text). line ∷ ps) ends.parts_are;
  run = run_more r s t line ends.lines taken ends.run;
  some = ends.some;
}
more_ends r s n line next parts taken (Err (refusal.BadLine m)) ends = record {
  front = line ∷ ends.front;
  line = ends.line;
  more = ends.more;
  number = let count = ends.number in omega (arith, count);
  lines_are = ap (λ (ls : List Text). line ∷ ls) ends.lines_are;
  to = ends.to;
  run = run_more r s ends.to line ends.front taken ends.run;
  not_taken = ends.not_taken;
}
more_ends r s n line next parts taken (Err refusal.Short) ends = record {
  lines = line ∷ ends.lines;
  rest = ends.rest;
  parts_are = ap (λ (ps : List Text). line ∷ ps) ends.parts_are;
  to = ends.to;
  run = run_more r s ends.to line ends.lines taken ends.run;
  short = ends.short;
}
more_ends r s n line next parts taken (Err refusal.Memory) ends = tt

line_ends : (r : Reading) (n : ℕ) (line next : Text) (parts : List Text)
    → ((s : Reading) → EndsIn s (n + 1) (next ∷ parts) (ending (next ∷ parts) s (n + 1)))
    → (o : Option Reading) → taken r line ≡ o
    → EndsIn r n (line ∷ next ∷ parts) (goes_on (n + 1) o (λ s. ending (next ∷ parts) s (n + 1)))
line_ends r n line next parts further None at = record {
  front = [];
  line = line;
  more = all_but_last (next ∷ parts);
  number = refl;
  lines_are = refl;
  to = r;
  run = run_none r;
  not_taken = at;
}
line_ends r n line next parts further (Some s) at =
    more_ends r s n line next parts (line_taken r line s at) (ending (next ∷ parts) s (n + 1)) (further s)

last_ends : (r : Reading) (n : ℕ) (rest : Text) (is : List Instr) → r.instructions ≡ is
    → EndsIn r n (rest ∷ []) (ended r is rest)
last_ends r n rest [] same = record {
  lines = [];
  rest = rest;
  parts_are = refl;
  to = r;
  run = run_none r;
  short = λ empty. same;
}
last_ends r n [] (i ∷ is) same = record {
  lines = [];
  parts_are = refl;
  run = run_none r;
  some = let count = ap length same in omega (arith, count);
}
last_ends r n (byte ∷ bytes) (i ∷ is) same = record {
  lines = [];
  rest = byte ∷ bytes;
  parts_are = refl;
  to = r;
  run = run_none r;
  short = λ empty. absurd (cc);
}

pub ending_told : (part : Text) (parts : List Text) (r : Reading) (n : ℕ)
    → EndsIn r n (part ∷ parts) (ending (part ∷ parts) r n)
ending_told rest [] r n = last_ends r n rest r.instructions refl
ending_told line (next ∷ parts) r n =
    line_ends r n line next parts (λ s. ending_told next parts s (n + 1)) (taken r line) refl

-- ---- as lines are read

ending_more : (line : Text) (ps : List Text) (r : Reading) (n : ℕ) → HasFirst ps
    → ending (line ∷ ps) r n ≡ goes_on (n + 1) (taken r line) (λ s. ending ps s (n + 1))
ending_more line ps r n has =
    ap (λ (qs : List Text). ending (line ∷ qs) r n) has.are
    ∙ sym (ap (λ (qs : List Text). goes_on (n + 1) (taken r line) (λ s. ending qs s (n + 1))) has.are)

parts_cut : (text : Text) (p : Text × Text) → Some p ≡ cut 10 text → parts 10 text ≡ p.0 ∷ parts 10 p.1
parts_cut text p is = (subst (IsCutTo 10 text) (sym is) (cut_told 10 text)).1

parts_uncut : (text : Text) → None ≡ cut 10 text → parts 10 text ≡ text ∷ []
parts_uncut text is = subst (IsCutTo 10 text) (sym is) (cut_told 10 text)

at_line : (text : Text) (p : Text × Text) (r : Reading) (n : ℕ) → Some p ≡ cut 10 text
    → ending (parts 10 text) r n ≡ goes_on (n + 1) (taken r p.0) (λ s. ending (parts 10 p.1) s (n + 1))
at_line text p r n is =
    ap (λ (ps : List Text). ending ps r n) (parts_cut text p is)
    ∙ ending_more p.0 (parts 10 p.1) r n (some_part 10 p.1)

takes_some : (o : Option Reading) (s : Reading) → Takes o true s → o ≡ Some s
takes_some None s takes = absurd (cc)
takes_some (Some t) s takes = ap (λ (u : Reading). Some u) (sym takes.1)

takes_none : (o : Option Reading) (s : Reading) → Takes o false s → o ≡ None
takes_none None s takes = refl
takes_none (Some t) s takes = let other = takes.0 in absurd (cc)

-- behind a line that is taken
pub taken_on : (text : Text) (p : Text × Text) (r s : Reading) (n : ℕ) → Some p ≡ cut 10 text
    → Takes (taken r p.0) true s
    → ending (parts 10 p.1) s (n + 1) ≡ ending (parts 10 text) r n
taken_on text p r s n is takes =
    sym (at_line text p r n is
    ∙ ap (λ (o : Option Reading). goes_on (n + 1) o (λ s. ending (parts 10 p.1) s (n + 1)))
    (takes_some (taken r p.0) s takes))

-- at one that isn't
pub bad_line : (text : Text) (p : Text × Text) (r s : Reading) (n : ℕ) → Some p ≡ cut 10 text
    → Takes (taken r p.0) false s
    → ending (parts 10 text) r n ≡ Err (refusal.BadLine (n + 1))
bad_line text p r s n is takes =
    at_line text p r n is
    ∙ ap (λ (o : Option Reading). goes_on (n + 1) o (λ s. ending (parts 10 p.1) s (n + 1)))
    (takes_none (taken r p.0) s takes)

pub at_end : (text : Text) (r : Reading) (n : ℕ) → None ≡ cut 10 text
    → ending (parts 10 text) r n ≡ ended r r.instructions text
at_end text r n is = ap (λ (ps : List Text). ending ps r n) (parts_uncut text is)

pub ended_none : (r : Reading) (is : List Instr) (rest : Text) → is ≡ [] → ended r is rest ≡ Err refusal.Short
ended_none r [] rest none = refl
ended_none r (i ∷ is) rest none = absurd (cc)

pub ended_rest : (r : Reading) (is : List Instr) (rest : Text) → (length rest == 0) ≡ false
    → ended r is rest ≡ Err refusal.Short
ended_rest r [] rest some = refl
ended_rest r (i ∷ is) [] some = absurd (cc)
ended_rest r (i ∷ is) (b ∷ bs) some = refl

pub ended_whole : (r : Reading) (is : List Instr) (rest : Text) → (is ≡ [] → ⊥) → (length rest == 0) ≡ true
    → ended r is rest ≡ Ok r
ended_whole r [] rest some empty = absurd (some refl)
ended_whole r (i ∷ is) [] some empty = refl
ended_whole r (i ∷ is) (b ∷ bs) some empty = absurd (grind (arith, nat_tests, empty))

-- ---- the first line

whole_more : (line : Text) (ps : List Text) → HasFirst ps → whole_ending (line ∷ ps)
    ≡ (if bytes_eq line (codes "catala-code 1") then ending ps nothing_read 1 else Err (refusal.BadLine 1))
whole_more line ps has =
    ap (λ (qs : List Text). whole_ending (line ∷ qs)) has.are
    ∙ sym (ap (λ (qs : List Text). if bytes_eq line (codes "catala-code 1") then ending qs nothing_read 1 else Err
    (refusal.BadLine 1)) has.are)

pub no_first : (text : Text) → None ≡ cut 10 text → whole_ending (parts 10 text) ≡ Err refusal.Short
no_first text is = ap whole_ending (parts_uncut text is)

pub other_first : (text : Text) (p : Text × Text) → Some p ≡ cut 10 text → bytes_eq p.0 (codes "catala-code 1") ≡ false
    → whole_ending (parts 10 text) ≡ Err (refusal.BadLine 1)
other_first text p is other =
    ap whole_ending (parts_cut text p is) ∙ whole_more p.0 (parts 10 p.1) (some_part 10 p.1)
    ∙ ap (λ (same : Bool). if same then ending (parts 10 p.1) nothing_read 1 else Err (refusal.BadLine 1)) other

pub version_first : (text : Text) (p : Text × Text) → Some p ≡ cut 10 text → bytes_eq p.0 (codes "catala-code 1") ≡ true
    → ending (parts 10 p.1) nothing_read 1 ≡ whole_ending (parts 10 text)
version_first text p is same =
    sym (ap whole_ending (parts_cut text p is) ∙ whole_more p.0 (parts 10 p.1) (some_part 10 p.1)
    ∙ ap (λ (same : Bool). if same then ending (parts 10 p.1) nothing_read 1 else Err (refusal.BadLine 1)) same)

-- ---- a line as text

text_taken : (r : Reading) (line text : Text) → Some text ≡ text_in line → taken r line ≡ when (row_read text) (put r)
text_taken r line text is = ap (λ (o : Option Text). when o (λ t. when (row_read t) (put r))) (sym is)

pub no_text : (r s : Reading) (line : Text) → None ≡ text_in line → Takes (taken r line) false s
no_text r s line none =
    subst (λ (o : Option Text). Takes (when o (λ t. when (row_read t) (put r))) false s) none refl

pub no_row : (r s : Reading) (line text : Text) → Some text ≡ text_in line → None ≡ row_read text
    → Takes (taken r line) false s
no_row r s line text is none =
    subst (λ (o : Option Reading). Takes o false s)
    (sym (text_taken r line text is ∙ ap (λ (o : Option Row). when o (put r)) (sym none))) refl

pub row_put : (r : Reading) (line text : Text) (row : Row) → Some text ≡ text_in line → Some row ≡ row_read text
    → put r row ≡ taken r line
row_put r line text row is some =
    sym (text_taken r line text is ∙ ap (λ (o : Option Row). when o (put r)) (sym some))
