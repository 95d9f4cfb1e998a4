-- Lines that were taken, one behind the other, and those of an image.
use Rattle.std.proofs.Common.{subst, ◌≡◌, ◌≢◌, ℕ, zero, suc, ◌+◌, ◌<◌, ◌≤◌, Bool, true, false, List, [], ◌∷◌, ◌++◌}
use Rattle.std.proofs.Common.{map, length}
use Rattle.std.proofs.Common.{Option, Some, None, refl, sym, ap, ◌∙◌, arith, append-nil, append_assoc}
use Rattle.std.specs.Prelude.{nat_le, ◌==◌, if◌then◌else◌}
use Rattle.std.specs.List.{AllByRecursion, flat_map}
use Rattle.std.specs.Str.{is_utf8}
use Rattle.cat_code.specs.declared.instr.Instr.{Instr}
use Rattle.cat_image.specs.declared.tables.ImageTables.{ImageTables}
use Rattle.cat_image.specs.declared.row.Row.{Row}
use Rattle.cat_image.specs.declared.row.Row.TheVariants as row
use Rattle.cat_image.specs.declared.reading.Reading.{Reading}
use Rattle.cat_image.specs.Words.{Text}
use Rattle.cat_image.specs.Rows.{row_text, IsRow, rows_of}
use Rattle.cat_image.specs.inside.Reads.{when}
use Rattle.cat_image.specs.inside.ReadRows.{row_read}
use Rattle.cat_image.specs.inside.Reading.{nothing_read}
use Rattle.cat_image.specs.inside.Putting.{put}
use Rattle.cat_image.specs.inside.Endings.{taken}
use Rattle.cat_image.proofs.ReadLemmas.{Holds, holds_of, all_append}
use Rattle.cat_image.proofs.ConstantLemmas.{IsRowOf}
use Rattle.cat_image.proofs.RowLemmas.{line_read}
use Rattle.cat_image.proofs.WrittenLemmas.{row_written}
use Rattle.cat_image.proofs.PutLemmas.{IsStanding, HasMore, put_more}

-- ---- rows

-- where rows lead, one behind the other
abbrev pub puts : List Row → Reading → Option Reading
puts [] r = Some r
puts (x ∷ xs) r = when (put r x) (puts xs)

append_step : (xs ys : List Row) → ((s : Reading) → puts (xs ++ ys) s ≡ when (puts xs s) (puts ys))
    → (o : Option Reading)
    → when o (puts (xs ++ ys)) ≡ when (when o (puts xs)) (puts ys)
append_step xs ys more None = refl
append_step xs ys more (Some s) = more s

pub puts_append : (xs ys : List Row) (r : Reading) → puts (xs ++ ys) r ≡ when (puts xs r) (puts ys)
puts_append [] ys r = refl
puts_append (x ∷ xs) ys r = append_step xs ys (puts_append xs ys) (put r x)

-- what stands behind rows
pub record HasRows (r : Reading) (xs : List Row) (s : Reading) : Type 0 where
  pub rows : rows_of s.tables s.instructions ≡ rows_of r.tables r.instructions ++ xs
  pub standing : IsStanding s

more_step : (x : Row) (xs : List Row) (r s : Reading)
    → ((t s : Reading) → IsStanding t → puts xs t ≡ Some s → HasRows t xs s) → (o : Option Reading)
    → Holds (HasMore r x) o → when o (puts xs) ≡ Some s → HasRows r (x ∷ xs) s
more_step x xs r s further None holds is = absurd (cc)
more_step x xs r s further (Some t) holds is =
    let rest = further t s holds.standing is in
    record {
      rows = rest.rows ∙ ap (λ (rows : List Row). rows ++ xs) holds.rows
          ∙ append_assoc (rows_of r.tables r.instructions) (x ∷ []) xs;
      standing = rest.standing;
    }

pub puts_more : (xs : List Row) (r s : Reading) → IsStanding r → puts xs r ≡ Some s → HasRows r xs s
puts_more [] r s standing is =
    let same : r ≡ s = cc in
    record {
      rows = ap (λ (t : Reading). rows_of t.tables t.instructions) (sym same)
          ∙ sym (append-nil (rows_of r.tables r.instructions));
      standing = subst IsStanding same standing;
    }
puts_more (x ∷ xs) r s standing is = more_step x xs r s (puts_more xs) (put r x) (put_more r x standing) is

-- ---- lines

-- lines that are those of rows, which lead from one state to another
pub record IsRun (r : Reading) (lines : List Text) (s : Reading) : Type 0 where
  pub rows : List Row
  pub lines_are : lines ≡ map row_text rows
  pub are_rows : AllByRecursion IsRow rows
  pub texts : AllByRecursion (λ line. is_utf8 line ≡ true) lines
  pub leads : puts rows r ≡ Some s

-- a line that is taken is that of a row
pub record IsTaken (r : Reading) (line : Text) (s : Reading) : Type 0 where
  pub row : Row
  pub is_row : IsRowOf line row
  pub text : is_utf8 line ≡ true
  pub leads : put r row ≡ Some s

row_taken : (r : Reading) (line : Text) (s : Reading) → is_utf8 line ≡ true → (o : Option Row) → Holds (IsRowOf line) o
    → when o (put r) ≡ Some s → IsTaken r line s
row_taken r line s text None holds is = absurd (cc)
row_taken r line s text (Some x) holds is = record { row = x; is_row = holds; text = text; leads = is }

taken_step : (r : Reading) (line : Text) (s : Reading) (text : Bool) → is_utf8 line ≡ text
    → when (if text then Some line else None) (λ read. when (row_read read) (put r)) ≡ Some s → IsTaken r line s
taken_step r line s false text is = absurd (cc)
taken_step r line s true text is = row_taken r line s text (row_read line) (line_read line) is

pub line_taken : (r : Reading) (line : Text) (s : Reading) → taken r line ≡ Some s → IsTaken r line s
line_taken r line s is = taken_step r line s (is_utf8 line) refl is

-- a line more in front
pub run_more : (r s t : Reading) (line : Text) (lines : List Text) → IsTaken r line s → IsRun s lines t
    → IsRun r (line ∷ lines) t
run_more r s t line lines one rest = record {
  rows = one.row ∷ rest.rows;
  lines_are = ap (λ (ls : List Text). ls ++ lines) (ap (λ (l : Text). l ∷ []) one.is_row.line_is)
      ∙ ap (λ (ls : List Text). row_text one.row ∷ ls) rest.lines_are;
  are_rows = (one.is_row.is_row, rest.are_rows);
  texts = (one.text, rest.texts);
  leads = ap (λ (o : Option Reading). when o (puts rest.rows)) one.leads ∙ rest.leads;
}

pub run_none : (r : Reading) → IsRun r [] r
run_none r = record { rows = []; lines_are = refl; are_rows = tt; texts = tt; leads = refl }

-- ---- lines of one text are those of the same rows

abbrev some_row : Option Row → Row → Row
some_row None other = other
some_row (Some x) other = x

pub same_row : (x y : Row) → IsRow x → IsRow y → row_text x ≡ row_text y → x ≡ y
same_row x y one other same =
    ap (λ (o : Option Row). some_row o y) (sym (row_written x one) ∙ ap row_read same ∙ row_written y other)

abbrev first_text : List Text → Text
first_text [] = []
first_text (t ∷ ts) = t

abbrev behind_text : List Text → List Text
behind_text [] = []
behind_text (t ∷ ts) = ts

-- rows whose texts begin with those of others
pub record IsSplit (ys xs : List Row) (line : Text) : Type 0 where
  pub one : Row
  pub more : List Row
  pub are : ys ≡ xs ++ one ∷ more
  pub text : row_text one ≡ line
  pub is_row : IsRow one

pub same_rows : (xs ys : List Row) (line : Text) (rest : List Text) → AllByRecursion IsRow xs → AllByRecursion IsRow ys
    → map row_text ys ≡ map row_text xs ++ line ∷ rest → IsSplit ys xs line
same_rows [] [] line rest one other same = absurd (cc)
same_rows [] (y ∷ ys) line rest one other same = record {
  one = y;
  more = ys;
  are = refl;
  text = ap first_text same;
  is_row = other.0;
}
same_rows (x ∷ xs) [] line rest one other same = absurd (cc)
same_rows (x ∷ xs) (y ∷ ys) line rest one other same =
    let split = same_rows xs ys line rest one.1 other.1 (ap behind_text same) in
    let first : y ≡ x = same_row y x other.0 one.0 (ap first_text same) in
    record {
      one = split.one;
      more = split.more;
      are = ap (λ (z : Row). z ∷ ys) first ∙ ap (λ (zs : List Row). x ∷ zs) split.are;
      text = split.text;
      is_row = split.is_row;
    }
