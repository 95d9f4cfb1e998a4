-- What is read of a line is what it spells, and what it spells is read.
use Rattle.std.proofs.Common.{◌≡◌, ℕ, ◌^◌, ◌<◌, ◌⊎◌, inl, inr, Bool, true, false, List, [], ◌∷◌, ◌++◌, Option, Some}
use Rattle.std.proofs.Common.{None}
use Rattle.std.proofs.Common.{subst, refl, sym, ap, ◌∙◌, arith, append-nil, codes, decimal}
use Rattle.std.specs.Prelude.{if◌then◌else◌, nat_eq}
use Rattle.std.specs.List.{AllByRecursion}
use Rattle.std.specs.Option.{option_map}
use Rattle.cat_image.specs.declared.tables.ImagePos.{ImagePos}
use Rattle.cat_image.specs.declared.tables.ImageField.{ImageField}
use Rattle.cat_image.specs.declared.tables.ImageCase.{ImageCase}
use Rattle.cat_image.specs.declared.tables.ImageKind.{ImageKind}
use Rattle.cat_image.specs.declared.tables.ImageKind.TheVariants as item_kind
use Rattle.cat_image.specs.declared.tables.ImageItem.{ImageItem}
use Rattle.cat_image.specs.declared.tables.ImageTarget.{ImageTarget}
use Rattle.cat_image.specs.declared.row.Row.{Row}
use Rattle.cat_image.specs.declared.row.Row.TheVariants as row
use Rattle.cat_image.specs.declared.names.RowKind.{RowKind}
use Rattle.cat_image.specs.declared.names.RowKind.TheVariants as kind
use Rattle.cat_image.specs.Words.{Text, is_name, is_type, IsSmall, IsSmallPos, pos_text, kind_text}
use Rattle.cat_image.specs.InstructionWords.{instr_text}
use Rattle.cat_image.specs.Rows.{row_text, IsRow, is_what_for, content_text, IsContent}
use Rattle.cat_image.specs.inside.Reads.{when, in_front, cut, number_of, pos_by, pos_of}
use Rattle.cat_image.specs.inside.Names.{look_up, row_kinds, item_kinds}
use Rattle.cat_image.specs.inside.Instructions.{instr_of}
use Rattle.cat_image.specs.inside.ReadRows.{field_of, case_by, case_of, scope_of, item_of, item_named, item}
use Rattle.cat_image.specs.inside.ReadRows.{target_of, instruction_of}
use Rattle.cat_image.specs.inside.ReadRows.{row_of, row_by, row_read}
use Rattle.cat_image.proofs.CutLemmas.{cut_at, cut_name}
use Rattle.cat_image.proofs.NumberLemmas.{number_read, number_written, cut_decimal}
use Rattle.cat_image.proofs.ReadLemmas.{Holds, when_holds, if_holds, map_holds, holds_of, cut_text}
use Rattle.cat_image.proofs.ConstantLemmas.{IsRowOf, constant_read}
use Rattle.cat_image.proofs.InstrLemmas.{look_up_told, IsInstr, instr_read}

-- ---- positions

-- a text is that of a position
pub record IsPos (text : Text) (p : ImagePos) : Type 0 where
  pub text_is : text ≡ pos_text p
  pub small : IsSmallPos p

three_parts : (text first rest second third : Text) (file line column : ℕ) → text ≡ first ++ 58 ∷ rest
    → rest ≡ second ++ 58 ∷ third
    → number_of first ≡ Some file → number_of second ≡ Some line → number_of third ≡ Some column
    → IsPos text (record { file = file; line = line; column = column })
three_parts text first rest second third file line column split again one two three =
    let a = number_read first file one in
    let b = number_read second line two in
    let c = number_read third column three in
    record {
      text_is = split ∙ ap (λ (t : Text). t ++ 58 ∷ rest) a.text_is
          ∙ ap (λ (t : Text). decimal file ++ 58 ∷ t) (again ∙ ap (λ (t : Text). t ++ 58 ∷ third) b.text_is
          ∙ ap (λ (t : Text). decimal line ++ 58 ∷ t) c.text_is);
      small = (a.low, b.low, c.low);
    }

pos_by_read : (text first rest second third : Text) → text ≡ first ++ 58 ∷ rest → rest ≡ second ++ 58 ∷ third
    → (a b c : Option ℕ) → number_of first ≡ a → number_of second ≡ b → number_of third ≡ c
    → Holds (IsPos text) (pos_by a b c)
pos_by_read text first rest second third split again (Some file) (Some line) (Some column) one two three =
    three_parts text first rest second third file line column split again one two three
pos_by_read text first rest second third split again (Some file) (Some line) None one two three = tt
pos_by_read text first rest second third split again (Some file) None c one two three = tt
pos_by_read text first rest second third split again None b c one two three = tt

pub pos_read : (text : Text) → Holds (IsPos text) (pos_of text)
unfolding pos_of
pos_read text =
    when_holds (IsPos text) (cut 58 text)
    (λ a. when (cut 58 a.1) (λ b. pos_by (number_of a.0) (number_of b.0) (number_of b.1)))
    (λ a at. when_holds (IsPos text) (cut 58 a.1) (λ b. pos_by (number_of a.0) (number_of b.0) (number_of b.1))
    (λ b again.
    pos_by_read text a.0 a.1 b.0 b.1 (cut_text 58 text a at) (cut_text 58 a.1 b again)
    (number_of a.0) (number_of b.0) (number_of b.1) refl refl refl))

colon : (n : ℕ) → IsSmall n → cut 58 (decimal n) ≡ None
colon n low = cut_decimal 58 n low (inr (omega arith))

blank : (n : ℕ) → IsSmall n → cut 32 (decimal n) ≡ None
blank n low = cut_decimal 32 n low (inl (omega arith))

pub pos_written : (p : ImagePos) → IsSmallPos p → pos_of (pos_text p) ≡ Some p
unfolding pos_of
pos_written p low =
    let first = cut_at 58 (decimal p.file) (decimal p.line ++ 58 ∷ decimal p.column) (colon p.file low.0) in
    let second = cut_at 58 (decimal p.line) (decimal p.column) (colon p.line low.1) in
    rw (first, second, number_written p.file low.0, number_written p.line low.1, number_written p.column low.2) refl

-- no blank stands in parts with a colon between them
colon_step : (c : ℕ) (cs rest : Text) (same : Bool) → nat_eq c 32 ≡ same → (o : Option (Text × Text)) → cut 32 cs ≡ o
    → (if same then Some ([], cs) else in_front c o) ≡ None → (cut 32 cs ≡ None → cut 32 (cs ++ 58 ∷ rest) ≡ None)
    → cut 32 (c ∷ cs ++ 58 ∷ rest) ≡ None
unfolding cut
colon_step c cs rest true is o at none more = absurd (cc)
colon_step c cs rest false is (Some p) at none more = absurd (cc)
colon_step c cs rest false is None at none more = rw (is, more at) refl

colon_between : (front rest : Text) → cut 32 front ≡ None → cut 32 rest ≡ None → cut 32 (front ++ 58 ∷ rest) ≡ None
unfolding cut
colon_between [] rest first last = rw last refl
colon_between (c ∷ cs) rest first last =
    colon_step c cs rest (nat_eq c 32) refl (cut 32 cs) refl first (λ lacks. colon_between cs rest lacks last)

pub pos_blank : (p : ImagePos) → IsSmallPos p → cut 32 (pos_text p) ≡ None
pos_blank p low =
    colon_between (decimal p.file) (decimal p.line ++ 58 ∷ decimal p.column) (blank p.file low.0)
    (colon_between (decimal p.line) (decimal p.column) (blank p.line low.1) (blank p.column low.2))

-- ---- kinds of items

kinds_named : AllByRecursion (λ entry. entry.0 ≡ kind_text entry.1) item_kinds
unfolding item_kinds
kinds_named = (refl, (refl, (refl, (refl, (refl, (refl, (refl, tt)))))))

kind_read : (text : Text) → Holds (λ k. text ≡ kind_text k) (look_up item_kinds text)
kind_read text = look_up_told kind_text item_kinds kinds_named text

pub kind_written : (k : ImageKind) → look_up item_kinds (kind_text k) ≡ Some k
unfolding item_kinds
kind_written item_kind.Input = refl
kind_written item_kind.Output = refl
kind_written item_kind.Internal = refl
kind_written item_kind.Context = refl
kind_written item_kind.InputOutput = refl
kind_written item_kind.ContextOutput = refl
kind_written item_kind.Called = refl

pub kind_blank : (k : ImageKind) → cut 32 (kind_text k) ≡ None
unfolding cut
kind_blank item_kind.Input = refl
kind_blank item_kind.Output = refl
kind_blank item_kind.Internal = refl
kind_blank item_kind.Context = refl
kind_blank item_kind.InputOutput = refl
kind_blank item_kind.ContextOutput = refl
kind_blank item_kind.Called = refl

-- ---- rows that are read

field_read : (text : Text) → Holds (IsRowOf (codes "field " ++ text)) (field_of text)
unfolding field_of
field_read text =
    let P = IsRowOf (codes "field " ++ text) in
    when_holds P (cut 32 text)
    (λ p. if is_name p.0 then
    (if is_type p.1 then Some (row.Field (record { name = p.0; ty = p.1 })) else None) else None) (λ p at.
    if_holds P (is_name p.0) (if is_type p.1 then Some (row.Field (record { name = p.0; ty = p.1 })) else None)
    (λ named.
    if_holds P (is_type p.1) (Some (row.Field (record { name = p.0; ty = p.1 }))) (λ typed.
    record { line_is = ap (λ (t : Text). codes "field " ++ t) (cut_text 32 text p at); is_row = (named, typed) })))

case_by_read : (text : Text) (o : Option (Text × Text)) → cut 32 text ≡ o
    → Holds (IsRowOf (codes "case " ++ text)) (case_by text o)
case_by_read text None at =
    if_holds (IsRowOf (codes "case " ++ text)) (is_name text)
    (Some (row.Case (record { name = text; content = None }))) (λ named.
    record { line_is = ap (λ (t : Text). codes "case " ++ t) (sym (append-nil text)); is_row = (named, tt) })
case_by_read text (Some p) at =
    let P = IsRowOf (codes "case " ++ text) in
    if_holds P (is_name p.0)
    (if is_type p.1 then Some (row.Case (record { name = p.0; content = Some p.1 })) else None) (λ named.
    if_holds P (is_type p.1) (Some (row.Case (record { name = p.0; content = Some p.1 }))) (λ typed.
    record { line_is = ap (λ (t : Text). codes "case " ++ t) (cut_text 32 text p at); is_row = (named, typed) }))

case_read : (text : Text) → Holds (IsRowOf (codes "case " ++ text)) (case_of text)
unfolding case_of
case_read text = case_by_read text (cut 32 text) refl

scope_read : (text : Text) → Holds (IsRowOf (codes "scope " ++ text)) (scope_of text)
unfolding scope_of
scope_read text =
    let P = IsRowOf (codes "scope " ++ text) in
    when_holds P (cut 32 text)
    (λ p. if is_name p.0 then when (number_of p.1) (λ entry. Some (row.Scope p.0 entry)) else None) (λ p at.
    if_holds P (is_name p.0) (when (number_of p.1) (λ entry. Some (row.Scope p.0 entry))) (λ named.
    when_holds P (number_of p.1) (λ entry. Some (row.Scope p.0 entry)) (λ entry is.
    let n = number_read p.1 entry is in
    record {
      line_is =
          ap (λ (t : Text). codes "scope " ++ t) (cut_text 32 text p at ∙ ap (λ (t : Text). p.0 ++ 32 ∷ t) n.text_is);
      is_row = (named, n.low);
    })))

item_of_read : (name : Text) (k : ImageKind) (text : Text) → is_name name ≡ true
    → Holds (IsRowOf (codes "item " ++ (name ++ 32 ∷ (kind_text k ++ 32 ∷ text)))) (item_of name k text)
unfolding item_of
item_of_read name k text named =
    let P = IsRowOf (codes "item " ++ (name ++ 32 ∷ (kind_text k ++ 32 ∷ text))) in
    when_holds P (cut 32 text) (λ p. when (pos_of p.0)
    (λ pos. if is_what_for k p.1 then Some
    (row.Item (record { name = name; kind = k; pos = pos; what = p.1 })) else None)) (λ p at.
    when_holds P (pos_of p.0)
    (λ pos. if is_what_for k p.1 then Some
    (row.Item (record { name = name; kind = k; pos = pos; what = p.1 })) else None) (λ pos is.
    if_holds P (is_what_for k p.1) (Some (row.Item (record { name = name; kind = k; pos = pos; what = p.1 }))) (λ fits.
    let place = holds_of (IsPos p.0) (pos_of p.0) pos is (pos_read p.0) in
    record {
      line_is = ap (λ (t : Text). codes "item " ++ (name ++ 32 ∷ (kind_text k ++ 32 ∷ t)))
          (cut_text 32 text p at ∙ ap (λ (t : Text). t ++ 32 ∷ p.1) place.text_is);
      is_row = (named, place.small, fits);
    })))

item_named_read : (name text : Text) → is_name name ≡ true
    → Holds (IsRowOf (codes "item " ++ (name ++ 32 ∷ text))) (item_named name text)
unfolding item_named
item_named_read name text named =
    let P = IsRowOf (codes "item " ++ (name ++ 32 ∷ text)) in
    when_holds P (cut 32 text) (λ p. when (look_up item_kinds p.0) (λ k. item_of name k p.1)) (λ p at.
    when_holds P (look_up item_kinds p.0) (λ k. item_of name k p.1) (λ k found.
    let word = holds_of (λ (k : ImageKind). p.0 ≡ kind_text k) (look_up item_kinds p.0) k found (kind_read p.0) in
    let same : name ++ 32 ∷ (kind_text k ++ 32 ∷ p.1) ≡ name ++ 32 ∷ text =
    ap (λ (t : Text). name ++ 32 ∷ t) (sym (cut_text 32 text p at ∙ ap (λ (t : Text). t ++ 32 ∷ p.1) word)) in
    subst (λ (t : Text). Holds (IsRowOf (codes "item " ++ t)) (item_of name k p.1)) same
    (item_of_read name k p.1 named)))

item_read : (text : Text) → Holds (IsRowOf (codes "item " ++ text)) (item text)
unfolding item
item_read text =
    let P = IsRowOf (codes "item " ++ text) in
    when_holds P (cut 32 text) (λ p. if is_name p.0 then item_named p.0 p.1 else None) (λ p at.
    if_holds P (is_name p.0) (item_named p.0 p.1) (λ named.
    subst (λ (t : Text). Holds (IsRowOf (codes "item " ++ t)) (item_named p.0 p.1)) (sym (cut_text 32 text p at))
    (item_named_read p.0 p.1 named)))

target_read : (text : Text) → Holds (IsRowOf (codes "target " ++ text)) (target_of text)
unfolding target_of
target_read text =
    let P = IsRowOf (codes "target " ++ text) in
    when_holds P (cut 32 text)
    (λ p. if is_name p.0 then when (pos_of p.1)
    (λ pos. Some (row.Target (record { place = p.0; pos = pos }))) else None) (λ p at.
    if_holds P (is_name p.0) (when (pos_of p.1) (λ pos. Some (row.Target (record { place = p.0; pos = pos }))))
    (λ named.
    when_holds P (pos_of p.1) (λ pos. Some (row.Target (record { place = p.0; pos = pos }))) (λ pos is.
    let place = holds_of (IsPos p.1) (pos_of p.1) pos is (pos_read p.1) in
    record {
      line_is =
          ap (λ (t : Text). codes "target " ++ t) (cut_text 32 text p at
          ∙ ap (λ (t : Text). p.0 ++ 32 ∷ t) place.text_is);
      is_row = (named, place.small);
    })))

-- the word of a kind
abbrev kind_word : RowKind → Text
kind_word kind.File = codes "file"
kind_word kind.Structure = codes "structure"
kind_word kind.Field = codes "field"
kind_word kind.Enumeration = codes "enumeration"
kind_word kind.Case = codes "case"
kind_word kind.Scope = codes "scope"
kind_word kind.Item = codes "item"
kind_word kind.Target = codes "target"
kind_word kind.Definition = codes "definition"
kind_word kind.Function = codes "function"
kind_word kind.Position = codes "position"
kind_word kind.Constant = codes "const"

row_kinds_named : AllByRecursion (λ entry. entry.0 ≡ kind_word entry.1) row_kinds
unfolding row_kinds
row_kinds_named = (refl, (refl, (refl, (refl, (refl, (refl, (refl, (refl, (refl, (refl, (refl, (refl, tt))))))))))))

kind_line : (k : RowKind) (rest : Text) → Holds (IsRowOf (kind_word k ++ 32 ∷ rest)) (row_of k rest)
kind_line kind.File rest = record { line_is = refl; is_row = tt }
kind_line kind.Structure rest =
    if_holds (IsRowOf (codes "structure " ++ rest)) (is_name rest) (Some (row.Structure rest)) (λ named.
    record { line_is = refl; is_row = named })
kind_line kind.Field rest = field_read rest
kind_line kind.Enumeration rest =
    if_holds (IsRowOf (codes "enumeration " ++ rest)) (is_name rest) (Some (row.Enumeration rest)) (λ named.
    record { line_is = refl; is_row = named })
kind_line kind.Case rest = case_read rest
kind_line kind.Scope rest = scope_read rest
kind_line kind.Item rest = item_read rest
kind_line kind.Target rest = target_read rest
kind_line kind.Definition rest =
    map_holds (IsRowOf (codes "definition " ++ rest)) (pos_of rest) row.Definition (λ pos is.
    let place = holds_of (IsPos rest) (pos_of rest) pos is (pos_read rest) in
    record { line_is = ap (λ (t : Text). codes "definition " ++ t) place.text_is; is_row = place.small })
kind_line kind.Function rest =
    map_holds (IsRowOf (codes "function " ++ rest)) (number_of rest) row.Function (λ entry is.
    let n = number_read rest entry is in
    record { line_is = ap (λ (t : Text). codes "function " ++ t) n.text_is; is_row = n.low })
kind_line kind.Position rest =
    map_holds (IsRowOf (codes "position " ++ rest)) (pos_of rest) row.Position (λ pos is.
    let place = holds_of (IsPos rest) (pos_of rest) pos is (pos_read rest) in
    record { line_is = ap (λ (t : Text). codes "position " ++ t) place.text_is; is_row = place.small })
kind_line kind.Constant rest = constant_read rest

instruction_line : (first text : Text) → Holds (IsRowOf (first ++ 32 ∷ text)) (instruction_of first text)
unfolding instruction_of
instruction_line first text =
    let P = IsRowOf (first ++ 32 ∷ text) in
    when_holds P (number_of first) (λ n. when (instr_of text) (λ i. Some (row.Instruction n i))) (λ n is.
    when_holds P (instr_of text) (λ i. Some (row.Instruction n i)) (λ i found.
    let number = number_read first n is in
    let made = holds_of (IsInstr text) (instr_of text) i found (instr_read text) in
    record {
      line_is = ap (λ (t : Text). t ++ 32 ∷ text) number.text_is ∙ ap (λ (t : Text). decimal n ++ 32 ∷ t) made.text_is;
      is_row = (number.low, made.small);
    }))

line_by : (word rest : Text) (o : Option RowKind) → Holds (λ k. word ≡ kind_word k) o
    → Holds (IsRowOf (word ++ 32 ∷ rest)) (row_by o word rest)
line_by word rest None told = instruction_line word rest
line_by word rest (Some k) told =
    subst (λ (w : Text). Holds (IsRowOf (w ++ 32 ∷ rest)) (row_of k rest)) (sym told) (kind_line k rest)

-- what is read of a line has that line
pub line_read : (line : Text) → Holds (IsRowOf line) (row_read line)
unfolding row_read
line_read line =
    when_holds (IsRowOf line) (cut 32 line) (λ p. row_by (look_up row_kinds p.0) p.0 p.1) (λ p at.
    subst (λ (t : Text). Holds (IsRowOf t) (row_by (look_up row_kinds p.0) p.0 p.1)) (sym (cut_text 32 line p at))
    (line_by p.0 p.1 (look_up row_kinds p.0) (look_up_told kind_word row_kinds row_kinds_named p.0)))
