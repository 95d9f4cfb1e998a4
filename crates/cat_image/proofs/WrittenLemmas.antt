-- What a row spells is read.
use Rattle.std.proofs.Common.{◌≡◌, ℕ, ◌<◌, ◌≤◌, Bool, true, false, List, [], ◌∷◌, ◌++◌, length, Option, Some, None}
use Rattle.std.proofs.Common.{refl, sym, ap, ◌∙◌, inl, arith, append-nil, codes, decimal}
use Rattle.std.specs.Prelude.{nat_eq, if◌then◌else◌}
use Rattle.std.specs.Str.Parse.{AllDigits}
use Rattle.std.proofs.lemmas.Bool.Decides.{nat_tests}
use Rattle.std.proofs.lemmas.Fmt.{decimal_is_IsNumeral}
use Rattle.std.proofs.lemmas.Str.Parse.{digit_from_value}
use Rattle.std.specs.Option.{option_map}
use Rattle.cat_code.specs.declared.instr.Instr.{Instr}
use Rattle.cat_image.specs.declared.tables.ImageField.{ImageField}
use Rattle.cat_image.specs.declared.tables.ImageCase.{ImageCase}
use Rattle.cat_image.specs.declared.tables.ImageItem.{ImageItem}
use Rattle.cat_image.specs.declared.tables.ImageTarget.{ImageTarget}
use Rattle.cat_image.specs.declared.row.Row.{Row}
use Rattle.cat_image.specs.declared.row.Row.TheVariants as row
use Rattle.cat_image.specs.declared.names.RowKind.{RowKind}
use Rattle.cat_image.specs.declared.names.RowKind.TheVariants as kind
use Rattle.cat_image.specs.Words.{Text, is_name, is_type, IsSmall, pos_text, kind_text}
use Rattle.cat_image.specs.InstructionWords.{instr_text, IsSmallInstr}
use Rattle.cat_image.specs.Rows.{row_text, IsRow, IsContent, content_text}
use Rattle.cat_image.specs.inside.Reads.{when, cut, number_of, pos_of}
use Rattle.cat_image.specs.inside.Names.{look_up, row_kinds, item_kinds}
use Rattle.cat_image.specs.inside.Instructions.{instr_of}
use Rattle.cat_image.specs.inside.ReadRows.{structure_of, field_of, enumeration_of, case_of, scope_of, item_of}
use Rattle.cat_image.specs.inside.ReadRows.{item_named, item}
use Rattle.cat_image.specs.inside.ReadRows.{target_of, instruction_of, row_of, row_read}
use Rattle.cat_image.proofs.CutLemmas.{cut_at, cut_name}
use Rattle.cat_image.proofs.NumberLemmas.{number_written, cut_decimal}
use Rattle.cat_image.proofs.ConstantLemmas.{constant_written}
use Rattle.cat_image.proofs.WrittenInstr.{instr_written}
use Rattle.cat_image.proofs.RowLemmas.{pos_written, pos_blank, kind_written, kind_blank}

-- ---- what stands behind the word of a line

field_written : (f : ImageField) → is_name f.name ≡ true → is_type f.ty ≡ true
    → field_of (f.name ++ 32 ∷ f.ty) ≡ Some (row.Field f)
unfolding field_of
field_written f named typed = rw (cut_at 32 f.name f.ty (cut_name f.name named), named, typed) refl

bare_written : (name : Text) → is_name name ≡ true
    → case_of (name ++ []) ≡ Some (row.Case (record { name = name; content = None }))
unfolding case_of
bare_written name named =
    let same : name ++ [] ≡ name = append-nil name in
    rw (same, cut_name name named, named) refl

content_written : (name ty : Text) → is_name name ≡ true → is_type ty ≡ true
    → case_of (name ++ 32 ∷ ty) ≡ Some (row.Case (record { name = name; content = Some ty }))
unfolding case_of
content_written name ty named typed = rw (cut_at 32 name ty (cut_name name named), named, typed) refl

case_written : (name : Text) (content : Option Text) → is_name name ≡ true → IsContent content
    → case_of (name ++ content_text content) ≡ Some (row.Case (record { name = name; content = content }))
case_written name None named typed = bare_written name named
case_written name (Some ty) named typed = content_written name ty named typed

scope_written : (name : Text) (entry : ℕ) → is_name name ≡ true → IsSmall entry
    → scope_of (name ++ 32 ∷ decimal entry) ≡ Some (row.Scope name entry)
unfolding scope_of
scope_written name entry named low =
    rw (cut_at 32 name (decimal entry) (cut_name name named), named, number_written entry low) refl

item_of_written : (i : ImageItem) → IsRow (row.Item i)
    → item_of i.name i.kind (pos_text i.pos ++ 32 ∷ i.what) ≡ Some (row.Item i)
unfolding item_of
item_of_written i is =
    rw (cut_at 32 (pos_text i.pos) i.what (pos_blank i.pos is.1), pos_written i.pos is.1, is.2) refl

item_named_written : (i : ImageItem) → IsRow (row.Item i)
    → item_named i.name (kind_text i.kind ++ 32 ∷ (pos_text i.pos ++ 32 ∷ i.what)) ≡ Some (row.Item i)
unfolding item_named
item_named_written i is =
    rw (cut_at 32 (kind_text i.kind) (pos_text i.pos ++ 32 ∷ i.what) (kind_blank i.kind), kind_written i.kind)
    (item_of_written i is)

item_written : (i : ImageItem) → IsRow (row.Item i)
    → item (i.name ++ 32 ∷ (kind_text i.kind ++ 32 ∷ (pos_text i.pos ++ 32 ∷ i.what))) ≡ Some (row.Item i)
unfolding item
item_written i is =
    rw (cut_at 32 i.name (kind_text i.kind ++ 32 ∷ (pos_text i.pos ++ 32 ∷ i.what)) (cut_name i.name is.0), is.0)
    (item_named_written i is)

target_written : (t : ImageTarget) → IsRow (row.Target t)
    → target_of (t.place ++ 32 ∷ pos_text t.pos) ≡ Some (row.Target t)
unfolding target_of
target_written t is =
    rw (cut_at 32 t.place (pos_text t.pos) (cut_name t.place is.0), is.0, pos_written t.pos is.1) refl

-- ---- a line

by_kind : (line word rest : Text) (k : RowKind) → cut 32 line ≡ Some (word, rest) → look_up row_kinds word ≡ Some k
    → row_read line ≡ row_of k rest
unfolding row_read
by_kind line word rest k at found = rw (at, found) refl

-- no number is the word of a line
pub no_kind_of : (b : ℕ) (bs : Text) → (48 ≤ b) × (b ≤ 57) → look_up row_kinds (b ∷ bs) ≡ None
unfolding row_kinds
no_kind_of b bs within =
    let c : nat_eq b 99 ≡ false = grind (arith, nat_tests) in
    let d : nat_eq b 100 ≡ false = grind (arith, nat_tests) in
    let e : nat_eq b 101 ≡ false = grind (arith, nat_tests) in
    let f : nat_eq b 102 ≡ false = grind (arith, nat_tests) in
    let i : nat_eq b 105 ≡ false = grind (arith, nat_tests) in
    let p : nat_eq b 112 ≡ false = grind (arith, nat_tests) in
    let s : nat_eq b 115 ≡ false = grind (arith, nat_tests) in
    let t : nat_eq b 116 ≡ false = grind (arith, nat_tests) in
    rw (f, s, e, c, i, t, d, p) refl

digits_no_kind : (bs : Text) → AllDigits 10 bs → 0 < length bs → look_up row_kinds bs ≡ None
digits_no_kind [] all some = absurd (omega (arith, some))
digits_no_kind (b ∷ bs) all some = no_kind_of b bs (digit_from_value b all.0)

no_kind : (n : ℕ) → IsSmall n → look_up row_kinds (decimal n) ≡ None
no_kind n low =
    let is = decimal_is_IsNumeral n (omega (arith, low)) in
    digits_no_kind (decimal n) is.0.1 is.0.0

by_number : (n : ℕ) (i : Instr) → IsSmall n → IsSmallInstr i
    → row_read (decimal n ++ 32 ∷ instr_text i) ≡ Some (row.Instruction n i)
unfolding row_read instruction_of
by_number n i low small =
    rw (
      cut_at 32 (decimal n) (instr_text i) (cut_decimal 32 n low (inl (omega arith))),
      no_kind n low,
      number_written n low,
      instr_written i small,
    ) refl

pub row_written : (r : Row) → IsRow r → row_read (row_text r) ≡ Some r
unfolding cut row_kinds
row_written (row.File name) is = by_kind (codes "file " ++ name) (codes "file") name kind.File refl refl
row_written (row.Structure name) is =
    by_kind (codes "structure " ++ name) (codes "structure") name kind.Structure refl refl ∙ rw is refl
row_written (row.Field f) is =
    by_kind (row_text (row.Field f)) (codes "field") (f.name ++ 32 ∷ f.ty) kind.Field refl refl
    ∙ field_written f is.0 is.1
row_written (row.Enumeration name) is =
    by_kind (codes "enumeration " ++ name) (codes "enumeration") name kind.Enumeration refl refl ∙ rw is refl
row_written (row.Case c) is =
    by_kind (row_text (row.Case c)) (codes "case") (c.name ++ content_text c.content) kind.Case refl refl
    ∙ case_written c.name c.content is.0 is.1
row_written (row.Scope name entry) is =
    by_kind (row_text (row.Scope name entry)) (codes "scope") (name ++ 32 ∷ decimal entry) kind.Scope refl refl
    ∙ scope_written name entry is.0 is.1
row_written (row.Item i) is =
    by_kind (row_text (row.Item i)) (codes "item")
    (i.name ++ 32 ∷ (kind_text i.kind ++ 32 ∷ (pos_text i.pos ++ 32 ∷ i.what))) kind.Item refl refl
    ∙ item_written i is
row_written (row.Target t) is =
    by_kind (row_text (row.Target t)) (codes "target") (t.place ++ 32 ∷ pos_text t.pos) kind.Target refl refl
    ∙ target_written t is
row_written (row.Definition p) is =
    by_kind (row_text (row.Definition p)) (codes "definition") (pos_text p) kind.Definition refl refl
    ∙ ap (option_map row.Definition) (pos_written p is)
row_written (row.Function entry) is =
    by_kind (row_text (row.Function entry)) (codes "function") (decimal entry) kind.Function refl refl
    ∙ ap (option_map row.Function) (number_written entry is)
row_written (row.Position p) is =
    by_kind (row_text (row.Position p)) (codes "position") (pos_text p) kind.Position refl refl
    ∙ ap (option_map row.Position) (pos_written p is)
row_written (row.Constant c) is =
    by_kind (row_text (row.Constant c)) (codes "const") (c.ty ++ 32 ∷ c.value) kind.Constant refl refl
    ∙ constant_written c is
row_written (row.Instruction n i) is = by_number n i is.0 is.1
