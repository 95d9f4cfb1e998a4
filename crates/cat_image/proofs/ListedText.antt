-- A listing is the text of the rows of the words with which its code is listed.
use Rattle.std.proofs.Common.{◌≡◌, ℕ, ◌+◌, List, [], ◌∷◌, ◌++◌, map, Option, Some}
use Rattle.std.proofs.Common.{None, codes, decimal}
use Rattle.std.proofs.Common.{refl, sym, ap, ◌∙◌, append_assoc}
use Rattle.std.specs.List.{flat_map}
use Rattle.std.proofs.lemmas.List.{map-append}
use Rattle.cat_pos.specs.declared.pos.Pos.{Pos}
use Rattle.cat_value.specs.declared.ty.Ty.{Ty}
use Rattle.cat_value.specs.declared.declaration.Field.{Field}
use Rattle.cat_value.specs.declared.declaration.Structure.{Structure}
use Rattle.cat_value.specs.declared.declaration.Case.{Case}
use Rattle.cat_value.specs.declared.declaration.Enumeration.{Enumeration}
use Rattle.cat_value.specs.declared.declaration.Kind.{Kind}
use Rattle.cat_value.specs.declared.declaration.Kind.TheVariants as kind
use Rattle.cat_value.specs.declared.declaration.ItemDecl.{ItemDecl}
use Rattle.cat_value.specs.declared.declaration.Scope.{Scope}
use Rattle.cat_value.specs.declared.decls.Decls.{Decls}
use Rattle.cat_code.specs.declared.instr.Instr.{Instr}
use Rattle.cat_code.specs.declared.instr.Instr.TheVariants as instr
use Rattle.cat_code.specs.declared.code.TargetEntry.{TargetEntry}
use Rattle.cat_code.specs.declared.code.Constant.{Constant}
use Rattle.cat_answer.specs.Answer.{target_text}
use Rattle.cat_answer.specs.Writes.{value_bytes}
use Rattle.cat_listing.specs.Texts.{lines_of, place_text, type_text}
use Rattle.cat_listing.specs.DeclarationLines.{field_line, named_line, structure_lines, content_text, case_line}
use Rattle.cat_listing.specs.DeclarationLines.{enumeration_lines}
use Rattle.cat_listing.specs.DeclarationLines.{kind_text, what_text, item_line, scope_lines, scopes_lines}
use Rattle.cat_listing.specs.Listing.{file_line, function_line, target_line, place_line, constant_line}
use Rattle.cat_listing.specs.InstructionLines.{instr_line}
use Rattle.cat_listing.specs.InstructionLines as listed
use Rattle.cat_image.specs.declared.row.Row.{Row}
use Rattle.cat_image.specs.declared.row.Row.TheVariants as row
use Rattle.cat_image.specs.Words.{Text}
use Rattle.cat_image.specs.Words as words
use Rattle.cat_image.specs.InstructionWords.{instr_words, numbers_text, instr_text}
use Rattle.cat_image.specs.Rows.{row_text, structure_rows, enumeration_rows, scope_rows}
use Rattle.cat_image.specs.Rows.{instruction_rows}
use Rattle.cat_image.specs.Rows as rows
use Rattle.cat_image.specs.Listed.{pos_words, field_words, structure_words, content_words, case_words}
use Rattle.cat_image.specs.Listed.{enumeration_words}
use Rattle.cat_image.specs.Listed.{kind_words, item_words, scopes_words, target_words, constant_words}
use Rattle.cat_image.proofs.ImageLemmas.{text_of}

-- ---- the text of rows

-- rows, each with its line feed
abbrev pub rows_text : List Row → Text
rows_text xs = text_of (map row_text xs)

text_append : (xs ys : List Text) → text_of (xs ++ ys) ≡ text_of xs ++ text_of ys
text_append [] ys = refl
text_append (x ∷ xs) ys =
    ap (λ (t : Text). x ++ 10 ∷ t) (text_append xs ys) ∙ sym (append_assoc x (10 ∷ text_of xs) (text_of ys))

pub rows_append : (xs ys : List Row) → rows_text (xs ++ ys) ≡ rows_text xs ++ rows_text ys
rows_append xs ys = ap text_of (map-append row_text xs ys) ∙ text_append (map row_text xs) (map row_text ys)

-- a line is a row with its line feed
abbrev IsLineOf : Text → Row → Type 0
IsLineOf line r = line ≡ row_text r ++ 10 ∷ []

pub one_line : (line : Text) (r : Row) (xs : List Row) → IsLineOf line r → line ++ rows_text xs ≡ rows_text (r ∷ xs)
one_line line r xs is =
    ap (λ (t : Text). t ++ rows_text xs) is ∙ append_assoc (row_text r) (10 ∷ []) (rows_text xs)

-- lines of elements, each of one row
pub simple_lines : {A B : Type 0} (line : A → Text) (rows : B → Row) (words : A → B)
    → ((x : A) → IsLineOf (line x) (rows (words x)))
    → (xs : List A) → lines_of line xs ≡ rows_text (map rows (map words xs))
simple_lines line rows words each [] = refl
simple_lines line rows words each (x ∷ xs) =
    ap (λ (t : Text). line x ++ t) (simple_lines line rows words each xs)
    ∙ one_line (line x) (rows (words x)) (map rows (map words xs)) (each x)

-- lines of elements, each of rows of its own
pub parted_lines : {A B : Type 0} (lines : A → Text) (rows : B → List Row) (words : A → B)
    → ((x : A) → lines x ≡ rows_text (rows (words x))) → (xs : List A)
    → lines_of lines xs ≡ rows_text (flat_map rows (map words xs))
parted_lines lines rows words each [] = refl
parted_lines lines rows words each (x ∷ xs) =
    ap (λ (t : Text). lines x ++ t) (parted_lines lines rows words each xs)
    ∙ ap (λ (t : Text). t ++ rows_text (flat_map rows (map words xs))) (each x)
    ∙ sym (rows_append (rows (words x)) (flat_map rows (map words xs)))

-- ---- declarations

pub file_same : (name : Text) → IsLineOf (file_line name) (row.File name)
unfolding file_line
file_same name = sym (append_assoc (codes "file ") name (10 ∷ []))

three : (a b c : Text) → a ++ (b ++ (c ++ 10 ∷ [])) ≡ (a ++ (b ++ c)) ++ 10 ∷ []
three a b c = ap (λ (t : Text). a ++ t) (sym (append_assoc b c (10 ∷ []))) ∙ sym (append_assoc a (b ++ c) (10 ∷ []))

field_same : (ds : Decls) (f : Field) → IsLineOf (field_line ds f) (row.Field (field_words ds f))
unfolding field_line
field_same ds f = three (codes "field ") f.name (32 ∷ type_text ds f.ty)

named_same : (word name : Text) → named_line word name ≡ (word ++ name) ++ 10 ∷ []
unfolding named_line
named_same word name = sym (append_assoc word name (10 ∷ []))

pub structure_same : (ds : Decls) (s : Structure)
    → structure_lines ds s ≡ rows_text (structure_rows (structure_words ds s))
unfolding structure_lines
structure_same ds s =
    ap (λ (t : Text). named_line (codes "structure ") s.name ++ t)
    (simple_lines (field_line ds) row.Field (field_words ds) (field_same ds) s.fields)
    ∙ one_line (named_line (codes "structure ") s.name) (row.Structure s.name)
    (map row.Field (map (field_words ds) s.fields))
    (named_same (codes "structure ") s.name)

content_same : (ds : Decls) (o : Option Ty) → content_text ds o ≡ rows.content_text (content_words ds o)
content_same ds None = refl
content_same ds (Some t) = refl

case_same : (ds : Decls) (c : Case) → IsLineOf (case_line ds c) (row.Case (case_words ds c))
unfolding case_line
case_same ds c =
    ap (λ (t : Text). codes "case " ++ (c.name ++ (t ++ codes "\n"))) (content_same ds c.content)
    ∙ three (codes "case ") c.name (rows.content_text (content_words ds c.content))

pub enumeration_same : (ds : Decls) (e : Enumeration)
    → enumeration_lines ds e ≡ rows_text (enumeration_rows (enumeration_words ds e))
unfolding enumeration_lines
enumeration_same ds e =
    ap (λ (t : Text). named_line (codes "enumeration ") e.name ++ t)
    (simple_lines (case_line ds) row.Case (case_words ds) (case_same ds) e.cases)
    ∙ one_line (named_line (codes "enumeration ") e.name) (row.Enumeration e.name)
    (map row.Case (map (case_words ds) e.cases))
    (named_same (codes "enumeration ") e.name)

kind_same : (k : Kind) → kind_text k ≡ words.kind_text (kind_words k)
kind_same (kind.Called scope) = refl
kind_same kind.Input = refl
kind_same kind.Output = refl
kind_same kind.Internal = refl
kind_same kind.Context = refl
kind_same kind.InputOutput = refl
kind_same kind.ContextOutput = refl

five : (a b c d e : Text) → a ++ (b ++ (c ++ (d ++ (e ++ 10 ∷ [])))) ≡ (a ++ (b ++ (c ++ (d ++ e)))) ++ 10 ∷ []
five a b c d e =
    ap (λ (t : Text). a ++ (b ++ t)) (three c d e) ∙ three a b (c ++ (d ++ e))

item_same : (ds : Decls) (item : ItemDecl) → IsLineOf (item_line ds item) (row.Item (item_words ds item))
unfolding item_line
item_same ds item =
    ap (λ (t : Text). codes "item " ++ (item.name ++ (codes " " ++ (t ++ (codes " " ++ (place_text item.pos
    ++ (codes " " ++ (what_text ds item item.kind ++ codes "\n")))))))) (kind_same item.kind)
    ∙ five (codes "item ") item.name (32 ∷ words.kind_text (kind_words item.kind)) (32 ∷ place_text item.pos)
    (32 ∷ what_text ds item item.kind)

scope_same : (ds : Decls) (s : Scope) (entry : ℕ) → scope_lines ds s entry
    ≡ rows_text (scope_rows (record { name = s.name; entry = entry; items = map (item_words ds) s.items }))
unfolding scope_lines
scope_same ds s entry =
    let items = lines_of (item_line ds) s.items in
    let line : codes "scope " ++ (s.name ++ (codes " " ++ (decimal entry ++ (codes "\n" ++ items))))
    ≡ (row_text (row.Scope s.name entry) ++ 10 ∷ []) ++ items =
    ap (λ (t : Text). codes "scope " ++ (s.name ++ (32 ∷ t))) (sym (append_assoc (decimal entry) (10 ∷ []) items))
    ∙ ap (λ (t : Text). codes "scope " ++ t) (sym (append_assoc s.name (32 ∷ (decimal entry ++ 10 ∷ [])) items))
    ∙ sym (append_assoc (codes "scope ") (s.name ++ (32 ∷ (decimal entry ++ 10 ∷ []))) items)
    ∙ ap (λ (t : Text). t ++ items) (three (codes "scope ") s.name (32 ∷ decimal entry)) in
    line
    ∙ ap (λ (t : Text). (row_text (row.Scope s.name entry) ++ 10 ∷ []) ++ t)
    (simple_lines (item_line ds) row.Item (item_words ds) (item_same ds) s.items)
    ∙ one_line (row_text (row.Scope s.name entry) ++ 10 ∷ []) (row.Scope s.name entry)
    (map row.Item (map (item_words ds) s.items)) refl

pub scopes_same : (ds : Decls) (ss : List Scope) (entries : List ℕ)
    → scopes_lines ds ss entries ≡ rows_text (flat_map scope_rows (scopes_words ds ss entries))
scopes_same ds [] entries = refl
scopes_same ds (s ∷ ss) [] = refl
scopes_same ds (s ∷ ss) (entry ∷ entries) =
    ap (λ (t : Text). t ++ scopes_lines ds ss entries) (scope_same ds s entry)
    ∙ ap (λ (t : Text). rows_text
    (scope_rows (record { name = s.name; entry = entry; items = map (item_words ds) s.items })) ++ t)
    (scopes_same ds ss entries)
    ∙ sym (rows_append (scope_rows (record { name = s.name; entry = entry; items = map (item_words ds) s.items }))
    (flat_map scope_rows (scopes_words ds ss entries)))

-- ---- the tables behind them

pub target_same : (ds : Decls) (entry : TargetEntry)
    → IsLineOf (target_line ds entry) (row.Target (target_words ds entry))
unfolding target_line
target_same ds entry = three (codes "target ") (target_text ds entry.target) (32 ∷ place_text entry.pos)

pub definition_same : (p : Pos) → IsLineOf (place_line (codes "definition ") p) (row.Definition (pos_words p))
unfolding place_line
definition_same p = sym (append_assoc (codes "definition ") (place_text p) (10 ∷ []))

pub position_same : (p : Pos) → IsLineOf (place_line (codes "position ") p) (row.Position (pos_words p))
unfolding place_line
position_same p = sym (append_assoc (codes "position ") (place_text p) (10 ∷ []))

pub function_same : (entry : ℕ) → IsLineOf (function_line entry) (row.Function entry)
unfolding function_line
function_same entry = sym (append_assoc (codes "function ") (decimal entry) (10 ∷ []))

pub constant_same : (ds : Decls) (c : Constant) → IsLineOf (constant_line ds c) (row.Constant (constant_words ds c))
unfolding constant_line
constant_same ds c = three (codes "const ") (type_text ds c.ty) (32 ∷ value_bytes ds c.ty c.value)

-- ---- instructions

numbers_same : (ns : List ℕ) → listed.numbers_text ns ≡ numbers_text ns ++ 10 ∷ []
numbers_same [] = refl
numbers_same (n ∷ ns) =
    ap (λ (t : Text). 32 ∷ (decimal n ++ t)) (numbers_same ns)
    ∙ ap (λ (t : Text). 32 ∷ t) (sym (append_assoc (decimal n) (numbers_text ns) (10 ∷ [])))

instr_is : (i : Instr) → listed.instr_text i ≡ (instr_words i).0 ++ listed.numbers_text (instr_words i).1
instr_is (instr.Const a) = refl
instr_is (instr.Slot a) = refl
instr_is (instr.Local a) = refl
instr_is (instr.Store a) = refl
instr_is instr.Bind = refl
instr_is (instr.Drop a) = refl
instr_is (instr.Given a b) = refl
instr_is (instr.Jump a) = refl
instr_is (instr.JumpFalse a) = refl
instr_is (instr.Op a b c) = refl
instr_is (instr.Pack a) = refl
instr_is (instr.List a) = refl
instr_is (instr.Field a) = refl
instr_is (instr.Tag a) = refl
instr_is (instr.TagNone a) = refl
instr_is (instr.IsCase a) = refl
instr_is instr.Content = refl
instr_is instr.Length = refl
instr_is instr.Iter = refl
instr_is (instr.IterList a) = refl
instr_is (instr.Next a) = refl
instr_is instr.Collect = refl
instr_is instr.Leave = refl
instr_is (instr.Call a b) = refl
instr_is (instr.Scope a) = refl
instr_is (instr.Pass a) = refl
instr_is instr.Enter = refl
instr_is instr.Return = refl
instr_is (instr.Begin a) = refl
instr_is (instr.Hold a) = refl
instr_is instr.Merge = refl
instr_is (instr.Check a) = refl
instr_is (instr.Held a) = refl
instr_is (instr.Take a) = refl
instr_is (instr.NoValue a) = refl
instr_is (instr.Assert a) = refl

instr_same : (i : Instr) → listed.instr_text i ≡ instr_text i ++ 10 ∷ []
instr_same i =
    instr_is i ∙ ap (λ (t : Text). (instr_words i).0 ++ t) (numbers_same (instr_words i).1)
    ∙ sym (append_assoc (instr_words i).0 (numbers_text (instr_words i).1) (10 ∷ []))

instr_line_same : (n : ℕ) (i : Instr) → IsLineOf (instr_line n i) (row.Instruction n i)
unfolding instr_line
instr_line_same n i =
    ap (λ (t : Text). decimal n ++ (32 ∷ t)) (instr_same i)
    ∙ sym (append_assoc (decimal n) (32 ∷ instr_text i) (10 ∷ []))

pub instructions_same : (n : ℕ) (is : List Instr) → listed.instructions_lines n is ≡ rows_text (instruction_rows n is)
instructions_same n [] = refl
instructions_same n (i ∷ is) =
    ap (λ (t : Text). instr_line n i ++ t) (instructions_same (n + 1) is)
    ∙ one_line (instr_line n i) (row.Instruction n i) (instruction_rows (n + 1) is) (instr_line_same n i)
