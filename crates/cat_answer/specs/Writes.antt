-- The JSON of a value of each type, and of an input.
use Rattle.std.specs.Prelude.{ℕ, ℤ, List, [], ◌∷◌, Option, Some, None, codes, slice_get}
use Rattle.serde_json.specs.Data.{Data, null, boolean, number, string, array, object, Items, no_items, item, Members}
use Rattle.serde_json.specs.Data.{no_members, member, put}
use Rattle.serde_json.specs.Find.{of_integer}
use Rattle.serde_json.specs.Written.{compact_text}
use Rattle.cat_num.specs.Text.{decimal_bytes, money_bytes}
use Rattle.cat_date.specs.Span.{SpanOf}
use Rattle.cat_date.specs.Text.{day_text}
use Rattle.cat_value.specs.declared.ty.Ty.{Ty}
use Rattle.cat_value.specs.declared.ty.Ty.TheOpen.{Ty-F}
use Rattle.cat_value.specs.declared.ty.Ty.TheViews.{out-Ty}
use Rattle.cat_value.specs.declared.value.Value.{Value}
use Rattle.cat_value.specs.declared.value.Value.TheOpen.{Value-F}
use Rattle.cat_value.specs.declared.value.Value.TheFolds.{fold-Value}
use Rattle.cat_value.specs.declared.declaration.Field.{Field}
use Rattle.cat_value.specs.declared.declaration.Case.{Case}
use Rattle.cat_value.specs.declared.declaration.Enumeration.{Enumeration}
use Rattle.cat_value.specs.declared.declaration.ItemDecl.{ItemDecl}
use Rattle.cat_value.specs.declared.decls.Decls.{Decls}
use Rattle.cat_value.specs.Entries.{fields_of}

-- the JSON of a part, for each type that it may be of
abbrev pub Writer : Type 0
Writer = Ty → Data

-- an integer
abbrev pub integer_data : ℤ → Data
integer_data n = number (of_integer n)

-- an object with the whole numbers `days` and `months`
abbrev pub span_data : SpanOf → Data
span_data span =
    object (put (codes "months") (integer_data span.months) (put (codes "days") (integer_data span.days) no_members))

-- the elements of an array, each of one type
abbrev pub elements_data : List Writer → Ty → Items
elements_data [] t = no_items
elements_data (part ∷ parts) t = item (part t) (elements_data parts t)

-- an array; no list is of another type
abbrev pub list_data : List Writer → Ty-F Ty → Data
list_data parts (Ty-F.List t) = array (elements_data parts t)
list_data parts t = null

-- a member for each field and its value, besides some others
abbrev pub fields_data : List Field → List Writer → Members → Members
fields_data [] parts others = others
fields_data (f ∷ fs) [] others = others
fields_data (f ∷ fs) (part ∷ parts) others = fields_data fs parts (put f.name (part f.ty) others)

-- an object with each field
abbrev pub fields_object : Option (List Field) → List Writer → Data
fields_object None parts = null
fields_object (Some fs) parts = object (fields_data fs parts no_members)

-- a structure; none is of another type
abbrev pub structure_data : Decls → List Writer → Ty-F Ty → Data
structure_data ds parts (Ty-F.Structure n) = fields_object (fields_of ds n) parts
structure_data ds parts t = null

-- a case's name as text; with content, an object with the case as its one key
abbrev pub content_data : List ℕ → Option Ty → Option Writer → Data
content_data name None None = string name
content_data name None (Some part) = null
content_data name (Some t) None = null
content_data name (Some t) (Some part) = object (member name (part t) no_members)

-- a case, where there is one of that number
abbrev pub named_case_data : Option Case → Option Writer → Data
named_case_data None part = null
named_case_data (Some c) part = content_data c.name c.content part

-- the case of that number, where there is such an enumeration
abbrev pub numbered_case_data : Option Enumeration → ℕ → Option Writer → Data
numbered_case_data None k part = null
numbered_case_data (Some e) k part = named_case_data (slice_get e.cases k) part

-- a case of an enumeration; none is of another type
abbrev pub case_data : Decls → ℕ → Option Writer → Ty-F Ty → Data
case_data ds k part (Ty-F.Enumeration n) = numbered_case_data (slice_get ds.enumerations n) k part
case_data ds k part t = null

-- the JSON of a value, a line for each kind of values
abbrev pub written_level : Decls → Value-F Writer → Ty-F Ty → Data
written_level ds (Value-F.Boolean b) t = boolean b
written_level ds (Value-F.Integer n) t = integer_data n
written_level ds (Value-F.Decimal f) t = string (decimal_bytes f)
written_level ds (Value-F.Money n) t = string (money_bytes n)
written_level ds (Value-F.Date day) t = string (day_text day)
written_level ds (Value-F.Duration span) t = span_data span
written_level ds (Value-F.List parts) t = list_data parts t
written_level ds (Value-F.Structure parts) t = structure_data ds parts t
written_level ds (Value-F.Case k part) t = case_data ds k part t

-- the JSON of a value of a type, where its parts tell theirs
abbrev pub value_written : Decls → Value-F Writer → Ty → Data
value_written ds v t = written_level ds v (out-Ty t)

-- the JSON of a value of a type
unfoldable pub data_of : Decls → Value → Ty → Data
data_of ds = fold-Value Writer (value_written ds)

-- the compact text of a value of a type, with the keys of objects in byte order
abbrev pub value_bytes : Decls → Ty → Value → List ℕ
value_bytes ds t v = compact_text (data_of ds v t)

-- a member for a variable that is given, besides some others
abbrev pub given_data : Decls → ItemDecl → Option Value → Members → Members
given_data ds i None others = others
given_data ds i (Some v) others = put i.name (data_of ds v i.ty) others

-- a member for each variable that is given, besides some others
abbrev pub inputs_data : Decls → List ItemDecl → List (Option Value) → Members → Members
inputs_data ds [] input others = others
inputs_data ds (i ∷ is) [] others = others
inputs_data ds (i ∷ is) (given ∷ input) others = inputs_data ds is input (given_data ds i given others)

-- an object with each variable that is given
abbrev pub input_data : Decls → List ItemDecl → List (Option Value) → Data
input_data ds is input = object (inputs_data ds is input no_members)

-- the compact text of an input, with its keys in byte order
abbrev pub input_bytes : Decls → List ItemDecl → List (Option Value) → List ℕ
input_bytes ds is input = compact_text (input_data ds is input)
