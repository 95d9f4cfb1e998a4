-- What JSON is read as a value of each type.
use Rattle.std.specs.Prelude.{if◌then◌else◌}
use Rattle.std.specs.Prelude.{ℕ, nat_le, List, [], ◌∷◌, length, Option, Some, None, Ok, bytes_eq, suc, slice_get}
use Rattle.serde_json.specs.Data.{Data, null, boolean, number, string, array, object, Items, no_items, item, Members}
use Rattle.serde_json.specs.Data.{no_members, member}
use Rattle.cat_json.specs.declared.refusal.Reason.TheVariants.{WrongForm, OutOfRange, Missing}
use Rattle.cat_json.specs.Paths.{Reading, refused, at_step, made_of, ahead}
use Rattle.std.specs.Ordering.{nat_cmp, match_ordering}
use Rattle.std.specs.Cmp.Lexicographic.{slice_cmp}
use Rattle.serde_json.specs.Find.{as_bool, as_str, as_array, as_object}
use Rattle.cat_value.specs.declared.ty.Ty.{Ty}
use Rattle.cat_value.specs.declared.ty.Ty.TheOpen.{Ty-F}
use Rattle.cat_value.specs.declared.ty.Ty.TheViews.{out-Ty}
use Rattle.cat_value.specs.declared.value.Value.{Value}
use Rattle.cat_value.specs.declared.value.Value.TheVariants.{Boolean, Integer, Decimal, Money, Date, Duration}
use Rattle.cat_value.specs.declared.declaration.Field.{Field}
use Rattle.cat_value.specs.declared.declaration.Case.{Case}
use Rattle.cat_value.specs.declared.declaration.Enumeration.{Enumeration}
use Rattle.cat_value.specs.declared.decls.Decls.{Decls}
use Rattle.cat_value.specs.Typing.{most_elements}
use Rattle.cat_value.specs.Entries.{fields_of}
use Rattle.cat_json.specs.declared.step.Step.TheVariants.{Name, Element}
use Rattle.cat_value.specs.declared.value.Value.TheViews as value
use Rattle.cat_json.specs.WholeNumbers.{integer_of, whole_in}
use Rattle.cat_json.specs.Scalars.{text_day, truth_in, text_in, fraction_in, cents_in}
use Rattle.cat_json.specs.Keys.{with_no_others, field_names}
use Rattle.cat_json.specs.Spans.{span_in}

-- what a part is read as, for each type that may be due there
abbrev pub Reader : Type 0
Reader = Ty → Reading Value

-- each element in order, counted from k
abbrev pub elements_in : ℕ → List Reader → Ty → Reading (List Value)
elements_in k [] t = Ok []
elements_in k (reader ∷ readers) t = ahead (at_step (Element k) (reader t)) (elements_in (suc k) readers t)

-- an array, of no more elements than a list may have
abbrev pub list_in : Option Items → List Reader → Ty → Reading Value
list_in None readers t = refused WrongForm
list_in (Some items) readers t =
    if nat_le (length readers) most_elements then made_of value.List (elements_in 0 readers t) else refused OutOfRange

-- what a member is read as, where there is one
abbrev pub present : Option Reader → Reader
present None t = refused Missing
present (Some reader) t = reader t

-- the member of that name
abbrev pub member_in : (List ℕ → Option Reader) → List ℕ → Ty → Reading Value
member_in members name t = at_step (Name name) (present (members name) t)

-- each field in order
abbrev pub field_values : (List ℕ → Option Reader) → List Field → Reading (List Value)
field_values members [] = Ok []
field_values members (f ∷ fs) = ahead (member_in members f.name f.ty) (field_values members fs)

-- an object with each field
abbrev pub structure_in : Option (List Field) → Option Members → (List ℕ → Option Reader) → Reading Value
structure_in (Some fs) (Some ms) members =
    made_of value.Structure (with_no_others (field_names fs) ms (field_values members fs))
structure_in fs ms members = refused WrongForm

-- the number of the first case of that name, counted from k, and its content or that it has none
abbrev pub case_named : ℕ → List ℕ → List Case → Option (ℕ × Option Ty)
case_named k name [] = None
case_named k name (c ∷ cs) = if bytes_eq name c.name then Some (k, c.content) else case_named (suc k) name cs

-- a case without content
abbrev pub bare_case : Option (ℕ × Option Ty) → Reading Value
bare_case (Some (k, None)) = Ok (value.Case k None)
bare_case found = refused WrongForm

-- a case with its content
abbrev pub full_case : (List ℕ → Option Reader) → List ℕ → Option (ℕ × Option Ty) → Reading Value
full_case members name (Some (k, Some t)) = made_of (λ content. value.Case k (Some content)) (member_in members name t)
full_case members name found = refused WrongForm

-- the one key of an object
abbrev pub only_key : Option Members → Option (List ℕ)
only_key (Some (member key d no_members)) = Some key
only_key ms = None

-- the object whose one key is a case
abbrev pub only_case : (List ℕ → Option Reader) → List Case → Option (List ℕ) → Reading Value
only_case members cases None = refused WrongForm
only_case members cases (Some name) = full_case members name (case_named 0 name cases)

-- a case's name as text; with content, an object with the case as its one key
abbrev pub enumeration_in : Option Enumeration → Option (List ℕ) → Option Members → (List ℕ → Option Reader)
    → Reading Value
enumeration_in None text ms members = refused WrongForm
enumeration_in (Some e) (Some name) ms members = bare_case (case_named 0 name e.cases)
enumeration_in (Some e) None ms members = only_case members e.cases (only_key ms)

-- what JSON is read as, a line for each type: `elements` and `members` say what its parts are read as
abbrev pub read_level : Decls → Data → List Reader → (List ℕ → Option Reader) → Ty-F Ty → Reading Value
read_level ds d elements members Ty-F.Boolean = made_of Boolean (truth_in (as_bool d))
read_level ds d elements members Ty-F.Integer = made_of Integer (whole_in (integer_of d))
read_level ds d elements members Ty-F.Decimal = made_of Decimal (fraction_in (integer_of d) (as_str d))
read_level ds d elements members Ty-F.Money = made_of Money (cents_in (integer_of d) (as_str d))
read_level ds d elements members Ty-F.Date = made_of Date (text_in text_day (as_str d))
read_level ds d elements members Ty-F.Duration = made_of Duration (span_in d)
read_level ds d elements members (Ty-F.List t) = list_in (as_array d) elements t
read_level ds d elements members (Ty-F.Structure n) = structure_in (fields_of ds n) (as_object d) members
read_level ds d elements members (Ty-F.Enumeration n) =
    enumeration_in (slice_get ds.enumerations n) (as_str d) (as_object d) members

-- what has no members
abbrev pub none_named : List ℕ → Option Reader
none_named name = None

-- what JSON is read as
abbrev mutual
  pub read_as : Decls → Data → Ty → Reading Value
  read_as ds null t = read_level ds null [] none_named (out-Ty t)
  read_as ds (boolean b) t = read_level ds (boolean b) [] none_named (out-Ty t)
  read_as ds (number n) t = read_level ds (number n) [] none_named (out-Ty t)
  read_as ds (string s) t = read_level ds (string s) [] none_named (out-Ty t)
  read_as ds (array items) t = read_level ds (array items) (elements_of ds items) none_named (out-Ty t)
  read_as ds (object ms) t = read_level ds (object ms) [] (members_of ds ms) (out-Ty t)

  -- what each element is read as
  pub elements_of : Decls → Items → List Reader
  elements_of ds no_items = []
  elements_of ds (item d items) = read_as ds d ∷ elements_of ds items

  -- what the member of a name is read as, where there is one
  pub members_of : Decls → Members → List ℕ → Option Reader
  members_of ds no_members name = None
  members_of ds (member key d ms) name =
      match_ordering (slice_cmp nat_cmp name key) (members_of ds ms name) (Some (read_as ds d)) (members_of ds ms name)

-- what the elements are read as; there are none where it is no array
abbrev pub data_elements : Decls → Data → List Reader
data_elements ds (array items) = elements_of ds items
data_elements ds d = []

-- what the member of a name is read as; there is none where it is no object
abbrev pub data_members : Decls → Data → List ℕ → Option Reader
data_members ds (object ms) = members_of ds ms
data_members ds d = none_named
