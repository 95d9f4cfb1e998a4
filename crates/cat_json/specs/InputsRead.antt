-- Which bytes are read as inputs and values, and why others are refused.
use Rattle.std.specs.Prelude.{◌≡◌, ℕ, Bool, true, false, if◌then◌else◌, List, [], ◌∷◌, Option, Some, None, Result, Ok}
use Rattle.std.specs.Prelude.{Err, slice_get}
use Rattle.std.specs.Str.{is_utf8}
use Rattle.serde_json.specs.Data.{Data, Items, no_items, item, Members}
use Rattle.serde_json.specs.Read.{read}
use Rattle.serde_json.specs.Find.{as_array, as_object}
use Rattle.cat_value.specs.declared.ty.Ty.{Ty}
use Rattle.cat_value.specs.declared.value.Value.{Value}
use Rattle.cat_value.specs.declared.declaration.ItemDecl.{ItemDecl}
use Rattle.cat_value.specs.declared.declaration.Scope.{Scope}
use Rattle.cat_value.specs.declared.decls.Decls.{Decls}
use Rattle.cat_value.specs.Inputs.{must_be_given, may_be_given, IsWellTyped}
use Rattle.cat_json.specs.declared.refusal.Reason.{Reason}
use Rattle.cat_json.specs.declared.refusal.Reason.TheVariants as reason
use Rattle.cat_json.specs.declared.refusal.PartRefusal.{PartRefusal}
use Rattle.cat_json.specs.declared.refusal.InputRefusal.{InputRefusal}
use Rattle.cat_json.specs.declared.refusal.InputRefusal.TheVariants.{NotJson, Missing, Extra, WrongForm, OutOfRange}
use Rattle.cat_json.specs.Paths.{Reading, refused, made_of, ahead, path_text}
use Rattle.cat_json.specs.Reads.{Reader, member_in, read_as, data_members}
use Rattle.cat_json.specs.Keys.{with_no_others}

-- what an input gives
abbrev pub Input : Type 0
Input = List (Option Value)

-- a variable that must be given
abbrev pub given_in : (List ℕ → Option Reader) → ItemDecl → Reading (Option Value)
given_in members i = made_of Some (member_in members i.name i.ty)

-- what is read of a member, where there is one
abbrev pub where_there : Option Reader → Reading (Option Value) → Reading (Option Value)
where_there None reading = Ok None
where_there (Some reader) reading = reading

-- a variable that may be given
abbrev pub optional_in : (List ℕ → Option Reader) → ItemDecl → Reading (Option Value)
optional_in members i = where_there (members i.name) (given_in members i)

-- a variable that must be given or may be
abbrev pub variable_in : Bool → (List ℕ → Option Reader) → ItemDecl → Reading (Option Value)
variable_in true members i = given_in members i
variable_in false members i = optional_in members i

-- an input variable is given, a context variable is given or not, and no other item is
abbrev pub item_in : (List ℕ → Option Reader) → ItemDecl → Reading (Option Value)
item_in members i = if may_be_given i.kind then variable_in (must_be_given i.kind) members i else Ok None

-- each item in order
abbrev pub items_in : (List ℕ → Option Reader) → List ItemDecl → Reading Input
items_in members [] = Ok []
items_in members (i ∷ is) = ahead (item_in members i) (items_in members is)

-- the names of the variables that may be given
abbrev pub given_names : List ItemDecl → List (List ℕ)
given_names [] = []
given_names (i ∷ is) = if may_be_given i.kind then i.name ∷ given_names is else given_names is

-- the items' variables, where there is an object
abbrev pub variables_in : Decls → List ItemDecl → Data → Option Members → Reading Input
variables_in ds is d None = refused reason.WrongForm
variables_in ds is d (Some ms) = with_no_others (given_names is) ms (items_in (data_members ds d) is)

-- an object with the variables of a scope that has these items
abbrev pub input_in : Decls → List ItemDecl → Data → Reading Input
input_in ds is d = variables_in ds is d (as_object d)

-- the items of the scope of that number
abbrev pub items_of : Option Scope → List ItemDecl
items_of None = []
items_of (Some scope) = scope.items

-- a reason with the part's path
abbrev pub refusal_of : Reason → List ℕ → InputRefusal
refusal_of reason.Missing path = Missing path
refusal_of reason.Extra path = Extra path
refusal_of reason.WrongForm path = WrongForm path
refusal_of reason.OutOfRange path = OutOfRange path

-- a refusal, with its path as text
abbrev pub refusal_told : PartRefusal → InputRefusal
refusal_told refusal = refusal_of refusal.reason (path_text refusal.path)

-- what is read, or the refusal with its path as text
abbrev pub answered : {A : Type 0} → Reading A → Result A InputRefusal
answered (Ok a) = Ok a
answered (Err refusal) = Err (refusal_told refusal)

-- what bytes are read as, where they are JSON
abbrev pub read_from : {A : Type 0} → (Data → Result A InputRefusal) → Option Data → Result A InputRefusal
read_from reading None = Err NotJson
read_from reading (Some d) = reading d

-- the JSON that bytes are, where `serde_json` reads them
unfoldable pub json_of : List ℕ → Option Data
json_of bytes = if is_utf8 bytes then read bytes else None

-- the value of a type that bytes are
abbrev pub value_read : Decls → Ty → List ℕ → Result Value InputRefusal
value_read ds t bytes = read_from (λ d. answered (read_as ds d t)) (json_of bytes)

-- the input of a scope that bytes are
abbrev pub input_read : Decls → ℕ → List ℕ → Result Input InputRefusal
input_read ds scope bytes = read_from (λ d. answered (input_in ds (items_of (slice_get ds.scopes scope)) d))
    (json_of bytes)

-- an input, or why it is refused, for each element of an array
abbrev pub each_input : Decls → List ItemDecl → Items → List (Result Input InputRefusal)
each_input ds is no_items = []
each_input ds is (item d items) = answered (input_in ds is d) ∷ each_input ds is items

-- the inputs of an array
abbrev pub array_inputs : Decls → List ItemDecl → Option Items → Result (List (Result Input InputRefusal)) InputRefusal
array_inputs ds is None = Err (refusal_told (record { reason = reason.WrongForm; path = [] }))
array_inputs ds is (Some items) = Ok (each_input ds is items)

-- the inputs of a scope that bytes are
abbrev pub inputs_read : Decls → ℕ → List ℕ → Result (List (Result Input InputRefusal)) InputRefusal
inputs_read ds scope bytes = read_from (λ d. array_inputs ds (items_of (slice_get ds.scopes scope)) (as_array d))
    (json_of bytes)

-- each input that is read is well typed for the scope
unfoldable pub AreWellTyped : Decls → ℕ → List (Result Input InputRefusal) → Type 0
AreWellTyped ds scope all = (k : ℕ) (input : Input) → slice_get all k ≡ Some (Ok input) → IsWellTyped ds scope input
