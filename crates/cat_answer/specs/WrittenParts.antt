-- The rules of `Writes`, which are the definition, told of values in the place of writers, as functions use them.
use Rattle.std.specs.Prelude.{ℕ, List, [], ◌∷◌, Option, Some, None, slice_get}
use Rattle.serde_json.specs.Data.{Data, null, string, array, object, Items, no_items, item, Members, no_members, member}
use Rattle.serde_json.specs.Data.{put}
use Rattle.cat_value.specs.declared.ty.Ty.{Ty}
use Rattle.cat_value.specs.declared.ty.Ty.TheOpen.{Ty-F}
use Rattle.cat_value.specs.declared.value.Value.{Value}
use Rattle.cat_value.specs.declared.declaration.Field.{Field}
use Rattle.cat_value.specs.declared.declaration.Case.{Case}
use Rattle.cat_value.specs.declared.declaration.Enumeration.{Enumeration}
use Rattle.cat_value.specs.declared.decls.Decls.{Decls}
use Rattle.cat_value.specs.Entries.{fields_of}
use Rattle.cat_answer.specs.Writes.{data_of}

-- the elements of an array, each of one type
abbrev pub items_data : Decls → List Value → Ty → Items
items_data ds [] t = no_items
items_data ds (v ∷ vs) t = item (data_of ds v t) (items_data ds vs t)

-- a member for each field and its value, besides some others
abbrev pub members_data : Decls → List Field → List Value → Members → Members
members_data ds [] vs others = others
members_data ds (f ∷ fs) [] others = others
members_data ds (f ∷ fs) (v ∷ vs) others = members_data ds fs vs (put f.name (data_of ds v f.ty) others)

-- an array; no list is of another type
abbrev pub list_written : Decls → List Value → Ty-F Ty → Data
list_written ds vs (Ty-F.List t) = array (items_data ds vs t)
list_written ds vs t = null

-- an object with each field
abbrev pub fields_written : Decls → List Value → Option (List Field) → Data
fields_written ds vs None = null
fields_written ds vs (Some fs) = object (members_data ds fs vs no_members)

-- a structure; none is of another type
abbrev pub structure_written : Decls → List Value → Ty-F Ty → Data
structure_written ds vs (Ty-F.Structure n) = fields_written ds vs (fields_of ds n)
structure_written ds vs t = null

-- a case's name as text; with content, an object with the case as its one key
abbrev pub content_written : Decls → List ℕ → Option Ty → Option Value → Data
content_written ds name None None = string name
content_written ds name None (Some v) = null
content_written ds name (Some t) None = null
content_written ds name (Some t) (Some v) = object (member name (data_of ds v t) no_members)

-- a case, where there is one of that number
abbrev pub case_written : Decls → Option Value → Option Case → Data
case_written ds content None = null
case_written ds content (Some c) = content_written ds c.name c.content content

-- the case of that number, where there is such an enumeration
abbrev pub numbered_written : Decls → ℕ → Option Value → Option Enumeration → Data
numbered_written ds k content None = null
numbered_written ds k content (Some e) = case_written ds content (slice_get e.cases k)

-- a case of an enumeration; none is of another type
abbrev pub enumeration_written : Decls → ℕ → Option Value → Ty-F Ty → Data
enumeration_written ds k content (Ty-F.Enumeration n) = numbered_written ds k content (slice_get ds.enumerations n)
enumeration_written ds k content t = null
