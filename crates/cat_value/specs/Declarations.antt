-- What holds of the declarations of a program.
use Rattle.std.specs.Prelude.{ℕ, zero, suc, Bool, true, false, not, ◌&&◌, nat_lt, nat_le, List, length, Option}
use Rattle.std.specs.Prelude.{None, Some}
use Rattle.std.specs.List.{list_all}
use Rattle.cat_pos.specs.declared.limits.TheConstants.{ENTRIES_BOUND}
use Rattle.cat_value.specs.declared.ty.Ty.{Ty}
use Rattle.cat_value.specs.declared.ty.Ty.TheOpen.{Ty-F}
use Rattle.cat_value.specs.declared.ty.Ty.TheFolds.{fold-Ty}
use Rattle.cat_value.specs.declared.ty.Ty.TheViews.{out-Ty}
use Rattle.cat_value.specs.declared.ty.Ty.TheVariants as ty
use Rattle.cat_value.specs.declared.declaration.Field.{Field}
use Rattle.cat_value.specs.declared.declaration.Structure.{Structure}
use Rattle.cat_value.specs.declared.declaration.Case.{Case}
use Rattle.cat_value.specs.declared.declaration.Enumeration.{Enumeration}
use Rattle.cat_value.specs.declared.declaration.Kind.{Kind}
use Rattle.cat_value.specs.declared.declaration.Kind.TheVariants.{Called}
use Rattle.cat_value.specs.declared.declaration.ItemDecl.{ItemDecl}
use Rattle.cat_value.specs.declared.declaration.Scope.{Scope}
use Rattle.cat_value.specs.Heights.{height_to}
use Rattle.cat_value.specs.Dependencies.{are_ordered}

-- the height that no declared type passes
abbrev pub highest : ℕ
highest = 64

-- the cases of an enumeration of an accepted program
abbrev pub most_cases : ℕ
most_cases = 128

-- whether a u32 numbers the entries of a list
abbrev pub is_counted : {A : Type 0} → List A → Bool
is_counted xs = nat_lt (length xs) ENTRIES_BOUND

-- whether a list has an entry, and a u32 numbers its entries
abbrev pub has_parts : {A : Type 0} → List A → Bool
has_parts xs = nat_lt 0 (length xs) && is_counted xs

-- one level of a type, where for a part it is known whether its number names an entry
abbrev pub names_entry : List Structure → List Enumeration → Ty-F Bool → Bool
names_entry ss es (Ty-F.List part) = part
names_entry ss es (Ty-F.Structure n) = nat_lt n (length ss)
names_entry ss es (Ty-F.Enumeration n) = nat_lt n (length es)
names_entry ss es _ = true

-- whether the number in a type, where it has one, names an entry
unfoldable pub is_declared : List Structure → List Enumeration → Ty → Bool
is_declared ss es = fold-Ty Bool (names_entry ss es)

-- whether a type may stand in a declaration
abbrev pub is_sound : List Structure → List Enumeration → Ty → Bool
is_sound ss es t = is_declared ss es t && nat_le (height_to ss es highest t) highest

-- a field's type is declared
abbrev pub field_is_sound : List Structure → List Enumeration → Field → Bool
field_is_sound ss es f = is_declared ss es f.ty

-- a case's content, where it has one, has a declared type
abbrev pub content_is_sound : List Structure → List Enumeration → Option Ty → Bool
content_is_sound ss es None = true
content_is_sound ss es (Some t) = is_declared ss es t

-- a case whose content is declared
abbrev pub case_is_sound : List Structure → List Enumeration → Case → Bool
case_is_sound ss es c = content_is_sound ss es c.content

-- a structure has fields, and each is declared
abbrev pub structure_is_sound : List Structure → List Enumeration → Structure → Bool
structure_is_sound ss es s = has_parts s.fields && list_all (field_is_sound ss es) s.fields

-- an enumeration has cases, and each is declared
abbrev pub enumeration_is_sound : List Structure → List Enumeration → Enumeration → Bool
enumeration_is_sound ss es e = has_parts e.cases && list_all (case_is_sound ss es) e.cases

-- the type Boolean
abbrev pub is_boolean : Ty-F Ty → Bool
is_boolean Ty-F.Boolean = true
is_boolean _ = false

-- a called scope is one of so many, and its item has the type Boolean and is no condition
abbrev pub kind_is_sound : ℕ → Ty → Bool → Kind → Bool
kind_is_sound count t condition (Called n) = nat_lt n count && is_boolean (out-Ty t) && not condition
kind_is_sound count t condition _ = true

-- an item whose kind, type and parameters are declared and not too high
abbrev pub item_is_sound : List Structure → List Enumeration → ℕ → ItemDecl → Bool
item_is_sound ss es count item = kind_is_sound count item.ty item.condition item.kind && is_sound ss es item.ty
    && is_counted item.params && list_all (is_sound ss es) item.params

-- a scope each of whose items is so
abbrev pub scope_is_sound : List Structure → List Enumeration → ℕ → Scope → Bool
scope_is_sound ss es count s = is_counted s.items && list_all (item_is_sound ss es count) s.items

-- whether a test passes each number below a bound
abbrev pub all_below : (ℕ → Bool) → ℕ → Bool
all_below test zero = true
all_below test (suc n) = test n && all_below test n

-- the structure of that number is at most 64 high
abbrev pub structure_is_low : List Structure → List Enumeration → ℕ → Bool
structure_is_low ss es n = nat_le (height_to ss es highest (ty.Structure n)) highest

-- the enumeration of that number is at most 64 high
abbrev pub enumeration_is_low : List Structure → List Enumeration → ℕ → Bool
enumeration_is_low ss es n = nat_le (height_to ss es highest (ty.Enumeration n)) highest

-- no structure and no enumeration is higher than 64
abbrev pub types_are_low : List Structure → List Enumeration → Bool
types_are_low ss es = all_below (structure_is_low ss es) (length ss) && all_below (enumeration_is_low ss es) (length es)

-- each number names an entry, each structure and enumeration has a part, none is a part of itself, no type is higher
-- than 64, and the entries of each list are numbered by a u32
unfoldable pub are_sound : List Structure → List Enumeration → List Scope → Bool
are_sound ss es scopes = is_counted ss && is_counted es && is_counted scopes
    && list_all (structure_is_sound ss es) ss && list_all (enumeration_is_sound ss es) es
    && list_all (scope_is_sound ss es (length scopes)) scopes
    && are_ordered ss es && types_are_low ss es
