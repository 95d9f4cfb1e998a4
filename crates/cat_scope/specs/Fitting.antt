-- What arms, fields and scope calls must be for their types.
use Rattle.std.specs.Prelude.{◌≡◌, ℕ, ◌&&◌, nat_eq, nat_le, Bool, true, false, not, IsTrue, List, [], ◌∷◌, ◌++◌, length}
use Rattle.std.specs.Prelude.{Option, Some, None, slice_get, if◌then◌else◌}
use Rattle.cat_value.specs.declared.ty.Ty.{Ty}
use Rattle.cat_value.specs.declared.decls.Decls.{Decls}
use Rattle.cat_value.specs.declared.declaration.Field.{Field}
use Rattle.cat_value.specs.declared.declaration.Enumeration.{Enumeration}
use Rattle.cat_value.specs.declared.declaration.ItemDecl.{ItemDecl}
use Rattle.cat_value.specs.Inputs.{may_be_given}
use Rattle.cat_value.specs.Declarations.{highest}
use Rattle.cat_value.specs.Laws.{height_of}
use Rattle.cat_value.specs.Entries.{some_passes, fields_of, content_of}
use Rattle.cat_scope.specs.declared.expr.ArmPattern.{ArmPattern}
use Rattle.cat_scope.specs.declared.expr.ArmPattern.TheVariants as pattern
use Rattle.cat_scope.specs.declared.expr.FieldValue.{FieldValue}
use Rattle.cat_scope.specs.declared.expr.Arm.{Arm}
use Rattle.cat_scope.specs.Names.{all_differ, are_all_in, inputs_given, scope_items}

-- the numbers of some fields, as they are written
abbrev pub numbers_in : List FieldValue → List ℕ
numbers_in [] = []
numbers_in (f ∷ fs) = f.field ∷ numbers_in fs

-- an arm for each case that no arm before it is for
abbrev pub is_anything : ArmPattern → Bool
is_anything pattern.Anything = true
is_anything (pattern.Case k bound) = false

-- one more case in front, where the arm is for one
abbrev pub with_case : ArmPattern → List ℕ → List ℕ
with_case pattern.Anything cases = cases
with_case (pattern.Case k bound) cases = k ∷ cases

-- the cases that arms are for
abbrev pub cases_of : List Arm → List ℕ
cases_of [] = []
cases_of (a ∷ arms) = with_case a.pattern (cases_of arms)

-- `anything` stands in no arm but the last
abbrev pub anything_is_last : List Arm → Bool
anything_is_last [] = true
anything_is_last (a ∷ []) = true
anything_is_last (a ∷ b ∷ arms) = not (is_anything a.pattern) && anything_is_last (b ∷ arms)

-- the last arm is `anything`
abbrev pub ends_in_anything : List Arm → Bool
ends_in_anything [] = false
ends_in_anything (a ∷ []) = is_anything a.pattern
ends_in_anything (a ∷ b ∷ arms) = ends_in_anything (b ∷ arms)

-- how many cases an enumeration has
abbrev pub cases_in : Option Enumeration → ℕ
cases_in None = 0
cases_in (Some enumeration) = length enumeration.cases

-- no case is missing or twice, and `anything` is last
abbrev pub are_complete : Decls → ℕ → List Arm → Bool
are_complete ds n arms = anything_is_last arms && all_differ (cases_of arms)
    && (if ends_in_anything arms then true else are_all_in (cases_in (slice_get ds.enumerations n)) (cases_of arms))

-- the enumeration of that number has a case k
abbrev pub has_case : Decls → ℕ → ℕ → Bool
has_case ds n k = some_passes (λ content. true) (content_of ds n k)

-- the local names of an arm's body: an arm that binds a content is for a case that has one
abbrev pub ArmLocals : Decls → ℕ → ArmPattern → List Ty → List Ty → Type 0
ArmLocals ds n pattern.Anything locals inside = inside ≡ locals
ArmLocals ds n (pattern.Case k false) locals inside = IsTrue (has_case ds n k) × (inside ≡ locals)
ArmLocals ds n (pattern.Case k true) locals inside =
    (t : Ty) × (content_of ds n k ≡ Some (Some t)) × (inside ≡ locals ++ t ∷ [])

-- field k, where there is one
abbrev pub field_at : Option (List Field) → ℕ → Option Field
field_at None k = None
field_at (Some fields) k = slice_get fields k

-- the type of a field
abbrev pub type_in : Option Field → Option Ty
type_in None = None
type_in (Some f) = Some f.ty

-- the type of field k of a structure
abbrev pub field_type : Decls → ℕ → ℕ → Option Ty
field_type ds n k = type_in (field_at (fields_of ds n) k)

-- each field of a structure is there once
abbrev pub are_fields_of : Decls → ℕ → List ℕ → Bool
are_fields_of ds n ks =
    some_passes (λ fields. nat_eq (length ks) (length fields) && are_all_in (length fields) ks) (fields_of ds n)

-- a type that is no higher than types may be
abbrev pub is_low_type : Decls → Ty → Bool
is_low_type ds t = nat_le (height_of ds t) highest

-- a scope call gives each input that is no condition, and nothing twice
abbrev pub are_call_fields : Decls → ℕ → List ℕ → Bool
are_call_fields ds scope fields = all_differ fields && inputs_given 0 (scope_items ds scope) fields

-- the type of an item that may be given
abbrev pub given_type : Option ItemDecl → Option Ty
given_type None = None
given_type (Some item) = if may_be_given item.kind then Some item.ty else None

-- the type of item k of a scope, where it may be given
abbrev pub input_type : Decls → ℕ → ℕ → Option Ty
input_type ds scope k = given_type (slice_get (scope_items ds scope) k)
