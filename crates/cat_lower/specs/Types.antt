-- The types of expressions: where the form of one tells none, it is the type that is expected of it.
use Rattle.std.specs.Prelude.{ℕ, Bool, true, false, List, [], ◌∷◌, ◌++◌, Option, Some, None}
use Rattle.cat_value.specs.declared.ty.Ty.{Ty}
use Rattle.cat_value.specs.declared.ty.Ty.TheOpen.{Ty-F}
use Rattle.cat_value.specs.declared.ty.Ty.TheVariants as flat
use Rattle.cat_value.specs.declared.ty.Ty.TheViews as ty
use Rattle.cat_value.specs.declared.ty.Ty.TheViews.{out-Ty}
use Rattle.cat_value.specs.declared.decls.Decls.{Decls}
use Rattle.cat_value.specs.declared.declaration.ItemDecl.{ItemDecl}
use Rattle.cat_value.specs.Entries.{content_of}
use Rattle.cat_scope.specs.declared.expr.ArmPattern.{ArmPattern}
use Rattle.cat_scope.specs.declared.expr.ArmPattern.TheVariants as pattern
use Rattle.cat_scope.specs.Signatures.{Signature}
use Rattle.cat_scope.specs.Names.{output_at}
use Rattle.cat_scope.specs.Fitting.{field_type}
use Rattle.cat_code.specs.Places.{called_scope}
use Rattle.cat_lower.specs.Laying.{Coded}

-- a type that may be missing; where typing tells one, it is there
abbrev pub type_or : Option Ty → Ty
type_or None = flat.Boolean
type_or (Some t) = t

-- the type of an item
abbrev pub item_type : Option ItemDecl → Ty
item_type None = flat.Boolean
item_type (Some item) = item.ty

-- the type of the elements of a list
abbrev pub element_in : Ty-F Ty → Ty
element_in (Ty-F.List t) = t
element_in _ = flat.Boolean

-- the same of a type that is known to be a list's
abbrev pub element_type : Ty → Ty
element_type t = element_in (out-Ty t)

-- what is expected of elements, where something is of their list
abbrev pub element_expected : Option Ty → Option Ty
element_expected None = None
element_expected (Some t) = Some (element_type t)

-- the number of an enumeration
abbrev pub enumeration_in : Ty-F Ty → ℕ
enumeration_in (Ty-F.Enumeration n) = n
enumeration_in _ = 0

-- the type of field k of a structure
abbrev pub field_in : Decls → ℕ → Ty-F Ty → Ty
field_in ds k (Ty-F.Structure n) = type_or (field_type ds n k)
field_in ds k _ = flat.Boolean

-- output k of a scope that may be called
abbrev pub called_output : Decls → ℕ → Option ℕ → Option ItemDecl
called_output ds k None = None
called_output ds k (Some scope) = output_at ds scope k

-- the scope that an item calls, where it does
abbrev pub scope_called : Option ItemDecl → Option ℕ
scope_called None = None
scope_called (Some item) = called_scope item.kind

-- the type of the content of a case, where it has one
abbrev pub content_type : Option (Option Ty) → Option Ty
content_type None = None
content_type (Some content) = content

-- the local names of the body of an arm
abbrev pub arm_types : Decls → ℕ → ArmPattern → List Ty → List Ty
arm_types ds n pattern.Anything locals = locals
arm_types ds n (pattern.Case k false) locals = locals
arm_types ds n (pattern.Case k true) locals = locals ++ type_or (content_type (content_of ds n k)) ∷ []

-- whether an arm binds the content of its case
abbrev pub is_bound : ArmPattern → Bool
is_bound pattern.Anything = false
is_bound (pattern.Case k bound) = bound

-- by the types of its local names and the type that is expected of it, an expression has a type and code
pub record Lowering : Type 0 where
  pub type : List Ty → Option Ty → Ty
  pub code : List Ty → Option Ty → Coded

-- the type of a row of elements: a list of what the first one is
abbrev pub row_type : List Lowering → List Ty → Option Ty → Ty
row_type [] locals expected = type_or expected
row_type (e ∷ es) locals expected = ty.List (e.type locals (element_expected expected))

-- the type of arms: that of the first one
abbrev pub arms_type : Decls → ℕ → List (ArmPattern × Lowering) → List Ty → Option Ty → Ty
arms_type ds n [] locals expected = type_or expected
arms_type ds n (a ∷ arms) locals expected = a.1.type (arm_types ds n a.0 locals) expected

-- the type that the first of some signatures gives
abbrev pub result_of : List Signature → Ty
result_of [] = flat.Boolean
result_of (s ∷ ss) = s.result
