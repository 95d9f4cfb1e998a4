-- The types that shapes speak of: a structure's type is the list of the types of its fields.
use Rattle.std.specs.Prelude.{ℕ, zero, suc, nat_eq, Bool, true, false, ◌&&◌, List, [], ◌∷◌, Option, Some, None}
use Rattle.std.specs.Prelude.{slice_get}
use Rattle.cat_value.specs.declared.ty.Ty.{Ty}
use Rattle.cat_value.specs.declared.ty.Ty.TheOpen.{Ty-F}
use Rattle.cat_value.specs.declared.ty.Ty.TheViews.{out-Ty}
use Rattle.cat_value.specs.declared.declaration.Field.{Field}
use Rattle.cat_value.specs.declared.declaration.Kind.{Kind}
use Rattle.cat_value.specs.declared.declaration.Kind.TheVariants as kind
use Rattle.cat_value.specs.declared.declaration.ItemDecl.{ItemDecl}
use Rattle.cat_value.specs.declared.decls.Decls.{Decls}
use Rattle.cat_value.specs.Declarations.{highest}
use Rattle.cat_value.specs.Entries.{fields_of}
use Rattle.cat_scope.specs.Names.{scope_items}
use Rattle.cat_value.specs.Inputs.{outputs_in}

mutual
  -- the type of a value
  pub data Form : Type 0 where
    Truth : Form
    Whole : Form
    Fraction : Form
    Amount : Form
    Day : Form
    Span : Form
    Many : Form → Form
    Fields : Forms → Form
    OneOf : ℕ → Form

  -- the types of some values
  pub data Forms : Type 0 where
    Last : Forms
    More : Form → Forms → Forms

-- types in a row
abbrev pub in_row : List Form → Forms
in_row [] = Last
in_row (t ∷ ts) = More t (in_row ts)

-- the type at an index
abbrev pub form_at : Forms → ℕ → Option Form
form_at Last n = None
form_at (More t ts) zero = Some t
form_at (More t ts) (suc n) = form_at ts n

abbrev mutual
  -- whether two types are the same
  pub same_form : Form → Form → Bool
  same_form Truth Truth = true
  same_form Whole Whole = true
  same_form Fraction Fraction = true
  same_form Amount Amount = true
  same_form Day Day = true
  same_form Span Span = true
  same_form (Many t) (Many u) = same_form t u
  same_form (Fields ts) (Fields us) = same_forms ts us
  same_form (OneOf n) (OneOf m) = nat_eq n m
  same_form _ _ = false

  -- whether types are the same one by one
  pub same_forms : Forms → Forms → Bool
  same_forms Last Last = true
  same_forms (More t ts) (More u us) = same_form t u && same_forms ts us
  same_forms _ _ = false

-- the types of fields, in their order
abbrev pub forms_in : (Ty → Form) → List Field → Forms
forms_in form [] = Last
forms_in form (f ∷ fs) = More (form f.ty) (forms_in form fs)

-- the types of the fields of a structure, where there is one
abbrev pub structure_form : (Ty → Form) → Option (List Field) → Form
structure_form form None = Fields Last
structure_form form (Some fields) = Fields (forms_in form fields)

-- one level of a declared type
abbrev pub level : Decls → (Ty → Form) → Ty-F Ty → Form
level ds form Ty-F.Boolean = Truth
level ds form Ty-F.Integer = Whole
level ds form Ty-F.Decimal = Fraction
level ds form Ty-F.Money = Amount
level ds form Ty-F.Date = Day
level ds form Ty-F.Duration = Span
level ds form (Ty-F.List t) = Many (form t)
level ds form (Ty-F.Structure n) = structure_form form (fields_of ds n)
level ds form (Ty-F.Enumeration n) = OneOf n

-- a declared type that is at most k high
unfoldable pub form_to : Decls → ℕ → Ty → Form
form_to ds zero t = Truth
form_to ds (suc k) t = level ds (form_to ds k) (out-Ty t)

-- a declared type, of which none is higher than 64
abbrev pub form_of : Decls → Ty → Form
form_of ds t = form_to ds highest t

-- the types of some items
abbrev pub items_forms : Decls → List ItemDecl → Forms
items_forms ds [] = Last
items_forms ds (item ∷ items) = More (form_of ds item.ty) (items_forms ds items)

-- what a scope gives: the structure of its outputs
abbrev pub outputs_form : Decls → ℕ → Form
outputs_form ds scope = Fields (items_forms ds (outputs_in (scope_items ds scope)))

-- what an item has as its value
abbrev pub value_form : Decls → Ty → Kind → Form
value_form ds t (kind.Called scope) = outputs_form ds scope
value_form ds t _ = form_of ds t

-- the type of a slot: that of its item
abbrev pub item_form : Decls → ItemDecl → Form
item_form ds item = value_form ds item.ty item.kind

-- what a slot of a scope holds
abbrev pub slot_form : Decls → ℕ → ℕ → Option Form
slot_form ds scope i = of (slice_get (scope_items ds scope) i)
  where
    of : Option ItemDecl → Option Form
    of None = None
    of (Some item) = Some (item_form ds item)
