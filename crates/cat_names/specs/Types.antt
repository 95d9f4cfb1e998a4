-- Types compared, taken apart and expected.
use Rattle.std.specs.Prelude.{ℕ, Bool, true, false, nat_eq, Option, Some, None}
use Rattle.cat_value.specs.declared.ty.Ty.{Ty}
use Rattle.cat_value.specs.declared.ty.Ty.TheOpen.{Ty-F}
use Rattle.cat_value.specs.declared.ty.Ty.TheFolds.{fold-Ty}
use Rattle.cat_value.specs.declared.ty.Ty.TheViews.{out-Ty}
use Rattle.cat_value.specs.declared.ty.Ty.TheVariants as ty
use Rattle.cat_names.specs.declared.typed.Flat.{Flat}
use Rattle.cat_names.specs.declared.typed.Flat.TheVariants as flat

-- one level of a type, where each part tells whether it is the same, against one level of another
abbrev pub same_level : Ty-F (Ty → Bool) → Ty-F Ty → Bool
same_level Ty-F.Boolean Ty-F.Boolean = true
same_level Ty-F.Integer Ty-F.Integer = true
same_level Ty-F.Decimal Ty-F.Decimal = true
same_level Ty-F.Money Ty-F.Money = true
same_level Ty-F.Date Ty-F.Date = true
same_level Ty-F.Duration Ty-F.Duration = true
same_level (Ty-F.List part) (Ty-F.List t) = part t
same_level (Ty-F.Structure n) (Ty-F.Structure m) = nat_eq n m
same_level (Ty-F.Enumeration n) (Ty-F.Enumeration m) = nat_eq n m
same_level _ _ = false

-- whether two types are one
unfoldable pub same : Ty → Ty → Bool
same = fold-Ty (Ty → Bool) (λ level t. same_level level (out-Ty t))

-- whether a type is the expected one, where one is expected
abbrev pub is_as_expected : Option Ty → Ty → Bool
is_as_expected None t = true
is_as_expected (Some u) t = same u t

-- the type of the elements, at one level
abbrev pub element_in : Ty-F Ty → Option Ty
element_in (Ty-F.List t) = Some t
element_in _ = None

-- the type of a list's elements
unfoldable pub element_of : Ty → Option Ty
element_of t = element_in (out-Ty t)

-- the type that is expected of the elements of a list, where one is expected of the list
abbrev pub expected_element : Option Ty → Option Ty
expected_element None = None
expected_element (Some t) = element_of t

-- the number of a structure, at one level
abbrev pub structure_in : Ty-F Ty → Option ℕ
structure_in (Ty-F.Structure n) = Some n
structure_in _ = None

-- the number of a structure
unfoldable pub structure_of : Ty → Option ℕ
structure_of t = structure_in (out-Ty t)

-- the number of an enumeration, at one level
abbrev pub enumeration_in : Ty-F Ty → Option ℕ
enumeration_in (Ty-F.Enumeration n) = Some n
enumeration_in _ = None

-- the number of an enumeration
unfoldable pub enumeration_of : Ty → Option ℕ
enumeration_of t = enumeration_in (out-Ty t)

-- a type that operators take, at one level
abbrev pub flat_in : Ty-F Ty → Option Flat
flat_in Ty-F.Boolean = Some flat.Boolean
flat_in Ty-F.Integer = Some flat.Integer
flat_in Ty-F.Decimal = Some flat.Decimal
flat_in Ty-F.Money = Some flat.Money
flat_in Ty-F.Date = Some flat.Date
flat_in Ty-F.Duration = Some flat.Duration
flat_in _ = None

-- a type that operators take
unfoldable pub flat_of : Ty → Option Flat
flat_of t = flat_in (out-Ty t)

-- the same as a type
abbrev pub whole : Flat → Ty
whole flat.Boolean = ty.Boolean
whole flat.Integer = ty.Integer
whole flat.Decimal = ty.Decimal
whole flat.Money = ty.Money
whole flat.Date = ty.Date
whole flat.Duration = ty.Duration
