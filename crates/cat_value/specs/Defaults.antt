-- The default of each type.
use Rattle.std.specs.Prelude.{ℕ, zero, suc, pos, false, List, [], ◌∷◌, Option, None, Some}
use Rattle.cat_date.specs.Calendar.{first_day}
use Rattle.cat_value.specs.declared.ty.Ty.{Ty}
use Rattle.cat_value.specs.declared.ty.Ty.TheOpen.{Ty-F}
use Rattle.cat_value.specs.declared.ty.Ty.TheViews.{out-Ty}
use Rattle.cat_value.specs.declared.value.Value.{Value}
use Rattle.cat_value.specs.declared.value.Value.TheVariants.{Boolean, Integer, Decimal, Money, Date, Duration}
use Rattle.cat_value.specs.declared.value.Value.TheViews as value
use Rattle.cat_value.specs.declared.declaration.Field.{Field}
use Rattle.cat_value.specs.declared.decls.Decls.{Decls}
use Rattle.cat_value.specs.Declarations.{highest}
use Rattle.cat_value.specs.Entries.{fields_of, content_of}

-- each field's default, in their order
abbrev pub default_fields : (Ty → Value) → List Field → List Value
default_fields default [] = []
default_fields default (f ∷ fs) = default f.ty ∷ default_fields default fs

-- the default of a structure with these fields
abbrev pub default_structure : (Ty → Value) → Option (List Field) → Value
default_structure default None = value.Structure []
default_structure default (Some fs) = value.Structure (default_fields default fs)

-- the first case, with the default of its content where it has one
abbrev pub default_case : (Ty → Value) → Option (Option Ty) → Value
default_case default None = value.Case 0 None
default_case default (Some None) = value.Case 0 None
default_case default (Some (Some t)) = value.Case 0 (Some (default t))

-- one level of a default, with the default of each part: false, 0, 0.00, 0001-01-01, the zero duration, the empty
-- list, each field's default, the first case with its content's default
abbrev pub default_at : Decls → (Ty → Value) → Ty-F Ty → Value
default_at ds default Ty-F.Boolean = Boolean false
default_at ds default Ty-F.Integer = Integer (pos 0)
default_at ds default Ty-F.Decimal = Decimal (record { num = pos 0; den = 1 })
default_at ds default Ty-F.Money = Money (pos 0)
default_at ds default Ty-F.Date = Date first_day
default_at ds default Ty-F.Duration = Duration (record { months = pos 0; days = pos 0 })
default_at ds default (Ty-F.List t) = value.List []
default_at ds default (Ty-F.Structure n) = default_structure default (fields_of ds n)
default_at ds default (Ty-F.Enumeration n) = default_case default (content_of ds n 0)

-- the default of a type that is at most k high
unfoldable pub default_to : Decls → ℕ → Ty → Value
default_to ds zero t = Boolean false
default_to ds (suc k) t = default_at ds (default_to ds k) (out-Ty t)

-- the default of a type: those of its parts go down the 64 levels that declared types have at most
abbrev pub default_of : Decls → Ty → Value
default_of ds t = default_to ds highest t
