-- What cuts see of values, and the point of a term.
use Rattle.std.specs.Prelude.{Option, Some, None, Ok, Err, slice_get}
use Rattle.std.specs.Prelude.{if◌then◌else◌}
use Rattle.cat_value.specs.declared.decls.Decls.{Decls}
use Rattle.cat_value.specs.declared.ty.Ty.{Ty}
use Rattle.cat_value.specs.declared.ty.Ty.TheOpen.{Ty-F}
use Rattle.cat_value.specs.declared.ty.Ty.TheViews.{out-Ty}
use Rattle.cat_value.specs.declared.value.Value.{Value}
use Rattle.cat_value.specs.declared.value.Value.TheOpen.{Value-F}
use Rattle.cat_value.specs.declared.value.Value.TheViews.{out-Value}
use Rattle.cat_region.specs.declared.dim.Dim.{Dim}
use Rattle.cat_region.specs.declared.dim.Dim.TheVariants as dim
use Rattle.cat_region.specs.declared.point.Point.{Point}
use Rattle.cat_region.specs.declared.point.Point.TheVariants as point
use Rattle.cat_region.specs.Points.{is_point, default_point}
use Rattle.cat_scope.specs.Fitting.{cases_in}
use Rattle.cat_scope.specs.Replies.{Reply}

-- the dimension of a type by its form, if it has one
abbrev pub dim_in : Decls → Ty-F Ty → Option Dim
dim_in ds Ty-F.Boolean = Some dim.Truth
dim_in ds Ty-F.Integer = Some dim.Whole
dim_in ds Ty-F.Decimal = Some dim.Decimal
dim_in ds Ty-F.Money = Some dim.Money
dim_in ds Ty-F.Date = Some dim.Day
dim_in ds (Ty-F.Enumeration n) = Some (dim.Cases (cases_in (slice_get ds.enumerations n)))
dim_in ds _ = None

-- the dimension of a type, if it has one
abbrev pub dim_of : Decls → Ty → Option Dim
dim_of ds t = dim_in ds (out-Ty t)

-- what cuts see of a value by its form, if anything
abbrev pub point_in : Value-F Value → Option Point
point_in (Value-F.Boolean b) = Some (point.Truth b)
point_in (Value-F.Integer n) = Some (point.Whole n)
point_in (Value-F.Decimal f) = Some (point.Decimal f)
point_in (Value-F.Money cents) = Some (point.Money cents)
point_in (Value-F.Date day) = Some (point.Day day)
point_in (Value-F.Case k content) = Some (point.Case k)
point_in _ = None

-- what cuts see of a value, if anything
abbrev pub point_of : Value → Option Point
point_of value = point_in (out-Value value)

-- a point of a dimension, or the default where there is none
abbrev pub point_or : Dim → Option Point → Point
point_or d None = default_point d
point_or d (Some x) = if is_point d x then x else default_point d

-- the point of a term of a dimension: that of its value, or the default where it has none
abbrev pub point_at : Dim → Reply → Point
point_at d (Ok value) = point_or d (point_of value)
point_at d (Err stop) = default_point d
