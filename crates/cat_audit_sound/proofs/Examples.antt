-- Worked examples: values that have points, the points of paths, and what is given.
use Rattle.std.proofs.Common.{◌≡◌, pos, true, false, [], ◌∷◌, Some, None, Option, refl}
use Rattle.cat_value.specs.declared.declaration.ItemDecl.{ItemDecl}
use Rattle.cat_value.specs.declared.declaration.Kind.TheVariants.{Context}
use Rattle.cat_value.specs.declared.ty.Ty.TheVariants as flat_ty
use Rattle.cat_value.specs.declared.ty.Ty.TheViews as ty
use Rattle.cat_value.specs.declared.value.Value.TheVariants as flat
use Rattle.cat_value.specs.declared.value.Value.TheViews as value
use Rattle.cat_value.specs.Defaults.{default_of}
use Rattle.cat_value.proofs.Exported.{sample}
use Rattle.cat_region.specs.declared.point.Point.{Point}
use Rattle.cat_region.specs.declared.point.Point.TheVariants as point
use Rattle.cat_guard.specs.declared.table.InputPath.{InputPath}
use Rattle.cat_audit_sound.specs.PointInputs.{is_at, with_point, given_for, variable, field_of}

integer_seven : with_point sample flat_ty.Integer (Some (point.Whole (pos 7))) ≡ flat.Integer (pos 7)
integer_seven = rw ty.outs-Integer refl

second_case : with_point sample (flat_ty.Enumeration 0) (Some (point.Case 1)) ≡ value.Case 1 None
second_case = rw (ty.outs-Enumeration 0) refl

-- the first case has the default of its content
first_case : with_point sample (flat_ty.Enumeration 0) (Some (point.Case 0))
    ≡ value.Case 0 (Some (default_of sample (ty.List flat_ty.Integer)))
first_case = rw (ty.outs-Enumeration 0) refl

-- no such case, and a point of another dimension
no_case : with_point sample (flat_ty.Enumeration 0) (Some (point.Case 2)) ≡ default_of sample (flat_ty.Enumeration 0)
no_case = rw (ty.outs-Enumeration 0) refl

other_dimension : with_point sample flat_ty.Integer (Some (point.Truth true)) ≡ default_of sample flat_ty.Integer
other_dimension = rw ty.outs-Integer refl

-- a path is that of the part itself, and not of what it is in, or of another item
its_own : is_at (field_of (variable 2) 1) (Some (record { item = 2; fields = 1 ∷ [] })) ≡ true
its_own = refl

of_the_whole : is_at (field_of (variable 2) 1) (Some (variable 2)) ≡ false
of_the_whole = refl

of_another_item : is_at (field_of (variable 2) 1) (Some (record { item = 1; fields = 1 ∷ [] })) ≡ false
of_another_item = refl

-- no context is given
no_context : (points : InputPath → Option Point) (item : ItemDecl) → item.kind ≡ Context
    → given_for sample points 0 item ≡ None
no_context points item is = rw is refl
