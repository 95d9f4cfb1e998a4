-- What a part of an input is, by the form of its type, and that its parts are lower.
use Rattle.std.proofs.Common.{◌≡◌, ℕ, zero, suc, ◌-◌, ◌<◌, Option, Some, slice_get, arith, refl, ◌∙◌, sub-one}
use Rattle.cat_value.specs.declared.decls.Decls.{Decls}
use Rattle.cat_value.specs.declared.declaration.Structure.{Structure}
use Rattle.cat_value.specs.declared.ty.Ty.{Ty}
use Rattle.cat_value.specs.declared.ty.Ty.TheOpen.{Ty-F}
use Rattle.cat_value.specs.declared.ty.Ty.TheVariants as flat_ty
use Rattle.cat_value.specs.declared.ty.Ty.TheViews as ty
use Rattle.cat_value.specs.declared.ty.Ty.TheViews.{out-Ty}
use Rattle.cat_value.specs.declared.value.Value.TheViews as value
use Rattle.cat_value.proofs.Exported.{fields_declared, fields_lower, height_positive, structure_there, whole}
use Rattle.cat_region.specs.declared.point.Point.{Point}
use Rattle.cat_guard.specs.declared.table.InputPath.{InputPath}
use Rattle.cat_audit_sound.specs.PointInputs.{part_to, part_in, fields_from, with_point}

module _ (ds : Decls) (points : InputPath → Option Point) (path : InputPath) where
  part_step : (k : ℕ) (t : Ty) → 0 < k
      → part_to ds points k path t ≡ part_in ds points (part_to ds points (k - 1)) path t (out-Ty t)
  unfolding part_to
  part_step zero t h = absurd (omega arith)
  part_step (suc k) t h = rw sub-one refl

  pub part_Structure : (k n : ℕ) (s : Structure) → 0 < k → slice_get ds.structures n ≡ Some s
      → part_to ds points k path (flat_ty.Structure n)
      ≡ value.Structure (fields_from (part_to ds points (k - 1)) path 0 s.fields)
  part_Structure k n s h e = rw (part_step k (flat_ty.Structure n) h, ty.outs-Structure n, e) refl

  pub part_other : (k : ℕ) (t : Ty) → 0 < k → ((n : ℕ) → t ≡ flat_ty.Structure n → ⊥)
      → part_to ds points k path t ≡ with_point ds t (points path)
  part_other k t h other = part_step k t h ∙ by (out-Ty t) refl
    where
      by : (y : Ty-F Ty) → out-Ty t ≡ y
          → part_in ds points (part_to ds points (k - 1)) path t y ≡ with_point ds t (points path)
      by (Ty-F.Structure n) is =
          absurd (other n (whole t (Ty-F.Structure n) (flat_ty.Structure n) is (ty.rolls-Structure n)))
      by _ is = refl

pub ruleset lower = (height_positive, fields_lower, fields_declared, structure_there)
