-- Code whose shapes fit, each at an instruction of its owner, and why other code is refused.
use Rattle.std.specs.Prelude.{◌≡◌, ℕ, List, Some, slice_get}
use Rattle.cat_code.specs.declared.instr.Instr.{Instr}
use Rattle.cat_code.specs.declared.code.Tables.{Tables}
use Rattle.cat_code.specs.Shapes.{Owner, Shape}
use Rattle.cat_code.specs.Shaped.{Shapes, IsShapedBy, IsShaped}
use Rattle.cat_verify_shapes.specs.Belonging.{MayComeTo}
use Rattle.cat_verify_shapes.specs.declared.refusal.ShapeRefusal.{ShapeRefusal}
use Rattle.cat_verify_shapes.specs.declared.refusal.ShapeRefusal.TheVariants as refusal

-- shapes that fit the code, each that of an instruction to which a run may come in the code of the owner that it names
pub record AreOwnShapes (tables : Tables) (code : List Instr) (shapes : Shapes) : Type 0 where
  pub shaped : IsShapedBy tables code shapes
  pub owned : (p : ℕ) (s : Shape) → slice_get shapes p ≡ Some (Some s) → MayComeTo tables code s.owner p

-- code has such shapes
abbrev pub HasOwnShapes : Tables → List Instr → Type 0
HasOwnShapes tables code = (shapes : Shapes) × AreOwnShapes tables code shapes

-- no shapes exist, and a run may come to the instruction
pub record IsUnshaped (tables : Tables) (code : List Instr) (k : ℕ) : Type 0 where
  pub unshaped : IsShaped tables code → ⊥
  pub owner : Owner
  pub comes : MayComeTo tables code owner k

abbrev pub HasCause : Tables → List Instr → ShapeRefusal → Type 0
HasCause tables code (refusal.BadShape k) = IsUnshaped tables code k
HasCause tables code refusal.Memory = Unit {0}
