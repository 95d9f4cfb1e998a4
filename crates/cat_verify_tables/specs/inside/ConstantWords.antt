-- Constants as their lines tell them.
use Rattle.std.specs.Prelude.{◌≡◌, ◌≤◌, ◌<◌, IsTrue, Ok}
use Rattle.cat_value.specs.declared.ty.Ty.{Ty}
use Rattle.cat_value.specs.declared.value.Value.{Value}
use Rattle.cat_value.specs.Declarations.{highest}
use Rattle.cat_value.specs.Heights.{height_to}
use Rattle.cat_value.specs.Table.{AreHeights}
use Rattle.cat_value.specs.Typing.{has_type, is_type}
use Rattle.cat_json.specs.InputsRead.{value_read}
use Rattle.cat_code.specs.declared.code.Constant.{Constant}
use Rattle.cat_image.specs.declared.tables.ImageConstant.{ImageConstant}
use Rattle.cat_verify_tables.specs.declared.constants.Typing.{Typing}
use Rattle.cat_verify_tables.specs.inside.PartWords.{Spells, SpellsNone}

abbrev pub AreHeightsOf : Typing → Type 0
AreHeightsOf t = AreHeights t.decls.now.structures t.decls.now.enumerations t.heights.now

-- a value of the type that is spelled, which is no higher than a type may be
pub record IsConstantBy (t : Typing) (line : ImageConstant) (c : Constant) : Type 0 where
  pub ty : Spells t.types.now line.ty c.ty
  pub low : height_to t.decls.now.structures t.decls.now.enumerations highest c.ty ≤ highest
  pub value : value_read t.decls.now c.ty line.value ≡ Ok c.value
  pub typed : IsTrue (is_type t.decls.now c.ty) → IsTrue (has_type t.decls.now c.value c.ty)

-- no type, one that is too high, or a text that is no value of it
pub data IsWrongConstantBy (t : Typing) (line : ImageConstant) : Type 0 where
  none : SpellsNone t.types.now line.ty → IsWrongConstantBy t line
  high : (ty : Ty) → Spells t.types.now line.ty ty
      → highest < height_to t.decls.now.structures t.decls.now.enumerations highest ty → IsWrongConstantBy t line
  unread : (ty : Ty) → Spells t.types.now line.ty ty
      → ((value : Value) → value_read t.decls.now ty line.value ≡ Ok value → ⊥) → IsWrongConstantBy t line
