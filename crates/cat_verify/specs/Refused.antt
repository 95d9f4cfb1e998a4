-- Why an image is refused: the first of four kinds of faults that it has, and a place of it.
use Rattle.std.specs.Prelude.{ℕ}
use Rattle.cat_code.specs.declared.code.Tables.{Tables}
use Rattle.cat_image.specs.declared.image.Image.{Image}
use Rattle.cat_verify_tables.specs.TableWords.{AreTablesOf}
use Rattle.cat_verify_tables.specs.WrongTables.{IsBadTable}
use Rattle.cat_verify_shapes.specs.Unshaped.{IsUnshaped}
use Rattle.cat_verify.specs.declared.refusal.VerifyRefusal.{VerifyRefusal}
use Rattle.cat_verify.specs.declared.refusal.VerifyRefusal.TheVariants as refusal
use Rattle.cat_verify.specs.WrongCode.{IsBadNumber, IsEndless}

-- no line of its tables is wrong, and they are these
pub record IsToldBy (image : Image) (tables : Tables) : Type 0 where
  pub right : (n : ℕ) → IsBadTable image.tables n → ⊥
  pub tables_are : AreTablesOf image.tables tables

-- each instruction names what is there too, and keeps the rules of listings
pub record IsNumbered (image : Image) (tables : Tables) : Type 0 where
  pub told : IsToldBy image tables
  pub numbered : (k : ℕ) → IsBadNumber tables image.instructions k → ⊥

-- and each run ends
pub record IsEnding (image : Image) (tables : Tables) : Type 0 where
  pub numbered : IsNumbered image tables
  pub ending : (k : ℕ) → IsEndless tables image.instructions k → ⊥

abbrev pub HasCause : Image → VerifyRefusal → Type 0
HasCause image (refusal.BadTable n) = IsBadTable image.tables n
HasCause image (refusal.BadNumber k) =
    (tables : Tables) × IsToldBy image tables × IsBadNumber tables image.instructions k
HasCause image (refusal.Endless k) = (tables : Tables) × IsNumbered image tables × IsEndless tables image.instructions k
HasCause image (refusal.BadShape k) = (tables : Tables) × IsEnding image tables × IsUnshaped tables image.instructions k
HasCause image refusal.Memory = Unit {0}
