-- Why an image is refused, by why its tables or the shapes of its code are.
use Rattle.cat_verify_shapes.specs.declared.refusal.ShapeRefusal.{ShapeRefusal}
use Rattle.cat_verify_shapes.specs.declared.refusal.ShapeRefusal.TheVariants as shapes
use Rattle.cat_verify_tables.specs.declared.refusal.TableRefusal.{TableRefusal}
use Rattle.cat_verify_tables.specs.declared.refusal.TableRefusal.TheVariants as tables
use Rattle.cat_verify.specs.declared.refusal.VerifyRefusal.{VerifyRefusal}
use Rattle.cat_verify.specs.declared.refusal.VerifyRefusal.TheVariants as refusal

abbrev pub of_tables : TableRefusal → VerifyRefusal
of_tables (tables.BadTable n) = refusal.BadTable n
of_tables tables.Memory = refusal.Memory

abbrev pub of_shapes : ShapeRefusal → VerifyRefusal
of_shapes (shapes.BadShape k) = refusal.BadShape k
of_shapes shapes.Memory = refusal.Memory
