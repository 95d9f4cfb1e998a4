-- Rows none of which is wrong.
use Rattle.std.specs.Prelude.{List, [], ◌∷◌, ◌++◌}
use Rattle.cat_image.specs.declared.row.Row.{Row}
use Rattle.cat_image.specs.declared.tables.ImageTables.{ImageTables}
use Rattle.cat_verify_tables.specs.WrongTables.{IsWrong}

-- none is wrong behind those in front and in front of the rest
abbrev pub NoneWrong : ImageTables → List Row → List Row → List Row → Type 0
NoneWrong tables front [] rest = Unit {0}
NoneWrong tables front (r ∷ rows) rest =
    (IsWrong tables front (rows ++ rest) r → ⊥) × NoneWrong tables (front ++ r ∷ []) rows rest
