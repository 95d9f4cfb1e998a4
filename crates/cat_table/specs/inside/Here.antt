-- What names stand for where a table is written.
use Rattle.cat_table.specs.declared.scene.TableScene.{TableScene}
use Rattle.cat_table.specs.Conditions.{Naming}

-- what names stand for in a scene
abbrev pub naming_at : TableScene → Naming
naming_at here = record { decls = here.decls.now; items = here.items.now; files = here.files.now }
