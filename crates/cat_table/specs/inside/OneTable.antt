-- The table of one target.
use Rattle.std.specs.Prelude.{◌≡◌, ℕ, Bool, List}
use Rattle.cat_value.specs.declared.decls.Decls.{Decls}
use Rattle.cat_guard.specs.declared.table.Table.{Table}
use Rattle.cat_guard.specs.declared.table.TableTarget.{TableTarget}
use Rattle.cat_search.specs.declared.found.Search.{Search}
use Rattle.cat_table.specs.Rows.{table_text}
use Rattle.cat_table.specs.Wanted.{IsTabledBy, is_spent}

-- a text is the table of a target by a search
pub record IsOneTable (ds : Decls) (files : List (List ℕ)) (table : Table) (budget : ℕ) (t : TableTarget)
    (text : List ℕ) (spent : Bool) : Type 0 where
  pub search : Search
  pub tabled : IsTabledBy ds files table budget t search
  pub text_is : text ≡ table_text ds files table t search
  pub spent_is : spent ≡ is_spent search
