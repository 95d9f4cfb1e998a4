-- The tables that are asked for.
use Rattle.std.specs.Prelude.{◌≡◌, ◌||◌, ℕ, Bool, true, false, List, [], ◌∷◌, ◌++◌, Option, Some, None, bytes_eq}
use Rattle.std.specs.Prelude.{if◌then◌else◌}
use Rattle.cat_value.specs.declared.decls.Decls.{Decls}
use Rattle.cat_guard.specs.declared.table.Table.{Table}
use Rattle.cat_guard.specs.declared.table.TableTarget.{TableTarget}
use Rattle.cat_search.specs.declared.found.Search.{Search}
use Rattle.cat_search.specs.declared.found.Search.TheVariants as search
use Rattle.cat_search.specs.Cells.{IsSpentWithin}
use Rattle.cat_search.specs.Searched.{IsSearchOf}
use Rattle.cat_table.specs.Kept.{AreKept}
use Rattle.cat_table.specs.Rows.{naming, rows_of, table_text}

-- a target has this name
abbrev pub is_named : List ℕ → TableTarget → Bool
is_named name t = bytes_eq t.name name

-- a target is wanted where it has the name that is asked for, or none is
abbrev pub is_wanted : Option (List ℕ) → TableTarget → Bool
is_wanted None t = true
is_wanted (Some name) t = is_named name t

-- those that are wanted of some targets
abbrev pub wanted_of : Option (List ℕ) → List TableTarget → List TableTarget
wanted_of wanted [] = []
wanted_of wanted (t ∷ ts) = if is_wanted wanted t then t ∷ wanted_of wanted ts else wanted_of wanted ts

-- leaves were spent
abbrev pub is_spent : Search → Bool
is_spent (search.Closed tree bad) = false
is_spent (search.Spent tree bad) = true

-- a search of at most `budget` leaves, which are spent only where the target has more cells, and what the rows of its
-- tree keep
pub record IsTabledBy (ds : Decls) (files : List (List ℕ)) (table : Table) (budget : ℕ) (t : TableTarget) (s : Search) :
    Type 0 where
  pub searched : IsSearchOf table.terms table.atoms t budget s
  pub spent : IsSpentWithin table.terms table.atoms t budget s
  pub kept : AreKept (naming ds files table) table t (rows_of table s)

-- the tables of targets by searches, one behind the other
abbrev pub tables_text : Decls → List (List ℕ) → Table → List TableTarget → List Search → List ℕ
tables_text ds files table [] ss = []
tables_text ds files table (t ∷ ts) [] = []
tables_text ds files table (t ∷ ts) (s ∷ ss) = table_text ds files table t s ++ tables_text ds files table ts ss

-- leaves of one of some searches were spent
abbrev pub any_spent : List Search → Bool
any_spent [] = false
any_spent (s ∷ ss) = is_spent s || any_spent ss

-- each target has a search
abbrev pub AreTabledBy : Decls → List (List ℕ) → Table → ℕ → List TableTarget → List Search → Type 0
AreTabledBy ds files table budget [] [] = Unit {0}
AreTabledBy ds files table budget [] (s ∷ ss) = ⊥
AreTabledBy ds files table budget (t ∷ ts) [] = ⊥
AreTabledBy ds files table budget (t ∷ ts) (s ∷ ss) =
    IsTabledBy ds files table budget t s × AreTabledBy ds files table budget ts ss

-- a text is the tables of targets, one behind the other, each by a search of at most `budget` leaves
pub record AreTables (ds : Decls) (files : List (List ℕ)) (table : Table) (budget : ℕ) (targets : List TableTarget)
    (text : List ℕ) (spent : Bool) : Type 0 where
  pub searches : List Search
  pub tabled : AreTabledBy ds files table budget targets searches
  pub text_is : text ≡ tables_text ds files table targets searches
  pub spent_is : spent ≡ any_spent searches
