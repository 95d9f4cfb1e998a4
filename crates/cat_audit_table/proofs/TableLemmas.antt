-- Tables that are made one after the other.
use Rattle.std.proofs.Common.{◌≡◌, ℕ, zero, suc, List, [], ◌∷◌, ◌++◌, Some, slice_get}
use Rattle.std.proofs.Common.{subst}
use Rattle.cat_scope.specs.declared.programs.Program.{Program}
use Rattle.cat_scope.specs.Names.{AllHave}
use Rattle.cat_sound.proofs.Exported.{same_some}
use Rattle.cat_guard.specs.declared.table.Table.{Table}
use Rattle.cat_guard.specs.Tables.{TablesScope}
use Rattle.cat_audit_table.specs.AuditedTables.{scopes_of}
use Rattle.std.proofs.Common.{if◌then◌else◌}
use Rattle.std.specs.Prelude.{nat_eq}

-- the tables of the first of some scopes
pub record AreTablesTo (program : Program) (tables : List Table) (rest scopes : List ℕ) : Type 0 where
  pub scopes_are : scopes_of tables ++ rest ≡ scopes
  pub tables_are : AllHave (λ t. TablesScope program t.scope t) tables

-- what holds of each holds of the one at an index
pub have_at : {A : Type 0} (P : A → Type 0) (xs : List A) → AllHave P xs → (i : ℕ) (x : A) → slice_get xs i ≡ Some x
    → P x
have_at P [] h i x e = absurd (cc)
have_at P (y ∷ xs) h zero x e = subst P (same_some y x e) h.0
have_at P (y ∷ xs) h (suc i) x e = have_at P xs h.1 i x e

-- the table of a scope, or another one
abbrev pub table_in : List Table → Table → ℕ → Table
table_in [] default n = default
table_in (t ∷ tables) default n = if nat_eq t.scope n then t else table_in tables default n
