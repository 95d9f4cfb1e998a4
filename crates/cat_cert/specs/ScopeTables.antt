-- What is answered of a text that is to be a certificate for a scope of a program.
use Rattle.std.specs.Prelude.{◌≤◌, ◌^◌, ℕ, IsTrue, List, length, Option}
use Rattle.cat_value.specs.declared.decls.Decls.{Decls}
use Rattle.cat_scope.specs.declared.programs.Program.{Program}
use Rattle.cat_scope.specs.Names.{AllHave}
use Rattle.cat_guard.specs.declared.table.Table.{Table}
use Rattle.cat_audit_table.specs.AuditedTables.{AreTablesOf}
use Rattle.cat_cert.specs.declared.refusal.CertRefusal.{CertRefusal}
use Rattle.cat_cert.specs.declared.refusal.CertRefusal.TheVariants as refusal
use Rattle.cat_cert.specs.Texts.{is_line}
use Rattle.cat_cert.specs.Checked.{HasCause, IsCertified, IsOver}

-- this holds of the tables of a scope and of those that it calls
abbrev pub HoldsOfTables : Program → ℕ → (List Table → Type 0) → Type 0
HoldsOfTables program scope P = (tables : List Table) × AreTablesOf program scope tables × P tables

-- a text is a certificate for a scope
abbrev pub IsScopeCertified : Program → ℕ → List ℕ → Type 0
IsScopeCertified program scope bytes = HoldsOfTables program scope (λ tables. IsCertified tables bytes)

-- it is one, with this text over it where it is of version 1
abbrev pub IsOverScope : Program → ℕ → List ℕ → Option (List ℕ) → Type 0
IsOverScope program scope bytes over = HoldsOfTables program scope (λ tables. IsOver tables bytes over)

-- no table has more atoms than a `usize` numbers
abbrev pub AreNumbered : List Table → Type 0
AreNumbered tables = AllHave (λ table. length table.atoms ≤ 2 ^ 64) tables

-- the refusal is one over those tables, which aren't too large
abbrev pub IsRefusedOver : Program → ℕ → List ℕ → CertRefusal → Type 0
IsRefusedOver program scope bytes why =
    HoldsOfTables program scope (λ tables. AreNumbered tables × HasCause tables bytes why)

-- why a text is none
abbrev pub HasScopeCause : Program → ℕ → List ℕ → CertRefusal → Type 0
HasScopeCause program scope bytes (refusal.BadLine n) = IsRefusedOver program scope bytes (refusal.BadLine n)
HasScopeCause program scope bytes (refusal.WrongName n) = IsRefusedOver program scope bytes (refusal.WrongName n)
HasScopeCause program scope bytes (refusal.NotCovered n) = IsRefusedOver program scope bytes (refusal.NotCovered n)
HasScopeCause program scope bytes refusal.Short = IsRefusedOver program scope bytes refusal.Short
HasScopeCause program scope bytes (refusal.Trailing n) = IsRefusedOver program scope bytes (refusal.Trailing n)
HasScopeCause program scope bytes (refusal.TooWide n) = IsRefusedOver program scope bytes (refusal.TooWide n)
HasScopeCause program scope bytes refusal.Memory = Unit {0}

-- no name of a scope or of an item holds a line feed
abbrev pub AreNamedInLines : Decls → Type 0
AreNamedInLines ds =
    AllHave (λ s. IsTrue (is_line s.name) × AllHave (λ item. IsTrue (is_line item.name)) s.items) ds.scopes
