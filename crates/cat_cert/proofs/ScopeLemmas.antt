-- What is said over the tables of a scope, said of the scope.
use Rattle.std.proofs.Common.{◌≡◌, ◌≤◌, ◌<◌, ◌^◌, ℕ, List, [], ◌∷◌, length, Result, Ok, Err}
use Rattle.std.proofs.Common.{IfErr, All, refl, subst, arith, suc}
use Rattle.cat_scope.specs.declared.programs.Program.{Program}
use Rattle.cat_guard.specs.declared.table.Table.{Table}
use Rattle.cat_cert.specs.declared.refusal.CertRefusal.{CertRefusal}
use Rattle.cat_cert.specs.declared.refusal.CertRefusal.TheVariants as refusal
use Rattle.cat_audit_table.specs.AuditedTables.{AreTablesOf}
use Rattle.cat_cert.specs.Checked.{HasCause, IsCertified}
use Rattle.cat_cert.specs.ScopeTables.{AreNumbered, HasScopeCause, IsRefusedOver, IsScopeCertified}
use Rattle.cat_cert.proofs.OneTables.{one_tables}

pub if_err : {A E : Type 0} (P Q : E → Type 0) (r : Result A E) → ((e : E) → P e → Q e) → IfErr r P → IfErr r Q
if_err P Q (Ok a) go h = h
if_err P Q (Err e) go h = go e h

pub caused : (program : Program) (scope : ℕ) (tables : List Table) → AreTablesOf program scope tables
    → AreNumbered tables → (bytes : List ℕ) (why : CertRefusal) → HasCause tables bytes why
    → HasScopeCause program scope bytes why
caused program scope tables are few bytes (refusal.BadLine n) is = (tables, are, (few, is))
caused program scope tables are few bytes (refusal.WrongName n) is = (tables, are, (few, is))
caused program scope tables are few bytes (refusal.NotCovered n) is = (tables, are, (few, is))
caused program scope tables are few bytes refusal.Short is = (tables, are, (few, is))
caused program scope tables are few bytes (refusal.Trailing n) is = (tables, are, (few, is))
caused program scope tables are few bytes (refusal.TooWide n) is = (tables, are, (few, is))
caused program scope tables are few bytes refusal.Memory is = tt

pub numbered : (tables : List Table) → All (λ (table : Table). length table.atoms ≤ 2 ^ 64) tables
    → AreNumbered tables
numbered [] all = tt
numbered (t ∷ tables) all =
    (all 0 t (omega arith), numbered tables (λ k d below. all (suc k) d (omega (arith, below))))

-- ---- what is certified isn't refused

abbrev pub NotRefused : Type 0
NotRefused = (tables : List Table) (bytes : List ℕ) (why : CertRefusal) → AreNumbered tables → length bytes < 2 ^ 64
    → IsCertified tables bytes → HasCause tables bytes why → why ≡ refusal.Memory

module _ (program : Program) (scope : ℕ) (law : NotRefused) (bytes : List ℕ) (short : length bytes < 2 ^ 64)
    (is : IsScopeCertified program scope bytes) where
  over_tables : (why : CertRefusal) → IsRefusedOver program scope bytes why → why ≡ refusal.Memory
  over_tables why cause =
      law cause.0 bytes why cause.2.0 short
      (subst (λ (ts : List Table). IsCertified ts bytes) (one_tables program scope is.0 cause.0 is.1 cause.1) is.2)
      cause.2.1

  pub not_refused : (why : CertRefusal) → HasScopeCause program scope bytes why → why ≡ refusal.Memory
  not_refused (refusal.BadLine n) cause = over_tables (refusal.BadLine n) cause
  not_refused (refusal.WrongName n) cause = over_tables (refusal.WrongName n) cause
  not_refused (refusal.NotCovered n) cause = over_tables (refusal.NotCovered n) cause
  not_refused refusal.Short cause = over_tables refusal.Short cause
  not_refused (refusal.Trailing n) cause = over_tables (refusal.Trailing n) cause
  not_refused (refusal.TooWide n) cause = over_tables (refusal.TooWide n) cause
  not_refused refusal.Memory cause = refl
