-- What a check answers of a certificate of version 2.
use Rattle.std.proofs.Common.{◌≡◌, ℕ, Bool, true, false, List, Option, None, Some}
use Rattle.std.proofs.Common.{refl, sym, ap, ◌∙◌, subst, true≢false}
use Rattle.cat_scope.specs.declared.programs.Program.{Program}
use Rattle.cat_guard.specs.declared.table.Table.{Table}
use Rattle.cat_cert.specs.declared.certificate.Version.{Version}
use Rattle.cat_cert.specs.declared.certificate.Version.TheVariants as version
use Rattle.cat_cert.specs.Causes.{IsRead}
use Rattle.cat_audit_table.specs.AuditedTables.{AreTablesOf}
use Rattle.cat_cert.specs.ScopeTables.{IsOverScope, IsScopeCertified}
use Rattle.cat_laws.proofs.ReadBehind.{one_version, second_version}

-- a scope and those that it calls have one list of tables
abbrev pub OneTables : Program → Type 0
OneTables program = (scope : ℕ) (tables others : List Table) → AreTablesOf program scope tables
    → AreTablesOf program scope others → tables ≡ others

abbrev is_two : Version → Bool
is_two version.One = false
is_two version.Two = true

module _ (program : Program) (scope : ℕ) (bytes : List ℕ) where
  pub certified : IsOverScope program scope bytes None → IsScopeCertified program scope bytes
  certified is = (is.0, is.1, (is.2.0, is.2.1))

  -- nothing is written over of a certificate of version 2
  pub alone : OneTables program → IsOverScope program scope bytes None → (over : Option (List ℕ))
      → IsOverScope program scope bytes over → over ≡ None
  alone once is None other = refl
  alone once is (Some text) other =
      let same = once scope is.0 other.0 is.1 other.1 in
      let read = subst (λ (ts : List Table). IsRead ts bytes is.2.0) same is.2.1.0 in
      let versions = one_version other.0 bytes is.2.0 other.2.0 read other.2.1.0 in
      absurd (true≢false (ap is_two (sym is.2.2 ∙ versions ∙ other.2.2)))

-- what is written over is of version 2
pub over_certified : (program : Program) (scope : ℕ) (bytes text : List ℕ) → IsOverScope program scope bytes (Some text)
    → IsScopeCertified program scope text → IsOverScope program scope text None
over_certified program scope bytes text over is =
    let read = subst (λ (t : List ℕ). IsRead is.0 t is.2.0) over.2.3 is.2.1.0 in
    (is.0, is.1, (is.2.0, is.2.1, second_version is.0 over.0 _ is.2.0 read))
