-- What a check says of a certificate of version 2.
use Rattle.std.specs.Prelude.{◌≡◌, ◌++◌, ℕ, List, map, Option, None}
use Rattle.cat_scope.specs.declared.programs.Program.{Program}
use Rattle.cat_guard.specs.Trees.{tree_of}
use Rattle.cat_cert.specs.declared.certificate.Version.TheVariants as version
use Rattle.cat_cert.specs.declared.refusal.CertRefusal.{CertRefusal}
use Rattle.cat_cert.specs.declared.refusal.CertRefusal.TheVariants as refusal
use Rattle.cat_cert.specs.Certifiable.{shared_tree}
use Rattle.cat_cert.specs.Texts.{certificate_text}
use Rattle.cat_audit.specs.declared.report.Report.{Report}
use Rattle.cat_audit.specs.ReportTexts.{report_text}
use Rattle.cat_cert.specs.ScopeTables.{HasScopeCause, IsOverScope}

-- what is written of a complete report: its lines, and the certificate of its trees
abbrev pub written_text : Program → List (List ℕ) → ℕ → Report → List ℕ
written_text program files most report =
    report_text program.decls files most report.sections
    ++ certificate_text version.Two report.tables (map (λ t. shared_tree (tree_of t.nodes)) report.trees)

-- some bytes are a certificate for a scope, and no check answers otherwise: it writes nothing over, and refuses them at
-- most for want of memory
pub record IsAnsweredYes (program : Program) (scope : ℕ) (bytes : List ℕ) : Type 0 where
  pub certified : IsOverScope program scope bytes None
  pub alone : (over : Option (List ℕ)) → IsOverScope program scope bytes over → over ≡ None
  pub kept : (why : CertRefusal) → HasScopeCause program scope bytes why → why ≡ refusal.Memory
