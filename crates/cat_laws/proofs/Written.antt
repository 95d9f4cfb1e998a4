-- What an audit writes of a complete scope is a certificate for the scope.
use Rattle.std.proofs.Common.{◌≡◌, ◌≤◌, ℕ, IsTrue, List, [], ◌++◌, map, Option, None, Some, sym}
use Rattle.std.proofs.Common.{ap, ◌∙◌, subst}
use Rattle.cat_scope.specs.declared.programs.Program.{Program}
use Rattle.cat_scope.specs.Names.{AllHave}
use Rattle.cat_guard.specs.declared.table.Table.{Table}
use Rattle.cat_guard.specs.declared.tree.CaseTree.{CaseTree}
use Rattle.cat_guard.specs.declared.tree.CitedTree.{CitedTree}
use Rattle.cat_guard.specs.Trees.{Tree, expanded, tree_of}
use Rattle.cat_cert.specs.declared.certificate.Version.TheVariants as version
use Rattle.cat_cert.specs.declared.certificate.CertTree.{CertTree}
use Rattle.cat_walk.specs.Sizes.{most_leaves}
use Rattle.cat_cert.specs.Certifiable.{AreCertifiable, shared_tree}
use Rattle.cat_cert.specs.Lines.{dues_of}
use Rattle.cat_cert.specs.Texts.{certificate_text, names_are_lines}
use Rattle.cat_cert.specs.Checked.{IsOver}
use Rattle.cat_cert.specs.Uncovered.{AllCovered}
use Rattle.cat_audit.specs.declared.report.Report.{Report}
use Rattle.cat_audit.specs.declared.report.Verdict.TheVariants as verdict
use Rattle.cat_audit.specs.Called.{verdict_in}
use Rattle.cat_audit.specs.Complete.{AreClosedTrees, targets_in}
use Rattle.cat_audit.specs.Reports.{IsReport}
use Rattle.cat_audit.specs.ReportTexts.{report_text}
use Rattle.cat_cert.specs.ScopeTables.{IsOverScope}
use Rattle.cat_cert.proofs.Exported.{map_twice, SharedOnes, StandAgain, WrittenOnes}
use Rattle.cat_laws.specs.Rechecks.{written_text}
use Rattle.cat_laws.specs.Unbroken.{AreUnbroken}
use Rattle.cat_laws.proofs.ClosedTrees.{are_certifiable, are_covered, found_of}
use Rattle.cat_laws.proofs.PassedLines.{IsPassed}
use Rattle.cat_laws.proofs.ReadBehind.{read_as_behind}
use Rattle.cat_laws.proofs.ReportLines.{report_passed}
use Rattle.cat_laws.proofs.TableNames.{tables_in_lines}

module _ (shares : SharedOnes) (stands : StandAgain) (writes : WrittenOnes) where
  -- covered trees are written as a certificate of version 2, also behind lines with which none begins
  covered_behind : (tables : List Table) (found : List (Option Tree)) (front : List ℕ)
      → IsTrue (names_are_lines tables) → AreCertifiable (dues_of tables) found → AllCovered tables found
      → IsPassed front → IsOver tables (front ++ certificate_text version.Two tables (map shared_tree found)) None
  covered_behind tables found front named are covered passes =
      let trees = map shared_tree found in
      let read = writes version.Two tables trees named (shares tables found are) in
      let behind =
      read_as_behind tables version.Two trees front (certificate_text version.Two tables trees) passes read in
      let same : map (λ (t : CertTree). expanded t.tree) behind.c.trees ≡ found =
      sym (map_twice (λ (t : CertTree). t.tree) expanded behind.c.trees) ∙ ap (map expanded) behind.trees_are
      ∙ stands tables found are in
      (behind.c, (behind.is, subst (AllCovered tables) (sym same) covered), behind.version_is)

  module _ (program : Program) (named : AreUnbroken program.decls.scopes) (scope most : ℕ) (few : most ≤ most_leaves)
      (files : List (List ℕ)) (report : Report) (is : IsReport program scope most report)
      (complete : AllHave (λ s. s.verdict ≡ verdict.Complete) report.sections) where
    trees_certified : AreClosedTrees most (targets_in report.tables) report.trees
        → IsOver report.tables (written_text program files most report) None
    trees_certified closed =
        let tables = report.tables in
        let trees = report.trees in
        let found = found_of trees in
        let front = report_text program.decls files most report.sections in
        subst (λ (ts : List CitedTree). IsOver tables (front ++ certificate_text version.Two tables ts) None)
        (map_twice (λ (t : CaseTree). tree_of t.nodes) shared_tree trees)
        (covered_behind tables found front (tables_in_lines program named tables is.tables_are.tables_are)
        (are_certifiable most few tables trees closed) (are_covered most tables trees closed)
        (report_passed program files most named (verdict_in report.sections) tables is.made report.sections
        is.tables_are.tables_are is.sections_are complete))

    -- what is written of its trees is a certificate
    pub report_certified : AreClosedTrees most (targets_in report.tables) report.trees
        → IsOverScope program scope (written_text program files most report) None
    report_certified closed = (report.tables, is.tables_are, trees_certified closed)
