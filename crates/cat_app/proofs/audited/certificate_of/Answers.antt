use Rattle.std.proofs.Common.{◌≡◌, List, length, subst, sym}
use Rattle.cat_guard.specs.declared.table.Table.{Table}
use Rattle.cat_guard.specs.declared.tree.CaseTree.{CaseTree}
use Rattle.cat_audit.specs.Complete.{targets_in}
use Rattle.cat_cert.specs.Lines.{targets_of}
use Rattle.cat_app.proofs.Audits.{AreWholeTrees, trees_counted, trees_whole}
use Rattle.cat_app.proofs.audited.certificate_of.Goals as goal

pub write_cert-requires-clause-count : goal.write_cert-requires-clause-count
write_cert-requires-clause-count c =
    let report = c.args.report.now in
    let closed = c.requires c.in-Complete.is in
    let trees = c.as_slice-in-Complete in
    subst (λ (ts : List Table). length trees.result.now ≡ length (targets_of ts)) (sym c.as_slice.ensures)
    (subst (λ (cs : List CaseTree). length cs ≡ length (targets_of report.tables)) (sym trees.ensures)
    (trees_counted closed.0 report.tables report.trees closed.1))

pub write_cert-requires-clause-whole : goal.write_cert-requires-clause-whole
write_cert-requires-clause-whole c =
    let report = c.args.report.now in
    let closed = c.requires c.in-Complete.is in
    subst AreWholeTrees (sym c.as_slice-in-Complete.ensures)
    (trees_whole closed.0 (targets_in report.tables) report.trees closed.1)
