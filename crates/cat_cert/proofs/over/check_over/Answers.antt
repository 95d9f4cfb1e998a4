use Rattle.std.proofs.Common.{sym, subst}
use Rattle.std.specs.Prelude.{List}
use Rattle.cat_cert.specs.declared.certificate.CertTree.{CertTree}
use Rattle.cat_cert.specs.inside.Checkable.{AreOfTables}
use Rattle.cat_cert.proofs.over.check_over.Goals as goal

pub text_over-requires : goal.text_over-requires
text_over-requires c =
    subst (λ (ts : List CertTree). AreOfTables c.args.tables.now ts) (sym c.as_slice.ensures)
    c.in_ok-certificate.ensures.trees
