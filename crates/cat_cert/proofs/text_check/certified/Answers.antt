use Rattle.std.proofs.Common.{◌≤◌, length, sym, subst, arith}
use Rattle.cat_cert.specs.declared.certificate.CertTree.{CertTree}
use Rattle.std.specs.Prelude.{List}
use Rattle.cat_cert.specs.inside.Checkable.{last_line, AreOfTables}
use Rattle.cat_cert.proofs.CertifiedLemmas.{can_be_checked}
use Rattle.cat_cert.proofs.text_check.certified.Goals as goal

pub check_trees-requires : goal.check_trees-requires
check_trees-requires c =
    let tables = c.args.tables.now in
    let bytes = c.args.bytes.now in
    let read = c.in_ok-certificate.certificate in
    let value = c.length_of.ensures.value in
    let fits = c.length_of.ensures.fits in
    let few : length bytes ≤ last_line = omega (arith, value, fits) in
    subst (λ (ts : List CertTree). AreOfTables tables ts) (sym c.as_slice.ensures)
    (can_be_checked tables bytes read (c.read_trees_are_those_of_targets.ensures tables bytes read
    c.in_ok-certificate.ensures.read) few)

pub returns-clause-trees : goal.returns-clause-trees
returns-clause-trees c =
    let tables = c.args.tables.now in
    let bytes = c.args.bytes.now in
    let read = c.in_ok-certificate.certificate in
    let value = c.length_of.ensures.value in
    let fits = c.length_of.ensures.fits in
    let few : length bytes ≤ last_line = omega (arith, value, fits) in
    can_be_checked tables bytes read (c.read_trees_are_those_of_targets.ensures tables bytes read
    c.in_ok-certificate.ensures.read) few
