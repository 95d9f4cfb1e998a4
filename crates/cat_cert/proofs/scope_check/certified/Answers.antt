use Rattle.std.proofs.Common.{List, subst}
use Rattle.cat_guard.specs.declared.table.Table.{Table}
use Rattle.cat_cert.specs.Checked.{HasCause}
use Rattle.cat_cert.specs.ScopeTables.{AreNumbered, HasScopeCause}
use Rattle.cat_cert.proofs.ScopeLemmas.{caused, if_err, numbered}
use Rattle.cat_cert.proofs.scope_check.certified.Goals as goal

pub returns-clause-cause : goal.returns-clause-cause
returns-clause-cause c =
    let program = c.args.program.now in
    let scope = c.args.scope in
    let bytes = c.args.bytes.now in
    let slice = c.as_slice-tables.result.now in
    let few = subst AreNumbered c.as_slice-tables.ensures (numbered slice c.count_atoms.ensures) in
    if_err (HasCause slice bytes) (HasScopeCause program scope bytes) c.check_over.result
    (λ why is. caused program scope c.in_ok-tables.tables c.in_ok-tables.ensures few bytes why
    (subst (λ (ts : List Table). HasCause ts bytes why) c.as_slice-tables.ensures is)) c.check_over.ensures.cause
