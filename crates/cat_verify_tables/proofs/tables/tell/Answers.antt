use Rattle.std.proofs.Common.{sym, subst}
use Rattle.std.proofs.lemmas.Result.{err_from_is_err_and}
use Rattle.cat_image.specs.declared.tables.ImageTables.{ImageTables}
use Rattle.cat_verify_tables.specs.TableWords.{IsTold}
use Rattle.cat_verify_tables.specs.WrongTables.{HasCause}
use Rattle.cat_verify_tables.specs.inside.DeclarationWords.{HasFewRows}
use Rattle.cat_verify_tables.proofs.RowCounts.{few_rows}
use Rattle.cat_verify_tables.proofs.Telling.{told_is}
use Rattle.cat_verify_tables.proofs.tables.tell.Goals as goal

pub declarations-requires : goal.declarations-requires
declarations-requires c = subst HasFewRows (sym c.tables-tables.ensures)
    (few_rows c.args.image.now.tables c.args.image.now.instructions c.an_image_has_few_rows.ensures)

pub returns-in_err-declared-clause-cause : goal.returns-in_err-declared-clause-cause
returns-in_err-declared-clause-cause c =
    let p = err_from_is_err_and c.from_residual.result c.from_residual.ensures.1 in
    rw (p.1, p.2) (subst (λ (t : ImageTables). HasCause t c.in_err-declared.field-0.0) c.tables-tables.ensures
    c.in_err-declared.ensures.cause)

pub tabled_of-requires-clause-few : goal.tabled_of-requires-clause-few
tabled_of-requires-clause-few c = subst HasFewRows (sym c.tables-tables.ensures)
    (few_rows c.args.image.now.tables c.args.image.now.instructions c.an_image_has_few_rows.ensures)

pub tabled_of-requires-clause-declared : goal.tabled_of-requires-clause-declared
tabled_of-requires-clause-declared c = c.in_ok-declared.ensures.told

pub returns-in_err-tables-clause-cause : goal.returns-in_err-tables-clause-cause
returns-in_err-tables-clause-cause c =
    let p = err_from_is_err_and c.from_residual-in_err-tables.result c.from_residual-in_err-tables.ensures.1 in
    rw (p.1, p.2) (subst (λ (t : ImageTables). HasCause t c.in_err-tables.field-0.0) c.tables-tables.ensures
    c.in_err-tables.ensures.cause)

pub returns-clause-told : goal.returns-clause-told
returns-clause-told c =
    let few = subst HasFewRows (sym c.tables-tables.ensures)
    (few_rows c.args.image.now.tables c.args.image.now.instructions c.an_image_has_few_rows.ensures) in
    let tabled = c.in_ok-tables.field-0 in
    subst (λ (t : ImageTables). IsTold t (record {
      tables = tabled.tables;
      files = tabled.files;
      functions = tabled.functions;
      order = c.in_ok-declared.declared.order;
    })) c.tables-tables.ensures
    (told_is c.tables-tables.result.now c.in_ok-declared.declared c.in_ok-declared.ensures.told tabled
    c.in_ok-tables.ensures.told c.a_cycle_leaves_no_order.ensures few)
