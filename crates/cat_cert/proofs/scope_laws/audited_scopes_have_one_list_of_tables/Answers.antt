use Rattle.cat_cert.proofs.OneTables.{one_tables}
use Rattle.cat_cert.proofs.scope_laws.audited_scopes_have_one_list_of_tables.Goals as goal

pub returns : goal.returns
returns c scope tables others are also = one_tables c.args.program.now scope tables others are also
