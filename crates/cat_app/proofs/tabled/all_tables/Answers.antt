use Rattle.cat_app.proofs.Replies.{if_ok}
use Rattle.cat_app.proofs.tabled.all_tables.Goals as goal

pub tell_tables-requires-clause-tabled : goal.tell_tables-requires-clause-tabled
tell_tables-requires-clause-tabled c = (c.args.scope, c.in_ok-table.ensures)

pub returns : goal.returns
returns c = if_ok c.tell_tables.result c.tell_tables.ensures (λ reply told. record {
  spent = told.spent;
  tables = record { table = c.in_ok-table.table; tabled = c.in_ok-table.ensures; there = tt; tables = told.tables };
  says = told.says;
})
