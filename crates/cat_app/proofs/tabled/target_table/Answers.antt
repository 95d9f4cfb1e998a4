use Rattle.std.proofs.Common.{◌≡◌, ◌∙◌, inl, inr, sym}
use Rattle.cat_app.proofs.Replies.{if_ok}
use Rattle.cat_app.proofs.tabled.target_table.Goals as goal

pub tell_tables-requires-clause-tabled : goal.tell_tables-requires-clause-tabled
tell_tables-requires-clause-tabled c = (c.args.scope, c.in_ok-table.ensures)

pub returns-then-not-has_target : goal.returns-then-not-has_target
returns-then-not-has_target c = if_ok c.no_target.result c.no_target.ensures (λ reply says. inr (record {
  none = record {
    table = c.in_ok-table.table;
    tabled = c.in_ok-table.ensures;
    none = sym c.has_target.ensures ∙ c.if-not-has_target.true;
  };
  says = says;
}))

pub returns : goal.returns
returns c = if_ok c.tell_tables.result c.tell_tables.ensures (λ reply told. inl (record {
  spent = told.spent;
  tables = record {
    table = c.in_ok-table.table;
    tabled = c.in_ok-table.ensures;
    there = sym c.has_target.ensures ∙ c.if-not-has_target.false;
    tables = told.tables;
  };
  says = told.says;
}))
