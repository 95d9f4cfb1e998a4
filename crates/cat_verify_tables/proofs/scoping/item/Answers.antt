use Rattle.cat_verify_tables.proofs.scoping.item.Goals as goal

pub variable-requires-clause-variable : goal.variable-requires-clause-variable
variable-requires-clause-variable c = c.in-Some.ensures.0

pub variable-requires-clause-kind : goal.variable-requires-clause-kind
variable-requires-clause-kind c = c.in-Some.ensures.1

pub called-requires : goal.called-requires
called-requires c = c.in-None.ensures
