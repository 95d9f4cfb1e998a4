use Rattle.cat_check_names.specs.Table.{IsTableOf}
use Rattle.cat_check_names.proofs.Rows.{row_at}
use Rattle.cat_check_names.proofs.tables.NameTables.field.Goals as goal

pub at-table-requires : goal.at-table-requires
at-table-requires c =
    (row_at (λ s table. IsTableOf (λ x. x.name) s.fields table) c.args.decls.now.structures c.args.self.now.fields
    c.args.structure c.in-Some.declared.now c.requires.fields c.in-Some.ensures.value).within

pub found-requires : goal.found-requires
found-requires c =
    (row_at (λ s table. IsTableOf (λ x. x.name) s.fields table) c.args.decls.now.structures c.args.self.now.fields
    c.args.structure c.in-Some.declared.now c.requires.fields c.in-Some.ensures.value).row c.at-table.result.now
    c.at-table.ensures
