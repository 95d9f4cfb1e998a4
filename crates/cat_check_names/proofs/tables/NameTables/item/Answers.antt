use Rattle.cat_check_names.specs.Table.{IsTableOf}
use Rattle.cat_check_names.proofs.Rows.{row_at}
use Rattle.cat_check_names.proofs.tables.NameTables.item.Goals as goal

pub at-requires : goal.at-requires
at-requires c =
    (row_at (λ s table. IsTableOf (λ x. x.name) s.items table) c.args.decls.now.scopes c.args.self.now.items
    c.args.scope c.in-Some.declared.now c.requires.items c.in-Some.ensures.value).within

pub found-requires : goal.found-requires
found-requires c =
    (row_at (λ s table. IsTableOf (λ x. x.name) s.items table) c.args.decls.now.scopes c.args.self.now.items
    c.args.scope c.in-Some.declared.now c.requires.items c.in-Some.ensures.value).row c.at.result.now c.at.ensures
