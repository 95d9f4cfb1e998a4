use Rattle.std.proofs.Common.{rules, ◌+◌, take, ◌∙◌, ◌<◌, get_or, length, sym, ap, subst}
use Rattle.cat_names.specs.DeclarationFaults.{variable_name}
use Rattle.cat_check_names.specs.Table.{IsTableOf}
use Rattle.cat_check_names.proofs.Rows.{zip_more}
use Rattle.cat_declare.specs.inside.Naming.{AreItemTables}
use Rattle.cat_declare.proofs.blocks.item_tables.Goals as goal

pub loop-scope-preserved : goal.loop-scope-preserved
loop-scope-preserved c =
    let scope = c.scope-item.result in
    let within : c.loop-scope.scope-index < length c.args.scopes.now = search rules in
    subst (λ tables. AreItemTables (take (c.loop-scope.scope-index + 1) c.args.scopes.now) tables)
    (sym c.in_ok-push.ensures.ok)
    (zip_more (λ s table. IsTableOf (λ v. (variable_name v).text) s.parts.now table) c.args.scopes.now
    c.loop-scope.scope-index scope c.loop-scope.tables c.in_ok-table_of.field-0 within
    (sym (c.scope-item.is ∙ ap (λ es. get_or es c.loop-scope.scope-index scope) c.as_slice-scope-items.ensures))
    c.loop-scope.invariant
    (subst (λ parts. IsTableOf (λ v. (variable_name v).text) parts c.in_ok-table_of.field-0) c.as_slice.ensures
    c.in_ok-table_of.ensures))
