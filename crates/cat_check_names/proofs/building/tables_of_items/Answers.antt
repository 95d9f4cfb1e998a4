use Rattle.std.proofs.Common.{rules, ◌≡◌, ◌+◌, take, ◌∙◌, ◌<◌, Some, slice_get, get_or, length, sym, ap, refl, subst}
use Rattle.std.proofs.lemmas.Option.{slice_get_read}
use Rattle.cat_pos.specs.declared.limits.TheConstants.{ENTRIES_BOUND}
use Rattle.std.specs.List.{AllZip}
use Rattle.cat_check_names.specs.Table.{IsTableOf}
use Rattle.cat_check_names.proofs.Rows.{zip_more}
use Rattle.cat_check_names.proofs.building.tables_of_items.Goals as goal

pub table_of-requires : goal.table_of-requires
table_of-requires c =
    let scope = c.scope-item.result in
    let within : c.loop-scope.scope-index < length c.args.decls.now.scopes = search rules in
    let at : slice_get c.args.decls.now.scopes c.loop-scope.scope-index ≡ Some scope =
    slice_get_read c.args.decls.now.scopes (length c.args.decls.now.scopes) c.loop-scope.scope-index scope refl within
    (c.scope-item.is ∙ ap (λ es. get_or es c.loop-scope.scope-index scope) c.as_slice-scope-items.ensures) in
    subst (λ parts. length parts < ENTRIES_BOUND) (sym c.as_slice.ensures)
    (c.declarations_are_sound.ensures.items_counted c.loop-scope.scope-index scope at)

pub loop-scope-preserved : goal.loop-scope-preserved
loop-scope-preserved c =
    let scope = c.scope-item.result in
    let within : c.loop-scope.scope-index < length c.args.decls.now.scopes = search rules in
    subst (λ tables. AllZip (λ s table. IsTableOf (λ i. i.name) s.items table)
    (take (c.loop-scope.scope-index + 1) c.args.decls.now.scopes) tables)
    (sym c.in_ok-push.ensures.ok)
    (zip_more (λ s table. IsTableOf (λ i. i.name) s.items table) c.args.decls.now.scopes c.loop-scope.scope-index scope
    c.loop-scope.tables c.in_ok-table_of.field-0
    within
    (sym (c.scope-item.is ∙ ap (λ es. get_or es c.loop-scope.scope-index scope) c.as_slice-scope-items.ensures))
    c.loop-scope.invariant (subst (λ parts. IsTableOf (λ i. i.name) parts c.in_ok-table_of.field-0) c.as_slice.ensures
    c.in_ok-table_of.ensures))
