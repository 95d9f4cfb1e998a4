use Rattle.std.proofs.Common.{rules, ◌≡◌, ◌+◌, take, ◌∙◌, ◌<◌, Some, slice_get, get_or, length, sym, ap, refl, subst}
use Rattle.std.proofs.lemmas.Option.{slice_get_read}
use Rattle.cat_pos.specs.declared.limits.TheConstants.{ENTRIES_BOUND}
use Rattle.std.specs.List.{AllZip}
use Rattle.cat_check_names.specs.Table.{IsTableOf}
use Rattle.cat_check_names.proofs.Rows.{zip_more}
use Rattle.cat_check_names.proofs.building.tables_of_fields.Goals as goal

pub table_of-requires : goal.table_of-requires
table_of-requires c =
    let structure = c.structure-item.result in
    let within : c.loop-structure.structure-index < length c.args.decls.now.structures = search rules in
    let at : slice_get c.args.decls.now.structures c.loop-structure.structure-index ≡ Some structure =
    slice_get_read c.args.decls.now.structures (length c.args.decls.now.structures) c.loop-structure.structure-index
    structure refl within
    (c.structure-item.is ∙ ap (λ es. get_or es c.loop-structure.structure-index structure)
    c.as_slice-structure-items.ensures) in
    subst (λ parts. length parts < ENTRIES_BOUND) (sym c.as_slice.ensures)
    (c.declarations_are_sound.ensures.structures c.loop-structure.structure-index structure at).counted

pub loop-structure-preserved : goal.loop-structure-preserved
loop-structure-preserved c =
    let structure = c.structure-item.result in
    let within : c.loop-structure.structure-index < length c.args.decls.now.structures = search rules in
    subst (λ tables. AllZip (λ s table. IsTableOf (λ f. f.name) s.fields table)
    (take (c.loop-structure.structure-index + 1) c.args.decls.now.structures) tables)
    (sym c.in_ok-push.ensures.ok)
    (zip_more (λ s table. IsTableOf (λ f. f.name) s.fields table) c.args.decls.now.structures
    c.loop-structure.structure-index structure c.loop-structure.tables c.in_ok-table_of.field-0
    within
    (sym (c.structure-item.is ∙ ap (λ es. get_or es c.loop-structure.structure-index structure)
    c.as_slice-structure-items.ensures))
    c.loop-structure.invariant (subst (λ parts. IsTableOf (λ f. f.name) parts c.in_ok-table_of.field-0)
    c.as_slice.ensures c.in_ok-table_of.ensures))
