use Rattle.std.proofs.Common.{rules, ◌≡◌, ◌∙◌, ◌+◌, ◌<◌, Some, slice_get, get_or, length, take, sym, ap, refl, subst}
use Rattle.std.proofs.lemmas.Option.{slice_get_read}
use Rattle.std.specs.List.{AllZip}
use Rattle.cat_pos.specs.declared.limits.TheConstants.{ENTRIES_BOUND}
use Rattle.cat_check_names.specs.Table.{IsTableOf}
use Rattle.cat_check_names.specs.inside.Counting.{AreCounted}
use Rattle.cat_check_names.proofs.Rows.{zip_more}
use Rattle.cat_check_names.proofs.Cases.{none_yet, all_counted}
use Rattle.cat_check_names.proofs.building.tables_of_cases.Goals as goal

pub table_of_cases-requires : goal.table_of_cases-requires
table_of_cases-requires c =
    let enumeration = c.enumeration-item.result in
    let within : c.loop-number.number < length c.args.decls.now.enumerations = search rules in
    let at : slice_get c.args.decls.now.enumerations c.loop-number.number ≡ Some enumeration =
    slice_get_read c.args.decls.now.enumerations (length c.args.decls.now.enumerations) c.loop-number.number enumeration
    refl within
    (c.enumeration-item.is ∙ ap (λ es. get_or es c.loop-number.number enumeration) c.as_slice-enumeration-items.ensures)
    in subst (λ cases. length cases < ENTRIES_BOUND) (sym c.as_slice-cases.ensures)
    (c.declarations_are_sound.ensures.enumerations c.loop-number.number enumeration at).counted

pub loop-number-preserved : goal.loop-number-preserved
loop-number-preserved c =
    let enumeration = c.enumeration-item.result in
    let number = c.loop-number.number in
    let all = c.args.decls.now.enumerations in
    let within : c.loop-number.number < length c.args.decls.now.enumerations = search rules in
    let is : get_or c.args.decls.now.enumerations c.loop-number.number enumeration ≡ enumeration = sym
    (c.enumeration-item.is ∙ ap (λ es. get_or es c.loop-number.number enumeration) c.as_slice-enumeration-items.ensures)
    in (
      subst (λ tables. AllZip (λ e table. IsTableOf (λ k. k.name) e.cases table) (take (number + 1) all) tables)
          (sym c.in_ok-push.ensures.ok)
          (zip_more (λ e table. IsTableOf (λ k. k.name) e.cases table) all number enumeration c.loop-number.tables
          c.in_ok-table_of_cases.field-0 within is c.loop-number.invariant.0
          (subst (λ cases. IsTableOf (λ k. k.name) cases c.in_ok-table_of_cases.field-0) c.as_slice-cases.ensures
          c.in_ok-table_of_cases.ensures.table)),
      all_counted all number enumeration c.table_of_cases.new.only_cases within is
          (subst (λ cases. AreCounted (take number all) number cases c.table_of_cases.new.only_cases)
          c.as_slice-cases.ensures
          (c.in_ok-table_of_cases.ensures.counted (take number all)
          (none_yet (take number all) number c.loop-number.only_cases c.loop-number.invariant.1))),
    )
