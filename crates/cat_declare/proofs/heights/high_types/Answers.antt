use Rattle.std.proofs.Common.{◌∙◌, ◌<◌, ◌++◌, [], List, length, map, ap, subst, sym, arith}
use Rattle.std.specs.Prelude.{flat_map}
use Rattle.cat_pos.specs.declared.limits.TheConstants.{ENTRIES_BOUND}
use Rattle.cat_value.specs.declared.ty.Ty.TheVariants as flat
use Rattle.cat_tree.specs.declared.name.Name.{Name}
use Rattle.cat_tree.specs.declared.program.FieldItem.{FieldItem}
use Rattle.cat_tree.specs.declared.program.CaseItem.{CaseItem}
use Rattle.cat_names.specs.Heights.{high_list, high_named, types_written}
use Rattle.cat_names.specs.Written.{structures_in, enumerations_in, names_of, types_in}
use Rattle.cat_declare.specs.inside.Parted.{declared_by}
use Rattle.cat_declare.proofs.OneMore.{flat_flat, made_pairs, three_behind}
use Rattle.cat_declare.proofs.Tabling.{as_many_pairs, lists_few}
use Rattle.cat_declare.proofs.heights.high_types.Goals as goal

pub add_structures-requires-clause-few : goal.add_structures-requires-clause-few
add_structures-requires-clause-few c =
    let ds = c.args.tables.now.declarations in let items = ds.tree.now.items in
    let many = as_many_pairs ds.structures (structures_in items) c.requires.tables.declarations.structures in
    subst (λ xs. length xs < ENTRIES_BOUND) (sym c.as_slice.ensures)
    (omega (arith, many, lists_few items, c.requires.few))

pub add_enumerations-requires-clause-few : goal.add_enumerations-requires-clause-few
add_enumerations-requires-clause-few c =
    let ds = c.args.tables.now.declarations in let items = ds.tree.now.items in
    let many = as_many_pairs ds.enumerations (enumerations_in items) c.requires.tables.declarations.enumerations in
    subst (λ xs. length xs < ENTRIES_BOUND) (sym c.as_slice-2.ensures)
    (omega (arith, many, lists_few items, c.requires.few))

pub returns : goal.returns
returns c =
    let ds = c.args.tables.now.declarations in let items = ds.tree.now.items in
    let d = declared_by c.args.parts.now in let high = high_list d (types_in items) in
    three_behind [] c.add_structures.new.faults c.add_enumerations.new.faults c.add_lists.new.faults _ _ _
    (high_named d flat.Structure (names_of (structures_in items)))
    (high_named d flat.Enumeration (names_of (enumerations_in items)))
    (flat_map high (flat_map types_written items))
    (c.in_ok-add_structures.ensures
    ∙ ap (λ fs. fs ++ high_named d flat.Structure (map (λ x. x.name.now) c.as_slice.result.now)) c.new-faults.ensures)
    c.in_ok-add_enumerations.ensures c.in_ok-add_lists.ensures
    (ap (high_named d flat.Structure) (ap (map (λ x. x.name.now)) c.as_slice.ensures
    ∙ made_pairs (λ (p : Name × List FieldItem). p.0) ds.structures (structures_in items)
    c.requires.tables.declarations.structures))
    (ap (high_named d flat.Enumeration) (ap (map (λ x. x.name.now)) c.as_slice-2.ensures
    ∙ made_pairs (λ (p : Name × List CaseItem). p.0) ds.enumerations (enumerations_in items)
    c.requires.tables.declarations.enumerations))
    (ap (flat_map (λ i. flat_map high (types_written i))) c.as_slice-3.ensures
    ∙ sym (flat_flat high types_written items))
