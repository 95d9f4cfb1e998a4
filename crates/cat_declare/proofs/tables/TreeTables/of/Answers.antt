use Rattle.std.proofs.Common.{◌<◌, length, subst, sym, arith}
use Rattle.cat_pos.specs.declared.limits.TheConstants.{ENTRIES_BOUND}
use Rattle.cat_check_names.specs.Table.{IsTableOf}
use Rattle.cat_names.specs.Written.{structures_in, enumerations_in, scopes_in}
use Rattle.cat_declare.proofs.Tabling.{as_many_pairs, declared_table, lists_few}
use Rattle.cat_declare.proofs.tables.TreeTables.of.Goals as goal

pub table_of-requires : goal.table_of-requires
table_of-requires c =
    let ds = c.args.declarations in let items = ds.tree.now.items in
    let many = as_many_pairs ds.structures (structures_in items) c.requires.declarations.structures in
    subst (λ xs. length xs < ENTRIES_BOUND) (sym c.as_slice.ensures)
    (omega (arith, many, lists_few items, c.requires.few))

pub table_of-requires-2 : goal.table_of-requires-2
table_of-requires-2 c =
    let ds = c.args.declarations in let items = ds.tree.now.items in
    let many = as_many_pairs ds.enumerations (enumerations_in items) c.requires.declarations.enumerations in
    subst (λ xs. length xs < ENTRIES_BOUND) (sym c.as_slice-2.ensures)
    (omega (arith, many, lists_few items, c.requires.few))

pub table_of-requires-3 : goal.table_of-requires-3
table_of-requires-3 c =
    let ds = c.args.declarations in let items = ds.tree.now.items in
    let many = as_many_pairs ds.scopes (scopes_in items) c.requires.declarations.scopes in
    subst (λ xs. length xs < ENTRIES_BOUND) (sym c.as_slice-3.ensures)
    (omega (arith, many, lists_few items, c.requires.few))

pub returns-clause-tables : goal.returns-clause-tables
returns-clause-tables c =
    let ds = c.args.declarations in let items = ds.tree.now.items in record {
      declarations = c.requires.declarations;
      types = record {
        structures = declared_table ds.structures (structures_in items) _ c.requires.declarations.structures
            (subst (λ xs. IsTableOf (λ d. d.name.now.text) xs c.in_ok-structures.structures) c.as_slice.ensures
            c.in_ok-structures.ensures);
        enumerations = declared_table ds.enumerations (enumerations_in items) _ c.requires.declarations.enumerations
            (subst (λ xs. IsTableOf (λ d. d.name.now.text) xs c.in_ok-enumerations.enumerations) c.as_slice-2.ensures
            c.in_ok-enumerations.ensures);
      };
      scopes = declared_table ds.scopes (scopes_in items) _ c.requires.declarations.scopes
          (subst (λ xs. IsTableOf (λ d. d.name.now.text) xs c.in_ok-scopes.scopes) c.as_slice-3.ensures
          c.in_ok-scopes.ensures);
    }
