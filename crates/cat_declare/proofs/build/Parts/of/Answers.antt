use Rattle.std.proofs.Common.{◌∙◌, List}
use Rattle.std.specs.Prelude.{flat_map}
use Rattle.cat_tree.specs.declared.name.Name.{Name}
use Rattle.cat_tree.specs.declared.program.FieldItem.{FieldItem}
use Rattle.cat_tree.specs.declared.program.CaseItem.{CaseItem}
use Rattle.cat_tree.specs.declared.program.Variable.{Variable}
use Rattle.cat_names.specs.Written.{structures_in, enumerations_in, scopes_in}
use Rattle.cat_declare.specs.inside.Made.{structure_made, enumeration_made, scope_made, made, cut, field_faults}
use Rattle.cat_declare.specs.inside.Made.{case_faults, variable_faults}
use Rattle.cat_declare.specs.inside.Tabling.{tree_at, types_at, scopes_at}
use Rattle.cat_declare.proofs.OneMore.{flat_pairs, made_pairs, three_behind}
use Rattle.cat_declare.proofs.Finishing.{same_parts}
use Rattle.cat_declare.proofs.build.Parts.of.Goals as goal

pub returns-clause-made : goal.returns-clause-made
returns-clause-made c =
    let tables = c.args.tables.now in let items = (tree_at tables).items in let ds = tables.declarations in
    let names = types_at tables in let scopes = scopes_at tables in
    same_parts (record {
      structures = c.in_ok-structures_of.field-0;
      enumerations = c.in_ok-enumerations_of.field-0;
      scopes = c.in_ok-scopes_of.field-0;
    }) (made cut items)
    (c.in_ok-structures_of.ensures.made ∙ made_pairs (structure_made cut names) ds.structures (structures_in items)
    c.requires.declarations.structures)
    (c.in_ok-enumerations_of.ensures.made ∙ made_pairs (enumeration_made cut names) ds.enumerations
    (enumerations_in items) c.requires.declarations.enumerations)
    (c.in_ok-scopes_of.ensures.made ∙ made_pairs (scope_made cut names scopes) ds.scopes (scopes_in items)
    c.requires.declarations.scopes)

pub returns-clause-faults : goal.returns-clause-faults
returns-clause-faults c =
    let tables = c.args.tables.now in let items = (tree_at tables).items in let ds = tables.declarations in
    let names = types_at tables in let scopes = scopes_at tables in
    three_behind c.args.faults.now c.structures_of.new.faults c.enumerations_of.new.faults c.scopes_of.new.faults _ _ _
    (flat_map (λ s. field_faults names s.1) (structures_in items))
    (flat_map (λ e. case_faults names e.1) (enumerations_in items))
    (flat_map (λ s. flat_map (variable_faults names scopes) s.1) (scopes_in items))
    c.in_ok-structures_of.ensures.faults c.in_ok-enumerations_of.ensures.faults c.in_ok-scopes_of.ensures.faults
    (flat_pairs (λ (s : Name × List FieldItem). field_faults names s.1) ds.structures (structures_in items)
    c.requires.declarations.structures)
    (flat_pairs (λ (e : Name × List CaseItem). case_faults names e.1) ds.enumerations (enumerations_in items)
    c.requires.declarations.enumerations)
    (flat_pairs (λ (s : Name × List Variable). flat_map (variable_faults names scopes) s.1) ds.scopes (scopes_in items)
    c.requires.declarations.scopes)
