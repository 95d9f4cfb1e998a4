use Rattle.std.proofs.Common.{◌≡◌, ◌∙◌, ◌++◌, Some, None, OnOk, rules, subst, sym, arith}
use Rattle.cat_check_names.specs.Table.{IsTableOf}
use Rattle.cat_check_names.proofs.Rows.{row_at}
use Rattle.cat_names.specs.DeclarationFaults.{variable_name}
use Rattle.cat_names.specs.Written.{scopes_in, scope_names_in}
use Rattle.cat_declare.specs.inside.Tabling.{tree_at}
use Rattle.cat_declare.proofs.BlockNames.{block_variables, known_block, named_in, scope_at, unknown_block, within_names}
use Rattle.cat_declare.proofs.Tabling.{as_many_pairs}
use Rattle.cat_declare.proofs.blocks.Scoped.add_block.Goals as goal

pub returns-in_default : goal.returns-in_default
returns-in_default c =
    let tables = c.args.self.now.tables.now in let items = (tree_at tables).items in let b = c.args.block.now in
    let none : c.number.result ≡ None = search rules in
    subst (λ fs. OnOk c.push.result (c.push.new.self ≡ c.args.faults.now ++ fs))
    (unknown_block items b (named_in (scope_names_in items) tables.scopes b.name.text None c.requires.tables.scopes
    (sym c.number.ensures ∙ none))) c.push.ensures.ok

pub at-requires : goal.at-requires
at-requires c =
    let tables = c.args.self.now.tables.now in let items = (tree_at tables).items in
    let w = c.args.block.now.name.text in
    let scope = scope_at w (scopes_in items) c.in-Some.number
    (sym (c.requires.tables.scopes w) ∙ sym c.number.ensures ∙ c.in-Some.is) in
    omega (
      arith,
      within_names (scopes_in items) c.in-Some.number scope.text scope.at,
      as_many_pairs tables.declarations.scopes (scopes_in items) c.requires.tables.declarations.scopes,
    )

pub at-requires-2 : goal.at-requires-2
at-requires-2 c =
    (row_at (λ s table. IsTableOf (λ v. (variable_name v).text) s.parts.now table)
    c.args.self.now.tables.now.declarations.scopes c.args.self.now.items c.in-Some.number c.at.result.now
    c.requires.items (sym c.at.ensures)).within

pub add_block-added-requires : goal.add_block-added-requires
add_block-added-requires c = record {
  types = c.requires.tables.types;
  scopes = c.requires.tables.scopes;
  items = (row_at (λ s table. IsTableOf (λ v. (variable_name v).text) s.parts.now table)
      c.args.self.now.tables.now.declarations.scopes c.args.self.now.items c.in-Some.number c.at.result.now
      c.requires.items (sym c.at.ensures)).row c.at-2.result.now c.at-2.ensures;
}

pub returns : goal.returns
returns c =
    let tables = c.args.self.now.tables.now in let items = (tree_at tables).items in let b = c.args.block.now in
    let at = sym c.number.ensures ∙ c.in-Some.is in
    subst (λ fs. OnOk c.add_block-added.result (c.add_block-added.new.faults ≡ c.args.faults.now ++ fs))
    (known_block items b c.at.result.now.parts.now
    (named_in (scope_names_in items) tables.scopes b.name.text (Some c.in-Some.number) c.requires.tables.scopes at)
    (block_variables items b.name.text tables.declarations.scopes c.in-Some.number c.at.result.now c.requires.apart
    c.requires.tables.declarations.scopes (sym (c.requires.tables.scopes b.name.text) ∙ at) c.at.ensures))
    c.add_block-added.ensures
