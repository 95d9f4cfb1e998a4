use Rattle.std.proofs.Common.{◌<◌, ◌∙◌, ◌++◌, List, length, sym, ap, subst, rules}
use Rattle.std.specs.Prelude.{flat_map}
use Rattle.cat_pos.specs.declared.pos.Pos.{Pos}
use Rattle.cat_value.specs.declared.declaration.Scope.{Scope}
use Rattle.cat_check_names.specs.Table.{IsTableOf}
use Rattle.cat_check.specs.declared.outline.Outline.{Outline}
use Rattle.cat_check.specs.inside.Calling.{called_about, declared_at}
use Rattle.cat_check.proofs.Sourced.{behind_none, call_there, call_at, one_at}
use Rattle.cat_check.proofs.scope_order.call_position.Goals as goal

pub at-requires-2 : goal.at-requires-2
at-requires-2 c =
    let t = c.in_ok-table.table in
    let is_table = subst (λ (xs : List Scope). IsTableOf (λ s. s.name) xs t) c.as_slice.ensures c.in_ok-table.ensures in
    let declared = flat_map (declared_at c.args.called) c.at.result.now.items in
    let whole = behind_none c.new-positions.result c.add_declared.new.positions c.add_called.new.positions declared
    (flat_map (called_about t c.args.caller c.args.called) c.args.outline.now.blocks)
    (search rules) (search rules) (search rules) in
    let all = whole ∙ ap (λ (o : Outline). declared ++ flat_map (called_about t c.args.caller c.args.called) o.blocks)
    c.requires.call.1 in
    subst (λ (ps : List Pos). 0 < length ps) (sym all)
    (call_there c.args.decls.now t is_table c.requires.call.0 c.args.caller c.args.called c.at.result.now
    c.at.ensures c.requires.call.2)

pub returns : goal.returns
returns c = λ tree is.
    let t = c.in_ok-table.table in
    let is_table = subst (λ (xs : List Scope). IsTableOf (λ s. s.name) xs t) c.as_slice.ensures c.in_ok-table.ensures in
    let declared = flat_map (declared_at c.args.called) c.at.result.now.items in
    let whole = behind_none c.new-positions.result c.add_declared.new.positions c.add_called.new.positions declared
    (flat_map (called_about t c.args.caller c.args.called) c.args.outline.now.blocks)
    (search rules) (search rules) (search rules) in
    let all = whole ∙ ap (λ (o : Outline). declared ++ flat_map (called_about t c.args.caller c.args.called) o.blocks)
    is in
    call_at c.args.decls.now t is_table tree c.args.caller c.args.called c.at.result.now
    c.at.ensures c.at-2.result.now (one_at c.at-2.result.now _ 0 (search (rules, all)))
