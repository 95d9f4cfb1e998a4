use Rattle.std.proofs.Common.{◌∙◌, sym, ap, length, slice_get}
use Rattle.cat_value.specs.declared.decls.Decls.{Decls}
use Rattle.cat_machine.proofs.ScopeSteps.{items_are, opened_machine, opened_told, opening, opening_more, opening_pool}
use Rattle.cat_machine.proofs.ScopeSteps.{opening_some}
use Rattle.cat_machine.proofs.steps.calling.scope.Goals as goal

pub loop-item-init : goal.loop-item-init
loop-item-init c =
    opening c.args.m.now c.args.n (length c.as_slice-item-items.result.now) c.open.new.self c.in_ok-open.ensures.ok

pub loop-item-preserved : goal.loop-item-preserved
loop-item-preserved c =
    opening_more c.args.m.now c.loop-item.m c.args.n c.loop-item._item-index (length c.as_slice-item-items.result.now)
    c.push.new.self
    c.loop-item.invariant c.loop-item-test.true c.in_ok-push.ensures.ok

pub push-requires : goal.push-requires
push-requires c =
    opening_some c.args.m.now c.loop-item.m c.args.n c.loop-item._item-index (length c.as_slice-item-items.result.now)
    c.loop-item.invariant

pub returns-clause-told : goal.returns-clause-told
returns-clause-told c =
    let there = ap (λ (d : Decls). slice_get d.scopes c.args.n) (sym c.get.ensures) ∙ sym c.in-Some.ensures.value in
    opened_told c.args.code.now.tables c.args.place c.args.m.now c.loop-item.m c.args.n c.loop-item._item-index
    (length c.as_slice-item-items.result.now) c.loop-item.invariant c.loop-item-test.false
    (items_are c.args.code.now.tables.decls c.args.n c.in-Some.scope.now c.as_slice-item-items.result.now there
    c.as_slice-item-items.ensures)

pub returns-clause-machine : goal.returns-clause-machine
returns-clause-machine c =
    opened_machine c.args.code.now.tables c.args.place c.args.m.now c.loop-item.m c.args.n c.loop-item._item-index
    (length c.as_slice-item-items.result.now) c.loop-item.invariant c.requires.machine

pub returns-clause-pool : goal.returns-clause-pool
returns-clause-pool c =
    opening_pool c.args.m.now c.loop-item.m c.args.n c.loop-item._item-index (length c.as_slice-item-items.result.now)
    c.loop-item.invariant
