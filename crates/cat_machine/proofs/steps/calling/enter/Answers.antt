use Rattle.std.proofs.Common.{◌≡◌, ◌+◌, ◌∷◌, ◌∙◌, sym}
use Rattle.cat_machine.specs.Layers.{top_items}
use Rattle.cat_machine.proofs.CallSteps.{enter_machine, enter_needs, enter_told, opened_with, some_opened}
use Rattle.cat_machine.proofs.steps.calling.enter.Goals as goal

pub at-entry-requires : goal.at-entry-requires
at-entry-requires c =
    enter_needs c.args.code.now.tables c.args.place c.args.m.now c.in-Some.scope (sym c.head.ensures ∙ c.in-Some.is)
    c.requires.going

pub extend-requires : goal.extend-requires
extend-requires c = some_opened tt c.args.m.now.slots c.open-2.new.self c.in_ok-open-2.ensures.ok

pub returns-clause-told : goal.returns-clause-told
returns-clause-told c =
    let filled : c.extend.new.self ≡ (tt, top_items c.args.m.now.pending) ∷ c.args.m.now.slots
    =
    opened_with tt c.args.m.now.slots c.open-2.new.self c.extend.new.self c.items.result.now
    (top_items c.args.m.now.pending) c.in_ok-open-2.ensures.ok
    c.in_ok-extend.ensures.ok c.items.ensures in
    enter_told c.args.code.now.tables c.args.place c.args.m.now c.in-Some.scope c.at-entry.result.now c.open.new.self
    c.extend.new.self c.close.new.self (sym c.head.ensures ∙ c.in-Some.is) c.at-entry.ensures
    c.in_ok-open.ensures.ok filled c.close.ensures

pub returns-clause-machine : goal.returns-clause-machine
returns-clause-machine c =
    let filled : c.extend.new.self ≡ (tt, top_items c.args.m.now.pending) ∷ c.args.m.now.slots
    =
    opened_with tt c.args.m.now.slots c.open-2.new.self c.extend.new.self c.items.result.now
    (top_items c.args.m.now.pending) c.in_ok-open-2.ensures.ok
    c.in_ok-extend.ensures.ok c.items.ensures in
    enter_machine c.args.code.now.tables c.args.place c.args.m.now (c.args.place + 1) c.open.new.self c.extend.new.self
    c.close.new.self c.requires.machine c.in_ok-open.ensures.ok filled
    c.close.ensures
