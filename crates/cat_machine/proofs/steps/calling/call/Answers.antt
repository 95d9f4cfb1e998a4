use Rattle.std.proofs.Common.{◌≡◌, ◌+◌, ◌∷◌, false, reverse, take}
use Rattle.cat_machine.proofs.CallSteps.{call_enough, call_machine, call_needs, call_told, opened_with, some_opened}
use Rattle.cat_machine.proofs.CallSteps.{way_back}
use Rattle.cat_machine.proofs.steps.calling.call.Goals as goal

pub at-entry-requires : goal.at-entry-requires
at-entry-requires c = call_needs c.args.code.now.tables c.args.place c.args.m.now c.args.f c.args.n c.requires.going

pub last-requires : goal.last-requires
last-requires c = call_enough c.args.code.now.tables c.args.place c.args.m.now c.args.f c.args.n c.requires.going

pub forget-requires : goal.forget-requires
forget-requires c = call_enough c.args.code.now.tables c.args.place c.args.m.now c.args.f c.args.n c.requires.going

pub extend-requires : goal.extend-requires
extend-requires c =
    some_opened (way_back (c.args.place + 1) false) c.args.m.now.locals c.open.new.self c.in_ok-open.ensures.ok

pub returns-clause-told : goal.returns-clause-told
returns-clause-told c =
    let opened : c.extend.new.self
    ≡ (way_back (c.args.place + 1) false, reverse (take c.args.n c.args.m.now.operands)) ∷ c.args.m.now.locals
    =
    opened_with (way_back (c.args.place + 1) false) c.args.m.now.locals c.open.new.self c.extend.new.self
    c.last.result.now
    (reverse (take c.args.n c.args.m.now.operands)) c.in_ok-open.ensures.ok c.in_ok-extend.ensures.ok c.last.ensures in
    call_told c.args.code.now.tables c.args.place c.args.m.now c.args.f c.args.n c.at-entry.result.now c.forget.new.self
    c.extend.new.self
    (call_enough c.args.code.now.tables c.args.place c.args.m.now c.args.f c.args.n c.requires.going) c.at-entry.ensures
    c.forget.ensures opened

pub returns-clause-machine : goal.returns-clause-machine
returns-clause-machine c =
    let opened : c.extend.new.self
    ≡ (way_back (c.args.place + 1) false, reverse (take c.args.n c.args.m.now.operands)) ∷ c.args.m.now.locals
    =
    opened_with (way_back (c.args.place + 1) false) c.args.m.now.locals c.open.new.self c.extend.new.self
    c.last.result.now
    (reverse (take c.args.n c.args.m.now.operands)) c.in_ok-open.ensures.ok c.in_ok-extend.ensures.ok c.last.ensures in
    call_machine c.args.code.now.tables c.args.place c.args.m.now c.args.n (c.args.place + 1) c.forget.new.self
    c.extend.new.self c.requires.machine c.forget.ensures opened
