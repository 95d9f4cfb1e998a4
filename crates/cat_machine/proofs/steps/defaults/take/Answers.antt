use Rattle.std.proofs.Common.{List, slice_get, ap, sym, ◌∙◌, subst, Option}
use Rattle.cat_machine.specs.declared.machine.HeldRef.{HeldRef}
use Rattle.cat_machine.specs.inside.Logging.{LogsTarget}
use Rattle.cat_machine.proofs.DefaultSteps.{first_below, first_has, take_headed, take_none, take_one, take_push}
use Rattle.cat_machine.proofs.steps.defaults.take.Goals as goal

pub unreachable-requires : goal.unreachable-requires
unreachable-requires c =
    take_headed c.args.code.now.tables c.args.place c.args.m.now c.args.t c.in_default.ensures c.requires.going

pub log_target-requires : goal.log_target-requires
log_target-requires c =
    first_has c.args.code.now.tables c.args.place c.args.m.now c.requires.machine c.first-found.result
    (c.first-found.ensures ∙ ap (λ (l : List HeldRef). slice_get l 0) c.items.ensures)

pub returns-in_ok-push-in-Some-found-clause-told : goal.returns-in_ok-push-in-Some-found-clause-told
returns-in_ok-push-in-Some-found-clause-told c =
    rw (c.in_ok-push-in-Some-found.ensures.ok, c.close.ensures)
    (take_one c.args.code.now.tables c.args.place c.args.m.now c.args.t c.in-Some.checked c.log_target.new.m
    c.in-Some.ensures c.requires.going c.in-Some-found.held
    (sym c.in-Some-found.is ∙ (c.first-found.ensures ∙ ap (λ (l : List HeldRef). slice_get l 0) c.items.ensures))
    (subst (λ (o : Option HeldRef). LogsTarget c.args.code.now.tables c.args.m.now c.log_target.new.m c.in-Some.checked
    o) c.in-Some-found.is c.in_ok-log_target.ensures.ok))

pub returns-in_ok-push-in-Some-found-clause-machine : goal.returns-in_ok-push-in-Some-found-clause-machine
returns-in_ok-push-in-Some-found-clause-machine c =
    rw (c.in_ok-push-in-Some-found.ensures.ok, c.close.ensures)
    (take_push c.args.code.now.tables c.args.place c.args.m.now c.in-Some.checked c.first-found.result
    c.log_target.new.m c.requires.machine c.in_ok-log_target.ensures.ok c.in-Some-found.held.value
    (first_below c.args.code.now.tables c.args.place c.args.m.now c.requires.machine c.in-Some-found.held
    (sym c.in-Some-found.is ∙ (c.first-found.ensures ∙ ap (λ (l : List HeldRef). slice_get l 0) c.items.ensures))))

pub returns-in-None-clause-told : goal.returns-in-None-clause-told
returns-in-None-clause-told c =
    rw c.close.ensures
    (take_none c.args.code.now.tables c.args.place c.args.m.now c.args.t c.in-Some.checked c.log_target.new.m
    c.in-Some.ensures c.requires.going
    (sym c.in-None.is ∙ (c.first-found.ensures ∙ ap (λ (l : List HeldRef). slice_get l 0) c.items.ensures))
    (subst (λ (o : Option HeldRef). LogsTarget c.args.code.now.tables c.args.m.now c.log_target.new.m c.in-Some.checked
    o) c.in-None.is c.in_ok-log_target.ensures.ok))
