use Rattle.std.proofs.Common.{rules, ◌≡◌, ◌∙◌, ◌++◌, ◌∷◌, [], List, ℕ, ap, sym, true}
use Rattle.cat_pool.specs.Nodes.{listed}
use Rattle.cat_machine.proofs.LoopSteps.{ended_machine, next_collected}
use Rattle.cat_machine.proofs.steps.looping.next.Goals as goal

pub returns-clause-told : goal.returns-clause-told
returns-clause-told c =
    let collecting : c.in-Some.top.collects ≡ true = search rules in
    next_collected c.args.code.now.tables c.args.place c.args.t c.args.m.now c.in-Some.top c.close-2.new.self
    c.in_ok-r.r c.put_list.new.self c.push-2.new.self
    c.requires.machine (sym c.head.ensures ∙ c.in-Some.is) c.if-left.false collecting c.close-2.ensures
    (c.in_ok-r.ensures.ok ∙ ap (λ (l : List ℕ). c.args.m.now.pool ++ listed c.args.m.now.pool l ∷ []) c.items.ensures)
    c.in_ok-r.ensures.place c.in_ok-push-2.ensures.ok

pub returns-clause-machine : goal.returns-clause-machine
returns-clause-machine c =
    ended_machine c.args.code.now.tables c.args.m.now c.requires.machine c.close-2.new.self c.in_ok-r.r
    c.put_list.new.self c.push-2.new.self c.items.result.now
    c.close-2.ensures c.in_ok-r.ensures.ok c.in_ok-r.ensures.place c.in_ok-push-2.ensures.ok
