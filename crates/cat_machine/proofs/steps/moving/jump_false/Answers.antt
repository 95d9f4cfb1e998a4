use Rattle.std.proofs.Common.{◌∙◌, Bool, ap}
use Rattle.cat_value.specs.declared.value.Value.TheVariants as flat
use Rattle.cat_scope.specs.Projections.{truth}
use Rattle.cat_pool.specs.Nodes.{at, value_in, values}
use Rattle.cat_machine.proofs.MoveSteps.{jump_false, jump_needs, jump_true}
use Rattle.cat_machine.proofs.NodeKinds.{at_is, no_ok, no_truth}
use Rattle.cat_machine.proofs.steps.moving.jump_false.Goals as goal

pub unreachable-requires-in_default-look : goal.unreachable-requires-in_default-look
unreachable-requires-in_default-look c =
    no_ok (truth (at (values c.args.m.now.pool) c.in-Some.r))
    (ap truth
    (at_is (values c.args.m.now.pool) c.in-Some.r (value_in c.args.m.now.pool c.look.result.now) c.look.ensures.value)
    ∙ no_truth c.args.m.now.pool c.look.result.now c.in_default-look.not-Boolean)
    (jump_needs c.args.code.now.tables c.args.place c.args.m.now c.args.t c.in-Some.r c.pop.new.self
    (c.in-Some.ensures) c.requires.going)

pub returns-then-truth-clause-told : goal.returns-then-truth-clause-told
returns-then-truth-clause-told c =
    jump_true c.args.code.now.tables c.args.place c.args.m.now c.args.t c.in-Some.r c.pop.new.self c.in-Some.ensures
    (at_is (values c.args.m.now.pool) c.in-Some.r (value_in c.args.m.now.pool c.look.result.now) c.look.ensures.value
    ∙ ap (value_in c.args.m.now.pool) c.in-Boolean.is
    ∙ ap (λ (b : Bool). flat.Boolean b) c.if-truth.true)

pub returns-clause-told : goal.returns-clause-told
returns-clause-told c =
    jump_false c.args.code.now.tables c.args.place c.args.m.now c.args.t c.in-Some.r c.pop.new.self c.in-Some.ensures
    (at_is (values c.args.m.now.pool) c.in-Some.r (value_in c.args.m.now.pool c.look.result.now) c.look.ensures.value
    ∙ ap (value_in c.args.m.now.pool) c.in-Boolean.is
    ∙ ap (λ (b : Bool). flat.Boolean b) c.if-truth.false)
