use Rattle.std.proofs.Common.{Some, length, ap, refl, ◌∙◌}
use Rattle.cat_pool.specs.declared.node.PoolNode.{PoolNode}
use Rattle.cat_pool.specs.Nodes.{value_in}
use Rattle.cat_machine.proofs.Holding.{below_split}
use Rattle.cat_machine.proofs.NodeKinds.{no_truth}
use Rattle.cat_machine.proofs.OperatingSteps.{assert_kind, assert_needs, assert_over, assert_told}
use Rattle.cat_machine.proofs.steps.operating.assertion.Goals as goal

pub at-pos-requires : goal.at-pos-requires
at-pos-requires c =
    assert_needs c.args.code.now.tables c.args.place c.args.p c.args.m.now c.requires.going

pub look-requires : goal.look-requires
look-requires c =
    (below_split (length c.args.m.now.pool) c.args.m.now.operands c.in-Some.r c.pop.new.self c.in-Some.ensures
    c.requires.machine.operands).0

pub unreachable-requires-in_default-look : goal.unreachable-requires-in_default-look
unreachable-requires-in_default-look c =
    assert_kind c.args.code.now.tables c.args.place c.args.p c.in-Some.r c.pop.new.self c.args.m.now c.at-pos.result.now
    (value_in c.args.m.now.pool c.look.result.now) c.at-pos.ensures c.in-Some.ensures c.look.ensures.value
    (no_truth c.args.m.now.pool c.look.result.now c.in_default-look.not-Boolean) c.requires.going

pub returns-then-truth-clause-told : goal.returns-then-truth-clause-told
returns-then-truth-clause-told c =
    assert_told c.args.code.now.tables c.args.place c.args.p c.in-Some.r c.pop.new.self c.args.m.now c.at-pos.result.now
    c.in-Boolean.truth c.at-pos.ensures c.in-Some.ensures
    (c.look.ensures.value ∙ ap (λ (n : PoolNode). Some (value_in c.args.m.now.pool n)) c.in-Boolean.is) c.if-truth.true

pub returns-clause-told : goal.returns-clause-told
returns-clause-told c = (
  assert_over c.args.code.now.tables c.args.place c.args.p c.in-Some.r c.pop.new.self c.args.m.now c.at-pos.result.now
      c.in-Boolean.truth c.at-pos.ensures c.in-Some.ensures
      (c.look.ensures.value ∙ ap (λ (n : PoolNode). Some (value_in c.args.m.now.pool n)) c.in-Boolean.is)
      c.if-truth.false,
  refl,
  tt,
)
