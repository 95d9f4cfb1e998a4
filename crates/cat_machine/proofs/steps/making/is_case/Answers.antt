use Rattle.std.proofs.Common.{length, ap, ◌∙◌}
use Rattle.cat_scope.specs.Projections.{case_of}
use Rattle.cat_pool.specs.declared.node.PoolNode.{PoolNode}
use Rattle.cat_pool.specs.Nodes.{value_in, values}
use Rattle.cat_machine.specs.States.{slot}
use Rattle.cat_machine.proofs.Holding.{below_split}
use Rattle.cat_machine.proofs.MakingSteps.{case_in_node, is_case_has, is_case_kind, is_case_machine, is_case_told}
use Rattle.cat_machine.proofs.MakingSteps.{no_case}
use Rattle.cat_machine.proofs.steps.making.is_case.Goals as goal

pub look-requires : goal.look-requires
look-requires c =
    (below_split (length c.args.m.now.pool) c.args.m.now.operands c.in-Some.r c.pop.new.self c.in-Some.ensures
    c.requires.machine.operands).0

pub unreachable-requires-in_default-look : goal.unreachable-requires-in_default-look
unreachable-requires-in_default-look c =
    is_case_kind c.args.code.now.tables c.args.place c.args.m.now c.in-Some.r c.pop.new.self c.in-Some.ensures
    (value_in c.args.m.now.pool c.look.result.now) c.look.ensures.value c.args.c
    (no_case c.args.m.now.pool c.look.result.now c.in_default-look.not-Case) c.requires.going

pub at-requires : goal.at-requires
at-requires c =
    is_case_has c.args.code.now.tables c.args.place c.args.m.now c.in-Some.r c.pop.new.self c.in-Some.ensures
    (value_in c.args.m.now.pool c.look.result.now) c.look.ensures.value c.in-Case.case
    (slot (values c.args.m.now.pool) c.in-Case.field-1)
    (ap (λ (n : PoolNode). case_of (value_in c.args.m.now.pool n)) c.in-Case.is
    ∙ case_in_node c.args.m.now.pool c.in-Case.case c.in-Case.field-1) c.args.c c.requires.going

pub truth_of-requires : goal.truth_of-requires
truth_of-requires c =
    record { yes = c.requires.machine.yes; no = c.requires.machine.no }

pub returns-clause-told : goal.returns-clause-told
returns-clause-told c =
    is_case_told c.args.code.now.tables c.args.place c.args.m.now c.in-Some.r c.pop.new.self c.in-Some.ensures
    (value_in c.args.m.now.pool c.look.result.now) c.look.ensures.value c.requires.machine c.in-Case.case c.args.c
    (slot (values c.args.m.now.pool) c.in-Case.field-1)
    (ap (λ (n : PoolNode). case_of (value_in c.args.m.now.pool n)) c.in-Case.is
    ∙ case_in_node c.args.m.now.pool c.in-Case.case c.in-Case.field-1) c.at.result.now c.at.ensures
    c.truth_of.new.m c.in_ok-truth.truth c.in_ok-truth.ensures.ok c.truth_of.ensures.pool c.push.new.self
    c.in_ok-push.ensures.ok

pub returns-clause-machine : goal.returns-clause-machine
returns-clause-machine c =
    is_case_machine c.args.code.now.tables c.args.place c.args.m.now c.in-Some.r c.pop.new.self c.in-Some.ensures
    (value_in c.args.m.now.pool c.look.result.now) c.look.ensures.value c.requires.machine c.in-Case.case c.args.c
    (slot (values c.args.m.now.pool) c.in-Case.field-1)
    (ap (λ (n : PoolNode). case_of (value_in c.args.m.now.pool n)) c.in-Case.is
    ∙ case_in_node c.args.m.now.pool c.in-Case.case c.in-Case.field-1) c.at.result.now c.at.ensures
    c.truth_of.new.m c.in_ok-truth.truth c.in_ok-truth.ensures.ok c.truth_of.ensures.pool c.push.new.self
    c.in_ok-push.ensures.ok

pub returns-clause-pool : goal.returns-clause-pool
returns-clause-pool c =
    c.truth_of.ensures.pool

pub returns-in_err-truth-clause-pool : goal.returns-in_err-truth-clause-pool
returns-in_err-truth-clause-pool c =
    c.truth_of.ensures.pool

pub returns-in_err-push-clause-pool : goal.returns-in_err-push-clause-pool
returns-in_err-push-clause-pool c =
    c.truth_of.ensures.pool
