use Rattle.std.proofs.Common.{ℕ, Option, Ok, length, ap, ◌∙◌}
use Rattle.cat_scope.specs.Projections.{case_of}
use Rattle.cat_pool.specs.declared.node.PoolNode.{PoolNode}
use Rattle.cat_pool.specs.Nodes.{value_in, values}
use Rattle.cat_machine.specs.States.{slot}
use Rattle.cat_machine.proofs.Growth.{no_more}
use Rattle.cat_machine.proofs.Holding.{below_split}
use Rattle.cat_machine.proofs.MakingSteps.{case_in_node, content_kind, content_machine, content_there, content_told}
use Rattle.cat_machine.proofs.MakingSteps.{content_within, no_case}
use Rattle.cat_machine.proofs.steps.making.content.Goals as goal

pub look-requires : goal.look-requires
look-requires c =
    (below_split (length c.args.m.now.pool) c.args.m.now.operands c.in-Some.r c.pop.new.self c.in-Some.ensures
    c.requires.machine.operands).0

pub unreachable-requires-in_default-look : goal.unreachable-requires-in_default-look
unreachable-requires-in_default-look c =
    content_kind c.args.code.now.tables c.args.place c.args.m.now c.in-Some.r c.pop.new.self c.in-Some.ensures
    (value_in c.args.m.now.pool c.look.result.now) c.look.ensures.value
    (no_case c.args.m.now.pool c.look.result.now c.in_default-look.not-Case) c.requires.going

pub unreachable-requires-in_default-content : goal.unreachable-requires-in_default-content
unreachable-requires-in_default-content c =
    content_there c.args.code.now.tables c.args.place c.args.m.now c.in-Some.r c.pop.new.self c.in-Some.ensures
    (value_in c.args.m.now.pool c.look.result.now) c.look.ensures.value c.in-Case.field-0 c.in-Case.content
    c.in_default-content.not-Some (ap (λ (n : PoolNode). case_of (value_in c.args.m.now.pool n)) c.in-Case.is
    ∙ case_in_node c.args.m.now.pool c.in-Case.field-0 c.in-Case.content) c.requires.going

pub returns-clause-told : goal.returns-clause-told
returns-clause-told c =
    content_told c.args.code.now.tables c.args.place c.args.m.now c.in-Some.r c.pop.new.self c.in-Some.ensures
    (value_in c.args.m.now.pool c.look.result.now) c.look.ensures.value c.requires.machine c.in-Case.field-0
    c.in-Some-content.content (ap (λ (n : PoolNode). case_of (value_in c.args.m.now.pool n)) c.in-Case.is
    ∙ case_in_node c.args.m.now.pool c.in-Case.field-0 c.in-Case.content
    ∙ ap (λ (o : Option ℕ). Ok (c.in-Case.field-0, slot (values c.args.m.now.pool) o)) c.in-Some-content.is)
    c.push.new.self c.in_ok-push.ensures.ok

pub returns-clause-machine : goal.returns-clause-machine
returns-clause-machine c =
    content_machine c.args.code.now.tables c.args.place c.args.m.now c.in-Some.r c.pop.new.self c.in-Some.ensures
    (value_in c.args.m.now.pool c.look.result.now) c.look.ensures.value c.requires.machine c.in-Case.field-0
    c.in-Some-content.content (ap (λ (n : PoolNode). case_of (value_in c.args.m.now.pool n)) c.in-Case.is
    ∙ case_in_node c.args.m.now.pool c.in-Case.field-0 c.in-Case.content
    ∙ ap (λ (o : Option ℕ). Ok (c.in-Case.field-0, slot (values c.args.m.now.pool) o)) c.in-Some-content.is)
    c.push.new.self c.in_ok-push.ensures.ok
    (content_within c.args.m.now.pool c.in-Some.r c.look.result.now c.in-Case.field-0 c.in-Case.content
    c.in-Some-content.content
    (below_split (length c.args.m.now.pool) c.args.m.now.operands c.in-Some.r c.pop.new.self c.in-Some.ensures
    c.requires.machine.operands).0 c.look.ensures.parts c.in-Case.is c.in-Some-content.is)

pub returns-clause-pool : goal.returns-clause-pool
returns-clause-pool c =
    no_more c.args.m.now.pool

pub returns-in_err-push-clause-pool : goal.returns-in_err-push-clause-pool
returns-in_err-push-clause-pool c =
    no_more c.args.m.now.pool
