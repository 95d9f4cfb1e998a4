use Rattle.std.proofs.Common.{◌≡◌, ◌-◌, pos, length, ap, sym, ◌∙◌, subst, rules}
use Rattle.cat_value.specs.declared.value.Value.TheVariants as flat
use Rattle.cat_pool.specs.declared.node.PoolNode.{PoolNode}
use Rattle.cat_pool.specs.Nodes.{IsPlaced, in_range, kept_parts, lone, seen_at, value_in}
use Rattle.cat_machine.proofs.Growth.{one_more}
use Rattle.cat_machine.proofs.Holding.{below_split}
use Rattle.cat_machine.proofs.NodeKinds.{no_list}
use Rattle.cat_machine.proofs.MakingSteps.{length_kind, length_machine, length_told, length-in_range}
use Rattle.cat_machine.proofs.Pushing.{none_more}
use Rattle.cat_machine.proofs.steps.making.length.Goals as goal

pub look-requires : goal.look-requires
look-requires c =
    (below_split (length c.args.m.now.pool) c.args.m.now.operands c.in-Some.r c.pop.new.self c.in-Some.ensures
    c.requires.machine.operands).0

pub unreachable-requires-in_default-look : goal.unreachable-requires-in_default-look
unreachable-requires-in_default-look c =
    length_kind c.args.code.now.tables c.args.place c.args.m.now c.in-Some.r c.pop.new.self c.in-Some.ensures
    (value_in c.args.m.now.pool c.look.result.now) c.look.ensures.value
    (no_list c.args.m.now.pool c.look.result.now c.in_default-look.not-List) c.requires.going

pub returns-clause-told : goal.returns-clause-told
returns-clause-told c =
    let count : c.unwrap-count.result ≡ pos (c.in-List.refs.end - c.in-List.refs.start) = search rules in
    length_told c.args.code.now.tables c.args.place c.args.m.now c.in-Some.r c.pop.new.self c.in-Some.ensures
    (value_in c.args.m.now.pool c.look.result.now) c.look.ensures.value c.requires.machine c.in_ok-r.r c.put.new.self
    c.in_ok-r.ensures.place c.push.new.self c.in_ok-push.ensures.ok
    (seen_at c.args.m.now.pool (in_range (kept_parts c.args.m.now.pool) c.in-List.refs))
    (ap (value_in c.args.m.now.pool) c.in-List.is) c.unwrap-count.result
    (count
    ∙ ap pos
    (sym
    (length-in_range c.args.m.now.pool (kept_parts c.args.m.now.pool) c.in-List.refs
    (subst (λ (n : PoolNode). IsPlaced c.args.m.now.pool c.in-Some.r n) c.in-List.is c.look.ensures.parts).0.0
    (subst (λ (n : PoolNode). IsPlaced c.args.m.now.pool c.in-Some.r n) c.in-List.is c.look.ensures.parts).0.1)))
    c.in_ok-r.ensures.ok

pub returns-clause-machine : goal.returns-clause-machine
returns-clause-machine c =
    let count : c.unwrap-count.result ≡ pos (c.in-List.refs.end - c.in-List.refs.start) = search rules in
    length_machine c.args.code.now.tables c.args.place c.args.m.now c.in-Some.r c.pop.new.self c.in-Some.ensures
    (value_in c.args.m.now.pool c.look.result.now) c.look.ensures.value c.requires.machine c.in_ok-r.r c.put.new.self
    c.in_ok-r.ensures.place c.push.new.self c.in_ok-push.ensures.ok
    (seen_at c.args.m.now.pool (in_range (kept_parts c.args.m.now.pool) c.in-List.refs))
    (ap (value_in c.args.m.now.pool) c.in-List.is) c.unwrap-count.result
    (count
    ∙ ap pos
    (sym
    (length-in_range c.args.m.now.pool (kept_parts c.args.m.now.pool) c.in-List.refs
    (subst (λ (n : PoolNode). IsPlaced c.args.m.now.pool c.in-Some.r n) c.in-List.is c.look.ensures.parts).0.0
    (subst (λ (n : PoolNode). IsPlaced c.args.m.now.pool c.in-Some.r n) c.in-List.is c.look.ensures.parts).0.1)))
    c.in_ok-r.ensures.ok

pub returns-clause-pool : goal.returns-clause-pool
returns-clause-pool c =
    one_more c.args.m.now.pool c.put.new.self (lone (flat.Integer c.unwrap-count.result)) c.in_ok-r.ensures.ok

pub returns-in_err-r-clause-pool : goal.returns-in_err-r-clause-pool
returns-in_err-r-clause-pool c =
    none_more c.args.m.now.pool c.put.new.self c.in_err-r.ensures.err

pub returns-in_err-push-clause-pool : goal.returns-in_err-push-clause-pool
returns-in_err-push-clause-pool c =
    one_more c.args.m.now.pool c.put.new.self (lone (flat.Integer c.unwrap-count.result)) c.in_ok-r.ensures.ok
