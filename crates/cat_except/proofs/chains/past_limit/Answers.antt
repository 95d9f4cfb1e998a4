use Rattle.std.proofs.Common.{◌∙◌, ℕ, ◌<◌, ◌≤◌, IfSome, set, refl, List, get_or, take}
use Rattle.std.proofs.Common.{sym, subst, ap, arith, length}
use Rattle.std.proofs.lemmas.List.{take_more, take_all}
use Rattle.cat_except.specs.declared.chains.Chain.{Chain}
use Rattle.cat_scope.specs.Chains.{longest_chain}
use Rattle.cat_except.specs.inside.Chains.{AreMeasured, chain_at, target_at, one_longer}
use Rattle.cat_except.proofs.Measured.{ready_within, target_fits, measured_step, too_long, all_short}
use Rattle.cat_except.proofs.chains.past_limit.Goals as goal

pub one_longer-chain-requires-clause-group : goal.one_longer-chain-requires-clause-group
one_longer-chain-requires-clause-group c =
    ready_within c.args.excepted.now (take c.loop-group.group-index c.args.order.now)
    (get_or c.args.order.now c.loop-group.group-index 0)
    (c.requires.order.in_order c.loop-group.group-index c.loop-group-test.true).ready

pub one_longer-chain-requires-clause-target : goal.one_longer-chain-requires-clause-target
one_longer-chain-requires-clause-target c =
    let g : ℕ = get_or c.args.order.now c.loop-group.group-index 0 in
    subst (λ (cs : List Chain). IfSome (target_at c.args.excepted.now g)
    (λ h. (h < length c.args.excepted.now) × ((chain_at cs h).length ≤ longest_chain))) (sym c.deref.ensures.value)
    (target_fits c.args.excepted.now (take c.loop-group.group-index c.args.order.now) c.loop-group.chains.items g
    (target_at c.args.excepted.now g) c.requires.items c.loop-group.invariant
    (ready_within c.args.excepted.now (take c.loop-group.group-index c.args.order.now) g
    (c.requires.order.in_order c.loop-group.group-index c.loop-group-test.true).ready) refl)

pub returns-then-chain-gt-LONGEST_CHAIN : goal.returns-then-chain-gt-LONGEST_CHAIN
returns-then-chain-gt-LONGEST_CHAIN c =
    let g : ℕ = get_or c.args.order.now c.loop-group.group-index 0 in
    too_long c.args.excepted.now (take c.loop-group.group-index c.args.order.now) c.loop-group.chains.items g
    c.one_longer-chain.result c.loop-group.invariant
    (c.requires.order.in_order c.loop-group.group-index c.loop-group-test.true).ready
    (c.one_longer-chain.ensures
    ∙ ap (λ (cs : List Chain). one_longer cs g (target_at c.args.excepted.now g)) c.deref.ensures.value)
    c.if-chain-gt-LONGEST_CHAIN.true

pub index_mut-requires : goal.index_mut-requires
index_mut-requires c =
    omega (
      arith,
      ready_within c.args.excepted.now (take c.loop-group.group-index c.args.order.now)
          (get_or c.args.order.now c.loop-group.group-index 0)
          (c.requires.order.in_order c.loop-group.group-index c.loop-group-test.true).ready,
      c.loop-group.invariant.counted,
      c.deref.ensures.len,
      ap (λ (cs : List Chain). length cs) c.deref.ensures.value,
    )

pub loop-group-preserved : goal.loop-group-preserved
loop-group-preserved c =
    let g : ℕ = get_or c.args.order.now c.loop-group.group-index 0 in
    subst (λ (ns : List ℕ). AreMeasured c.args.excepted.now ns
    (set c.loop-group.chains.items g c.one_longer-chain.result))
    (sym (take_more c.args.order.now c.loop-group.group-index 0 c.loop-group-test.true))
    (measured_step c.args.excepted.now (take c.loop-group.group-index c.args.order.now) c.loop-group.chains.items g
    c.one_longer-chain.result c.loop-group.invariant
    (c.requires.order.in_order c.loop-group.group-index c.loop-group-test.true).ready
    (c.one_longer-chain.ensures
    ∙ ap (λ (cs : List Chain). one_longer cs g (target_at c.args.excepted.now g)) c.deref.ensures.value)
    c.if-chain-gt-LONGEST_CHAIN.false)

pub returns : goal.returns
returns c =
    all_short c.args.excepted.now c.args.order.now c.loop-group.chains.items
    (subst (λ (ns : List ℕ). AreMeasured c.args.excepted.now ns c.loop-group.chains.items)
    (take_all c.loop-group.group-index c.args.order.now c.loop-group-test.false) c.loop-group.invariant)
    c.requires.order
