use Rattle.std.proofs.Common.{rules, ◌≡◌, ◌∙◌, length, get_or, sym, arith}
use Rattle.std.proofs.lemmas.List.{get_or_default, length-set}
use Rattle.cat_order.specs.Order.{dependencies_of}
use Rattle.cat_depend.specs.inside.Chains.{longest_of}
use Rattle.cat_depend.proofs.Measured as measured
use Rattle.cat_depend.proofs.chains.past_longest.Goals as goal

pub longest-rest-requires : goal.longest-rest-requires
longest-rest-requires c =
    let deps : c.as_slice.result.now ≡ dependencies_of c.args.deps.now
    (get_or c.args.order.now c.loop-number.number-index 0) = search (rules, get_or_default) in
    rw (deps, c.deref.ensures.value) (measured.dependencies_within c.args.deps.now c.args.order.now c.requires
    c.loop-number.number-index c.loop-number.lengths.items c.loop-number.invariant.counted c.loop-number.invariant.low
    c.loop-number.invariant.known c.loop-number-test.true)

pub returns-then-rest-eq-LONGEST_CHAIN : goal.returns-then-rest-eq-LONGEST_CHAIN
returns-then-rest-eq-LONGEST_CHAIN c =
    let rest : c.longest-rest.result ≡ longest_of c.loop-number.lengths.items (dependencies_of c.args.deps.now
    (get_or c.args.order.now c.loop-number.number-index 0)) = search (rules, get_or_default) in
    measured.is_past c.args.deps.now c.args.order.now c.requires
    c.loop-number.number-index c.loop-number.lengths.items c.loop-number.invariant.counted c.loop-number.invariant.low
    c.loop-number.invariant.known c.loop-number-test.true (sym rest ∙ c.if-rest-eq-LONGEST_CHAIN.true)

pub overflow_add-rest : goal.overflow_add-rest
overflow_add-rest c =
    let rest : c.longest-rest.result ≡ longest_of c.loop-number.lengths.items (dependencies_of c.args.deps.now
    (get_or c.args.order.now c.loop-number.number-index 0)) = search (rules, get_or_default) in
    let low = measured.low_rest c.args.deps.now c.args.order.now c.requires c.loop-number.number-index
    c.loop-number.lengths.items c.loop-number.invariant.counted c.loop-number.invariant.low
    c.loop-number.invariant.known in
    omega (arith, rest, low)

pub loop-number-preserved : goal.loop-number-preserved
loop-number-preserved c =
    let rest : c.longest-rest.result ≡ longest_of c.loop-number.lengths.items (dependencies_of c.args.deps.now
    (get_or c.args.order.now c.loop-number.number-index 0)) = search (rules, get_or_default) in
    let low = measured.low_rest c.args.deps.now c.args.order.now c.requires c.loop-number.number-index
    c.loop-number.lengths.items c.loop-number.invariant.counted c.loop-number.invariant.low
    c.loop-number.invariant.known in
    rw rest (record {
      counted = length-set c.loop-number.lengths.items _ _ ∙ c.loop-number.invariant.counted;
      low = measured.low_next c.args.deps.now c.args.order.now c.requires
          c.loop-number.number-index c.loop-number.lengths.items c.loop-number.invariant.counted
          c.loop-number.invariant.low c.loop-number.invariant.known
          (omega (arith, rest, low, c.if-rest-eq-LONGEST_CHAIN.false));
      known = measured.known_next c.args.deps.now c.args.order.now c.requires
          c.loop-number.number-index c.loop-number.lengths.items c.loop-number.invariant.counted
          c.loop-number.invariant.low c.loop-number.invariant.known c.loop-number-test.true;
    })

pub returns : goal.returns
returns c = measured.all_short c.args.deps.now c.args.order.now c.requires c.loop-number.number-index
    c.loop-number.lengths.items c.loop-number.invariant.counted c.loop-number.invariant.low
    c.loop-number.invariant.known (omega (arith, c.loop-number-test.false))
