use Rattle.std.proofs.Common.{◌∙◌, Err, drop, sym, ap, rules, refl, arith}
use Rattle.std.proofs.lemmas.Result.{err_from_is_err_and}
use Rattle.cat_parse_expr.specs.Cases as cased
use Rattle.cat_parse_expr.specs.Arms as arms
use Rattle.cat_parse_expr.specs.Parts as parts
use Rattle.cat_parse_expr.specs.Climbing.{operand}
use Rattle.cat_parse_expr.proofs.Common.{step_by, operated, selected, tested, follow_at, behind_whole, nothing}
use Rattle.cat_parse_expr.proofs.Common.{Gives, Follow}
use Rattle.cat_parse_expr.proofs.Rooms.{same_given, without_room, first_broken, climbed}
use Rattle.cat_parse_expr.proofs.Turns.{begun, further, smaller, last, refused, no_arm}
use Rattle.cat_parse_expr.proofs.+climbing.Goals as goal

-- ---- loops

pub climbing::climb-loop-alloc-init : goal.climbing::climb-loop-alloc-init
climbing::climb-loop-alloc-init t c = record { stands = begun c.requires.place; low = c.requires.first }

pub climbing::climb-loop-alloc-preserved : goal.climbing::climb-loop-alloc-preserved
climbing::climb-loop-alloc-preserved t c =
    let more = c.in_ok-further.ensures in record {
      stands =
          further c.loop-alloc.invariant.stands (sym c.goes_on.ensures ∙ c.loop-alloc-test.true) more.further
          more.gives;
      low = more.low;
    }

pub climbing::climb-loop-alloc-smaller : goal.climbing::climb-loop-alloc-smaller
climbing::climb-loop-alloc-smaller t c = smaller _ _ _ c.in_ok-further.ensures.further c.in_ok-further.ensures.gives.2

pub climbing::climb-returns : goal.climbing::climb-returns
climbing::climb-returns t c =
    let l = c.loop-alloc.invariant in
    record { gives = last l.stands (sym c.goes_on.ensures ∙ c.loop-alloc-test.false); low = l.low }

pub climbing::climb-returns-in_err-further-clause-gives : goal.climbing::climb-returns-in_err-further-clause-gives
climbing::climb-returns-in_err-further-clause-gives t c =
    let p = err_from_is_err_and c.from_residual.result c.from_residual.ensures.1 in
    rw (p.1, p.2)
    (refused c.in_err-further.field-0.0 c.loop-alloc.invariant.stands (sym c.goes_on.ensures ∙ c.loop-alloc-test.true)
    c.in_err-further.ensures.gives (λ x. refl))

pub listed::next_elements-loop-alloc-init : goal.listed::next_elements-loop-alloc-init
listed::next_elements-loop-alloc-init t c = record { stands = begun c.requires.place; low = c.requires.first }

pub listed::next_elements-loop-alloc-preserved : goal.listed::next_elements-loop-alloc-preserved
listed::next_elements-loop-alloc-preserved t c =
    let more = c.in_ok-more.ensures in record {
      stands =
          further c.loop-alloc.invariant.stands (sym c.is_next.ensures ∙ c.loop-alloc-test.true) more.further
          more.gives;
      low = more.low;
    }

pub listed::next_elements-loop-alloc-smaller : goal.listed::next_elements-loop-alloc-smaller
listed::next_elements-loop-alloc-smaller t c = smaller _ _ _ c.in_ok-more.ensures.further c.in_ok-more.ensures.gives.2

pub listed::next_elements-returns : goal.listed::next_elements-returns
listed::next_elements-returns t c =
    let l = c.loop-alloc.invariant in
    record { gives = last l.stands (sym c.is_next.ensures ∙ c.loop-alloc-test.false); low = l.low }

pub listed::next_elements-returns-in_err-more-clause-gives : goal.listed::next_elements-returns-in_err-more-clause-gives
listed::next_elements-returns-in_err-more-clause-gives t c =
    let p = err_from_is_err_and c.from_residual.result c.from_residual.ensures.1 in
    rw (p.1, p.2)
    (refused c.in_err-more.field-0.0 c.loop-alloc.invariant.stands (sym c.is_next.ensures ∙ c.loop-alloc-test.true)
    c.in_err-more.ensures.gives (λ x. refl))

pub listed::next_arguments-loop-alloc-init : goal.listed::next_arguments-loop-alloc-init
listed::next_arguments-loop-alloc-init t c = record { stands = begun c.requires.place; low = c.requires.first }

pub listed::next_arguments-loop-alloc-preserved : goal.listed::next_arguments-loop-alloc-preserved
listed::next_arguments-loop-alloc-preserved t c =
    let more = c.in_ok-more.ensures in record {
      stands =
          further c.loop-alloc.invariant.stands (sym c.is_next.ensures ∙ c.loop-alloc-test.true) more.further
          more.gives;
      low = more.low;
    }

pub listed::next_arguments-loop-alloc-smaller : goal.listed::next_arguments-loop-alloc-smaller
listed::next_arguments-loop-alloc-smaller t c = smaller _ _ _ c.in_ok-more.ensures.further c.in_ok-more.ensures.gives.2

pub listed::next_arguments-returns : goal.listed::next_arguments-returns
listed::next_arguments-returns t c =
    let l = c.loop-alloc.invariant in
    record { gives = last l.stands (sym c.is_next.ensures ∙ c.loop-alloc-test.false); low = l.low }

pub listed::next_arguments-returns-in_err-more-clause-gives :
    goal.listed::next_arguments-returns-in_err-more-clause-gives
listed::next_arguments-returns-in_err-more-clause-gives t c =
    let p = err_from_is_err_and c.from_residual.result c.from_residual.ensures.1 in
    rw (p.1, p.2)
    (refused c.in_err-more.field-0.0 c.loop-alloc.invariant.stands (sym c.is_next.ensures ∙ c.loop-alloc-test.true)
    c.in_err-more.ensures.gives (λ x. refl))

pub listed::fields-loop-alloc-init : goal.listed::fields-loop-alloc-init
listed::fields-loop-alloc-init t c = record { stands = begun c.requires.place; low = c.requires.first }

pub listed::fields-loop-alloc-preserved : goal.listed::fields-loop-alloc-preserved
listed::fields-loop-alloc-preserved t c =
    let more = c.in_ok-more.ensures in record {
      stands =
          further c.loop-alloc.invariant.stands (sym c.is_next.ensures ∙ c.loop-alloc-test.true) more.further
          more.gives;
      low = more.low;
    }

pub listed::fields-loop-alloc-smaller : goal.listed::fields-loop-alloc-smaller
listed::fields-loop-alloc-smaller t c = smaller _ _ _ c.in_ok-more.ensures.further c.in_ok-more.ensures.gives.2

pub listed::fields-returns : goal.listed::fields-returns
listed::fields-returns t c =
    let l = c.loop-alloc.invariant in
    record { gives = last l.stands (sym c.is_next.ensures ∙ c.loop-alloc-test.false); low = l.low }

pub listed::fields-returns-in_err-more-clause-gives : goal.listed::fields-returns-in_err-more-clause-gives
listed::fields-returns-in_err-more-clause-gives t c =
    let p = err_from_is_err_and c.from_residual.result c.from_residual.ensures.1 in
    rw (p.1, p.2)
    (refused c.in_err-more.field-0.0 c.loop-alloc.invariant.stands (sym c.is_next.ensures ∙ c.loop-alloc-test.true)
    c.in_err-more.ensures.gives (λ x. refl))

pub matches::further_arms-loop-alloc-init : goal.matches::further_arms-loop-alloc-init
matches::further_arms-loop-alloc-init t c = record { stands = begun c.requires.place; low = c.requires.first }

pub matches::further_arms-loop-alloc-preserved : goal.matches::further_arms-loop-alloc-preserved
matches::further_arms-loop-alloc-preserved t c =
    let more = c.in_ok-more.ensures in record {
      stands =
          further c.loop-alloc.invariant.stands (sym c.has_arm.ensures ∙ c.loop-alloc-test.true) more.further
          more.gives;
      low = more.low;
    }

pub matches::further_arms-loop-alloc-smaller : goal.matches::further_arms-loop-alloc-smaller
matches::further_arms-loop-alloc-smaller t c = smaller _ _ _ c.in_ok-more.ensures.further c.in_ok-more.ensures.gives.2

pub matches::further_arms-returns : goal.matches::further_arms-returns
matches::further_arms-returns t c =
    let l = c.loop-alloc.invariant in
    record { gives = last l.stands (sym c.has_arm.ensures ∙ c.loop-alloc-test.false); low = l.low }

pub matches::further_arms-returns-in_err-more-clause-gives : goal.matches::further_arms-returns-in_err-more-clause-gives
matches::further_arms-returns-in_err-more-clause-gives t c =
    let p = err_from_is_err_and c.from_residual.result c.from_residual.ensures.1 in
    rw (p.1, p.2)
    (refused c.in_err-more.field-0.0 c.loop-alloc.invariant.stands (sym c.has_arm.ensures ∙ c.loop-alloc-test.true)
    c.in_err-more.ensures.gives (no_arm c.args.limits.behind))

-- ---- what stands behind something whole

pub listed::inner-returns-clause-gives : goal.listed::inner-returns-clause-gives
listed::inner-returns-clause-gives t c =
    c.hidden.ensures.gives (operand c.args.below c.args.behind 0) c.args.tokens.now c.args.at c.operand.ensures.gives

pub listed::next_argument-returns-clause-gives : goal.listed::next_argument-returns-clause-gives
listed::next_argument-returns-clause-gives t c =
    c.behind_whole.ensures.gives (parts.behind_comma (operand c.args.below) c.args.before) c.args.tokens.now
    c.requires.place
    c.behind_comma.ensures.gives

pub matches::further_arm-returns-clause-gives : goal.matches::further_arm-returns-clause-gives
matches::further_arm-returns-clause-gives t c =
    c.behind_whole.ensures.gives (arms.next_arm (operand c.args.limits.below) c.args.limits.behind c.args.before)
    c.args.tokens.now c.requires.place c.next_arm.ensures.gives

pub cases::case_content-returns-then-is_next-clause-gives : goal.cases::case_content-returns-then-is_next-clause-gives
cases::case_content-returns-then-is_next-clause-gives t c =
    let ex = operand c.args.limits.below in
    let read : Gives (behind_whole (cased.content ex c.args.limits.below c.args.limits.behind c.args.case))
    c.args.tokens.now c.args.at c.behind_whole.result =
    c.behind_whole.ensures.gives (cased.content ex c.args.limits.below c.args.limits.behind c.args.case)
    c.args.tokens.now c.requires c.content.ensures.gives in
    search (rules, read)

pub cases::name-returns-then-is_next-clause-gives : goal.cases::name-returns-then-is_next-clause-gives
cases::name-returns-then-is_next-clause-gives t c =
    let ex = operand c.args.limits.below in
    let read : Gives (behind_whole (cased.called ex c.args.limits.below c.in_ok-name.name)) c.args.tokens.now
    c.in_ok-name.at c.behind_whole.result =
    c.behind_whole.ensures.gives (cased.called ex c.args.limits.below c.in_ok-name.name)
    c.args.tokens.now c.in_ok-name.ensures.gives.2 c.called.ensures.gives in
    search (rules, read)

pub cases::case-returns-then-is_next-clause-gives : goal.cases::case-returns-then-is_next-clause-gives
cases::case-returns-then-is_next-clause-gives t c =
    let ex = operand c.args.limits.below in
    let read : Gives (behind_whole
    (cased.dotted ex c.args.limits.below c.args.limits.behind c.args.limits.level c.in_ok-name.name))
    c.args.tokens.now c.in_ok-name.at c.behind_whole.result =
    c.behind_whole.ensures.gives
    (cased.dotted ex c.args.limits.below c.args.limits.behind c.args.limits.level c.in_ok-name.name)
    c.args.tokens.now c.in_ok-name.ensures.gives.2 c.dotted.ensures.gives in
    search (rules, read)

pub cases::case-returns-then-is_next-2-clause-gives : goal.cases::case-returns-then-is_next-2-clause-gives
cases::case-returns-then-is_next-2-clause-gives t c =
    let ex = operand c.args.limits.below in
    let read : Gives (behind_whole (cased.structure ex c.args.limits.below c.in_ok-name.name)) c.args.tokens.now
    c.in_ok-name.at c.behind_whole-then-is_next-2.result =
    c.behind_whole-then-is_next-2.ensures.gives (cased.structure ex c.args.limits.below c.in_ok-name.name)
    c.args.tokens.now c.in_ok-name.ensures.gives.2 c.structure.ensures.gives in
    search (rules, read)

pub steps::step-returns-in-Operated-clause-gives : goal.steps::step-returns-in-Operated-clause-gives
steps::step-returns-in-Operated-clause-gives t c =
    let below = c.args.limits.below in
    let ts = drop c.args.at c.args.tokens.now in
    let by = step_by (operand below) below c.args.limits.behind c.args.left in
    c.behind_whole.ensures.gives (λ us. by (follow_at us) us) c.args.tokens.now c.requires
    (same_given (operated (operand below) below c.args.limits.behind c.args.left c.in-Operated.operator)
    (λ us. by (follow_at us) us) c.args.tokens.now c.args.at
    c.operated.result (ap (λ (f : Follow). by f ts) (sym c.follow_at.ensures ∙ c.in-Operated.is))
    c.operated.ensures.gives)

pub steps::step-returns-in-Dotted-clause-gives : goal.steps::step-returns-in-Dotted-clause-gives
steps::step-returns-in-Dotted-clause-gives t c =
    let below = c.args.limits.below in
    let ts = drop c.args.at c.args.tokens.now in
    let by = step_by (operand below) below c.args.limits.behind c.args.left in
    c.behind_whole-in-Dotted.ensures.gives (λ us. by (follow_at us) us) c.args.tokens.now c.requires
    (same_given (selected (operand below) below c.args.left) (λ us. by (follow_at us) us) c.args.tokens.now c.args.at
    c.selected.result (ap (λ (f : Follow). by f ts) (sym c.follow_at.ensures ∙ c.in-Dotted.is))
    c.selected.ensures.gives)

pub steps::step-returns-in-Tests-clause-gives : goal.steps::step-returns-in-Tests-clause-gives
steps::step-returns-in-Tests-clause-gives t c =
    let below = c.args.limits.below in
    let ts = drop c.args.at c.args.tokens.now in
    let by = step_by (operand below) below c.args.limits.behind c.args.left in
    c.behind_whole-in-Tests.ensures.gives (λ us. by (follow_at us) us) c.args.tokens.now c.requires
    (same_given (tested (operand below) below c.args.left) (λ us. by (follow_at us) us) c.args.tokens.now c.args.at
    c.tested.result (ap (λ (f : Follow). by f ts) (sym c.follow_at.ensures ∙ c.in-Tests.is)) c.tested.ensures.gives)

pub steps::step-returns-in-Other-clause-gives : goal.steps::step-returns-in-Other-clause-gives
steps::step-returns-in-Other-clause-gives t c =
    let below = c.args.limits.below in
    let ts = drop c.args.at c.args.tokens.now in
    let by = step_by (operand below) below c.args.limits.behind c.args.left in
    c.behind_whole-in-Other.ensures.gives (λ us. by (follow_at us) us) c.args.tokens.now c.requires
    (same_given nothing (λ us. by (follow_at us) us) c.args.tokens.now c.args.at
    (Err c.broken_at.result) (ap (λ (f : Follow). by f ts) (sym c.follow_at.ensures ∙ c.in-Other.is)) (search rules))

pub climbing::operand-returns-then-room-eq0-clause-gives : goal.climbing::operand-returns-then-room-eq0-clause-gives
climbing::operand-returns-then-room-eq0-clause-gives t c =
    without_room c.args.room c.args.behind c.args.level c.args.tokens.now c.args.at c.if-room-eq0.true
    c.nothing_at.result
    c.nothing_at.ensures

pub climbing::operand-returns-in_err-first-clause-gives : goal.climbing::operand-returns-in_err-first-clause-gives
climbing::operand-returns-in_err-first-clause-gives t c =
    let p = err_from_is_err_and c.from_residual.result c.from_residual.ensures.1 in
    rw (p.1, p.2)
    (first_broken c.args.room c.args.behind c.args.level c.args.tokens.now c.args.at
    (omega arith) c.in_err-first.field-0.0
    c.in_err-first.ensures.gives)

pub climbing::operand-returns-clause-gives : goal.climbing::operand-returns-clause-gives
climbing::operand-returns-clause-gives t c =
    climbed c.args.room c.args.behind c.args.level c.args.tokens.now c.args.at (omega arith) c.in_ok-first.first
    c.in_ok-first.next c.climb.result c.in_ok-first.ensures.gives c.climb.ensures.gives
