use Rattle.std.proofs.Common.{rules, ◌+◌, List, [], None, drop, ap}
use Rattle.std.proofs.lemmas.List.{drop_all}
use Rattle.cat_scope.specs.declared.defs.Assertion.{Assertion}
use Rattle.cat_code.specs.declared.instr.Instr.TheVariants as instr
use Rattle.cat_lower.specs.Laying.{Coded, with_position}
use Rattle.cat_lower.specs.Expressions.{lowered}
use Rattle.cat_lower.specs.Lowered.{assertions_code}
use Rattle.cat_lower.specs.Told.{standing_at}
use Rattle.cat_lower.proofs.Rests.{next, end_on}
use Rattle.cat_lower.proofs.Regrouped.{step_in_two}
use Rattle.cat_lower.proofs.scopes.emit_assertions.Goals as goal

pub loop-assertion-preserved : goal.loop-assertion-preserved
loop-assertion-preserved c =
    let here = standing_at c.args.here.now in
    let all : List Assertion = c.args.assertions.now in
    let i = c.loop-assertion.assertion-index in
    let item = c.assertion-item.result in
    let test : Coded = (lowered here item.condition).code [] None in
    let assert : Coded = with_position (λ p. instr.Assert p) item.keyword in
    let left =
    next all c.as_slice-assertion-items.result.now i item c.as_slice-assertion-items.ensures
    c.loop-assertion-test.true c.assertion-item.is in
    λ new. step_in_two _ _ _ new _ test assert (assertions_code here (drop (i + 1) all)) _
    (ap (λ (rest : List Assertion). assertions_code here rest) left)
    c.loop-assertion.invariant c.in_ok-emit_assertion.ensures

pub returns : goal.returns
returns c =
    end_on _ _ _ _
    (ap (λ (all : List Assertion). assertions_code (standing_at c.args.here.now) all)
    (drop_all c.loop-assertion.assertion-index c.args.assertions.now (search rules))) c.loop-assertion.invariant
