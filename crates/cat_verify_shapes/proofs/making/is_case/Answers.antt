use Rattle.std.proofs.Common.{true, false, rules}
use Rattle.cat_verify_shapes.proofs.MakingSteps.{is_case_nowhere, is_case_unlike, is_case_so}
use Rattle.cat_verify_shapes.proofs.StepLemmas.{takes_as}
use Rattle.cat_verify_shapes.proofs.making.is_case.Goals as goal

pub returns-in_default : goal.returns-in_default
returns-in_default c =
    let tables = c.args.tables.now in
    let forms = c.args.forms.now in
    let p = c.args.place in
    let s = c.args.shape in
    is_case_nowhere tables forms p s c.args.case (search rules)

pub returns-then-not-pop_as : goal.returns-then-not-pop_as
returns-then-not-pop_as c =
    let tables = c.args.tables.now in
    let forms = c.args.forms.now in
    let p = c.args.place in
    let s = c.args.shape in
    is_case_unlike tables forms p s c.pop_as.new.shape c.args.case c.in_ok-whole.whole c.in-Some.case.now (search
    rules) c.in_ok-whole.ensures (takes_as s c.pop_as.new.shape c.in_ok-whole.whole c.pop_as.result false
    c.pop_as.ensures c.if-not-pop_as.true)

pub returns : goal.returns
returns c =
    let tables = c.args.tables.now in
    let forms = c.args.forms.now in
    let p = c.args.place in
    let s = c.args.shape in
    is_case_so tables forms p s c.pop_as.new.shape c.args.case c.in_ok-whole.whole c.in_ok-truth.truth
    c.in-Some.case.now c.in_ok-push.field-0 (search rules) c.in_ok-whole.ensures (takes_as s c.pop_as.new.shape
    c.in_ok-whole.whole c.pop_as.result true c.pop_as.ensures c.if-not-pop_as.false) c.in_ok-truth.ensures
    c.in_ok-push.ensures
