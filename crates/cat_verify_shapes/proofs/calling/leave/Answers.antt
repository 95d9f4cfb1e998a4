use Rattle.std.proofs.Common.{None, Some, false, sym, true, ◌∙◌}
use Rattle.cat_code.specs.Told.{result_form}
use Rattle.cat_verify_shapes.specs.Owned.{owner_of}
use Rattle.cat_verify_shapes.proofs.StepLemmas.{stands_as, takes_as}
use Rattle.cat_verify_shapes.proofs.CallSteps.{return_nothing, return_unlike, return_open, return_so}
use Rattle.cat_verify_shapes.proofs.calling.leave.Goals as goal

pub returns-in_default : goal.returns-in_default
returns-in_default c =
    let tables = c.args.tables.now in
    let forms = c.args.forms.now in
    let p = c.args.place in
    let s = c.args.shape in
    return_nothing tables forms p s (stands_as tables forms c.in_ok-result.field-0 None (result_form tables
    (owner_of s.owner)) c.in_ok-result.ensures c.in_default.is)

pub returns-then-not-pop_as : goal.returns-then-not-pop_as
returns-then-not-pop_as c =
    let tables = c.args.tables.now in
    let forms = c.args.forms.now in
    let p = c.args.place in
    let s = c.args.shape in
    return_unlike tables forms p s c.pop_as.new.shape c.in-Some.result (stands_as tables forms
    c.in_ok-result.field-0 (Some c.in-Some.result) (result_form tables (owner_of s.owner))
    c.in_ok-result.ensures c.in-Some.is)
    (takes_as s c.pop_as.new.shape c.in-Some.result c.pop_as.result false c.pop_as.ensures c.if-not-pop_as.true)

pub returns-then-not-is_bare : goal.returns-then-not-is_bare
returns-then-not-is_bare c =
    let tables = c.args.tables.now in
    let forms = c.args.forms.now in
    let p = c.args.place in
    let s = c.args.shape in
    return_open tables forms p s c.pop_as.new.shape c.in-Some.result (stands_as tables forms
    c.in_ok-result.field-0 (Some c.in-Some.result) (result_form tables (owner_of s.owner))
    c.in_ok-result.ensures c.in-Some.is)
    (takes_as s c.pop_as.new.shape c.in-Some.result c.pop_as.result true c.pop_as.ensures c.if-not-pop_as.false)
    (sym c.is_bare.ensures ∙ c.if-not-is_bare.true)

pub returns : goal.returns
returns c =
    let tables = c.args.tables.now in
    let forms = c.args.forms.now in
    let p = c.args.place in
    let s = c.args.shape in
    return_so tables forms p s c.pop_as.new.shape c.in-Some.result (stands_as tables forms
    c.in_ok-result.field-0 (Some c.in-Some.result) (result_form tables (owner_of s.owner))
    c.in_ok-result.ensures c.in-Some.is)
    (takes_as s c.pop_as.new.shape c.in-Some.result c.pop_as.result true c.pop_as.ensures c.if-not-pop_as.false)
    (sym c.is_bare.ensures ∙ c.if-not-is_bare.false)
