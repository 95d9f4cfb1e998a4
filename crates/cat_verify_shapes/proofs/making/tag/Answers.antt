use Rattle.std.proofs.Common.{true, false, subst}
use Rattle.cat_verify_shapes.specs.inside.Making.{IsCaseOf}
use Rattle.cat_verify_shapes.proofs.MakingSteps.{tag_nowhere, tag_empty, tag_unlike, tag_so}
use Rattle.cat_verify_shapes.proofs.StepLemmas.{takes_as}
use Rattle.cat_verify_shapes.proofs.making.tag.Goals as goal

pub returns-in_default : goal.returns-in_default
returns-in_default c =
    let tables = c.args.tables.now in
    let forms = c.args.forms.now in
    let p = c.args.place in
    let s = c.args.shape in
    tag_nowhere tables forms p s c.args.case (subst (IsCaseOf tables forms c.args.case) c.in_default.is
    c.in_ok-case.ensures)

pub returns-in_default-content : goal.returns-in_default-content
returns-in_default-content c =
    let tables = c.args.tables.now in
    let forms = c.args.forms.now in
    let p = c.args.place in
    let s = c.args.shape in
    tag_empty tables forms p s c.args.case c.in-Some.case (subst (IsCaseOf tables forms c.args.case) c.in-Some.is
    c.in_ok-case.ensures) c.in_default-content.is

pub returns-then-not-pop_as : goal.returns-then-not-pop_as
returns-then-not-pop_as c =
    let tables = c.args.tables.now in
    let forms = c.args.forms.now in
    let p = c.args.place in
    let s = c.args.shape in
    tag_unlike tables forms p s c.pop_as.new.shape c.args.case c.in-Some-content.content c.in-Some.case (subst
    (IsCaseOf tables forms c.args.case) c.in-Some.is c.in_ok-case.ensures) c.in-Some-content.is (takes_as s
    c.pop_as.new.shape c.in-Some-content.content c.pop_as.result false c.pop_as.ensures c.if-not-pop_as.true)

pub returns : goal.returns
returns c =
    let tables = c.args.tables.now in
    let forms = c.args.forms.now in
    let p = c.args.place in
    let s = c.args.shape in
    tag_so tables forms p s c.pop_as.new.shape c.args.case c.in-Some-content.content c.in-Some.case
    c.in_ok-push.field-0 (subst (IsCaseOf tables forms c.args.case) c.in-Some.is c.in_ok-case.ensures)
    c.in-Some-content.is (takes_as s c.pop_as.new.shape c.in-Some-content.content c.pop_as.result true
    c.pop_as.ensures c.if-not-pop_as.false) c.in_ok-push.ensures
