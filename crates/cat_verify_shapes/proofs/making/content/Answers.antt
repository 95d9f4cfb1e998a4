use Rattle.std.proofs.Common.{true, false, sym, ap, subst, slice_get, ◌∙◌, ℕ}
use Rattle.cat_code.specs.Told.{case_asked}
use Rattle.cat_verify_shapes.specs.inside.Making.{IsCaseOf}
use Rattle.cat_verify_shapes.proofs.MakingSteps.{content_unasked, content_nowhere, content_empty, content_unlike}
use Rattle.cat_verify_shapes.proofs.MakingSteps.{content_so}
use Rattle.cat_verify_shapes.proofs.StepLemmas.{takes_as}
use Rattle.cat_verify_shapes.proofs.making.content.Goals as goal

pub returns-in_default : goal.returns-in_default
returns-in_default c =
    let tables = c.args.tables.now in
    let forms = c.args.forms.now in
    let p = c.args.place in
    let s = c.args.shape in
    let code = c.args.code.now in
    let asked = ap (λ (n : ℕ). case_asked (slice_get code n)) (sym c.saturating_sub.ensures) in
    content_unasked tables forms p code s (asked ∙ sym c.in_default.ensures)

pub returns-in_default-2 : goal.returns-in_default-2
returns-in_default-2 c =
    let tables = c.args.tables.now in
    let forms = c.args.forms.now in
    let p = c.args.place in
    let s = c.args.shape in
    let code = c.args.code.now in
    let asked = ap (λ (n : ℕ). case_asked (slice_get code n)) (sym c.saturating_sub.ensures) in
    content_nowhere tables forms p code s c.in-Some.case (asked ∙ sym c.in-Some.ensures) (subst (IsCaseOf tables
    forms c.in-Some.case) c.in_default-2.is c.in_ok-case.ensures)

pub returns-in_default-content : goal.returns-in_default-content
returns-in_default-content c =
    let tables = c.args.tables.now in
    let forms = c.args.forms.now in
    let p = c.args.place in
    let s = c.args.shape in
    let code = c.args.code.now in
    let asked = ap (λ (n : ℕ). case_asked (slice_get code n)) (sym c.saturating_sub.ensures) in
    content_empty tables forms p code s c.in-Some.case c.in-Some-2.case (asked ∙ sym c.in-Some.ensures) (subst
    (IsCaseOf tables forms c.in-Some.case) c.in-Some-2.is c.in_ok-case.ensures) c.in_default-content.is

pub returns-then-not-pop_as : goal.returns-then-not-pop_as
returns-then-not-pop_as c =
    let tables = c.args.tables.now in
    let forms = c.args.forms.now in
    let p = c.args.place in
    let s = c.args.shape in
    let code = c.args.code.now in
    let asked = ap (λ (n : ℕ). case_asked (slice_get code n)) (sym c.saturating_sub.ensures) in
    content_unlike tables forms p code s c.pop_as.new.shape c.in-Some.case c.in-Some-content.content
    c.in-Some-2.case (asked ∙ sym c.in-Some.ensures) (subst (IsCaseOf tables forms c.in-Some.case) c.in-Some-2.is
    c.in_ok-case.ensures) c.in-Some-content.is (takes_as s c.pop_as.new.shape c.in-Some-2.case.whole
    c.pop_as.result false c.pop_as.ensures c.if-not-pop_as.true)

pub returns : goal.returns
returns c =
    let tables = c.args.tables.now in
    let forms = c.args.forms.now in
    let p = c.args.place in
    let s = c.args.shape in
    let code = c.args.code.now in
    let asked = ap (λ (n : ℕ). case_asked (slice_get code n)) (sym c.saturating_sub.ensures) in
    content_so tables forms p code s c.pop_as.new.shape c.in-Some.case c.in-Some-content.content c.in-Some-2.case
    c.in_ok-push.field-0 (asked ∙ sym c.in-Some.ensures) (subst (IsCaseOf tables forms c.in-Some.case)
    c.in-Some-2.is c.in_ok-case.ensures) c.in-Some-content.is (takes_as s c.pop_as.new.shape c.in-Some-2.case.whole
    c.pop_as.result true c.pop_as.ensures c.if-not-pop_as.false) c.in_ok-push.ensures
