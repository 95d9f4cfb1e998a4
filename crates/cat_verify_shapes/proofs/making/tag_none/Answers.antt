use Rattle.std.proofs.Common.{sym, subst, ◌∙◌}
use Rattle.cat_verify_shapes.specs.inside.Making.{IsCaseOf}
use Rattle.cat_verify_shapes.proofs.MakingSteps.{tag_none_nowhere, tag_none_full, tag_none_so}
use Rattle.cat_verify_shapes.proofs.StepLemmas.{none_where_some, none_where_not}
use Rattle.cat_verify_shapes.proofs.making.tag_none.Goals as goal

pub returns-in_default : goal.returns-in_default
returns-in_default c =
    let tables = c.args.tables.now in
    let forms = c.args.forms.now in
    let p = c.args.place in
    let s = c.args.shape in
    tag_none_nowhere tables forms p s c.args.case (subst (IsCaseOf tables forms c.args.case) c.in_default.is
    c.in_ok-case.ensures)

pub returns-then-is_some : goal.returns-then-is_some
returns-then-is_some c =
    let tables = c.args.tables.now in
    let forms = c.args.forms.now in
    let p = c.args.place in
    let s = c.args.shape in
    tag_none_full tables forms p s c.args.case c.in-Some.case (subst (IsCaseOf tables forms c.args.case)
    c.in-Some.is c.in_ok-case.ensures) (none_where_some c.in-Some.case.content (sym c.is_some.ensures ∙
    c.if-is_some.true))

pub returns : goal.returns
returns c =
    let tables = c.args.tables.now in
    let forms = c.args.forms.now in
    let p = c.args.place in
    let s = c.args.shape in
    tag_none_so tables forms p s c.args.case c.in-Some.case c.in_ok-push.field-0 (subst (IsCaseOf tables forms
    c.args.case) c.in-Some.is c.in_ok-case.ensures) (none_where_not c.in-Some.case.content (sym c.is_some.ensures ∙
    c.if-is_some.false)) c.in_ok-push.ensures
