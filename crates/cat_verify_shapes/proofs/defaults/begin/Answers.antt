use Rattle.std.proofs.Common.{Some, None, refl, false}
use Rattle.cat_verify_shapes.specs.inside.Taking.{target_at}
use Rattle.cat_verify_shapes.proofs.StepLemmas.{stands_as}
use Rattle.cat_verify_shapes.proofs.DefaultSteps.{begin_nowhere, begin_so}
use Rattle.cat_verify_shapes.proofs.defaults.begin.Goals as goal

pub returns-in_default : goal.returns-in_default
returns-in_default c =
    let tables = c.args.tables.now in
    let forms = c.args.forms.now in
    let p = c.args.place in
    let s = c.args.shape in
    begin_nowhere tables forms p s c.args.target
    (stands_as tables forms c.in_ok-holds.field-0 None (target_at tables c.args.target)
    c.in_ok-holds.ensures c.in_default.is)

pub returns : goal.returns
returns c =
    let tables = c.args.tables.now in
    let forms = c.args.forms.now in
    let p = c.args.place in
    let s = c.args.shape in
    begin_so tables forms p s c.args.target c.in-Some.holds
    (record { begun = p; holds = c.in-Some.holds; checked = false }) c.in_ok-with_frame.field-0
    (stands_as tables forms c.in_ok-holds.field-0 (Some c.in-Some.holds) (target_at tables c.args.target)
    c.in_ok-holds.ensures c.in-Some.is)
    refl refl c.in_ok-with_frame.ensures
