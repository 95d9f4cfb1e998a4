use Rattle.std.proofs.Common.{sym, ap, subst, replicate, arith, Bool, ◌∙◌}
use Rattle.std.specs.Option.{option_copied}
use Rattle.cat_verify_shapes.specs.inside.Taking.{TakesAll}
use Rattle.cat_verify_shapes.proofs.MakingSteps.{list_nothing, list_zero, list_unlike, list_so}
use Rattle.cat_verify_shapes.proofs.OperandLemmas.{top_none, top_some}
use Rattle.cat_verify_shapes.proofs.making.list.Goals as goal

pub returns-in_default : goal.returns-in_default
returns-in_default c =
    let tables = c.args.tables.now in
    let forms = c.args.forms.now in
    let p = c.args.place in
    let s = c.args.shape in
    list_nothing tables forms p s c.args.count (top_none s.operands (sym (ap option_copied c.in_default.is) ∙
    c.top.ensures))

pub returns-then-count-eq0 : goal.returns-then-count-eq0
returns-then-count-eq0 c =
    let tables = c.args.tables.now in
    let forms = c.args.forms.now in
    let p = c.args.place in
    let s = c.args.shape in
    list_zero tables forms p s c.args.count c.if-count-eq0.true

pub returns-then-not-pop_same : goal.returns-then-not-pop_same
returns-then-not-pop_same c =
    let tables = c.args.tables.now in
    let forms = c.args.forms.now in
    let p = c.args.place in
    let s = c.args.shape in
    let on_top = top_some s.operands c.in-Some.field-0.now (sym (ap option_copied c.in-Some.is) ∙ c.top.ensures) in
    list_unlike tables forms p s c.pop_same.new.shape c.args.count c.in-Some.field-0.now on_top.0 on_top.1 (omega
    (arith, c.if-count-eq0.false))
    (subst (λ (so : Bool). TakesAll s c.pop_same.new.shape (replicate c.args.count c.in-Some.field-0.now) so)
    c.if-not-pop_same.true c.pop_same.ensures)

pub returns : goal.returns
returns c =
    let tables = c.args.tables.now in
    let forms = c.args.forms.now in
    let p = c.args.place in
    let s = c.args.shape in
    list_so tables forms p s c.pop_same.new.shape c.args.count c.in-Some.field-0.now c.in_ok-form.form
    c.in_ok-push.field-0 (omega (arith, c.if-count-eq0.false))
    (subst (λ (so : Bool). TakesAll s c.pop_same.new.shape (replicate c.args.count c.in-Some.field-0.now) so)
    c.if-not-pop_same.false c.pop_same.ensures)
    c.in_ok-form.ensures c.in_ok-push.ensures
