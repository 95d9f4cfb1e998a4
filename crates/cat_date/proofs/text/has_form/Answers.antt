use Rattle.std.proofs.Common.{◌∙◌, sym, arith}
use Rattle.cat_date.proofs.TextLemmas.{form_other, form_same, other_length}
use Rattle.cat_date.proofs.text.has_form.Goals as goal

pub returns-then-text-form : goal.returns-then-text-form
returns-then-text-form c = sym (other_length c.args.text.now c.args.form.now c.if-text-form.true)

pub returns-then-zeroed-form : goal.returns-then-zeroed-form
returns-then-zeroed-form c =
    sym (form_other c.args.text.now c.args.form.now c.loop-i.i _ c.loop-i-test.true (omega arith) c.zeroed.ensures
    c.if-zeroed-form.true) ∙ c.loop-i.invariant

pub loop-i-preserved : goal.loop-i-preserved
loop-i-preserved c =
    form_same c.args.text.now c.args.form.now c.loop-i.i _ c.loop-i-test.true (omega arith) c.zeroed.ensures
    c.if-zeroed-form.false ∙ c.loop-i.invariant
