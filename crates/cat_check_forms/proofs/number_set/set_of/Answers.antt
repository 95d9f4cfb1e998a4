use Rattle.std.proofs.Common.{rules, ◌∙◌, ◌<◌, ◌&&◌, Bool, length, get_or, sym, ap}
use Rattle.cat_check_forms.proofs.AllThere.{set_more, fresh_more, same_entry}
use Rattle.cat_check_forms.proofs.number_set.set_of.Goals as goal

pub loop-number-preserved-then-branch : goal.loop-number-preserved-then-branch
loop-number-preserved-then-branch c =
    let number = get_or c.args.numbers.now c.loop-number.number-index 0 in
    let within : c.loop-number.number-index < length c.args.numbers.now = search rules in
    let is = same_entry c.args.numbers.now c.loop-number.number-index 0 within in (
      set_more c.args.numbers.now c.loop-number.number-index number c.loop-number.set c.add.new.self within is
          c.loop-number.invariant.0 c.in_ok-add.ensures.added,
      sym (fresh_more c.args.numbers.now c.loop-number.number-index number c.loop-number.set c.loop-number.differ
          within is c.loop-number.invariant.0 c.loop-number.invariant.1
          ∙ ap (λ (b : Bool). b && c.loop-number.differ) (sym c.in_ok-add.ensures.fresh ∙ c.if-branch.true)),
    )

pub loop-number-preserved : goal.loop-number-preserved
loop-number-preserved c =
    let number = get_or c.args.numbers.now c.loop-number.number-index 0 in
    let within : c.loop-number.number-index < length c.args.numbers.now = search rules in
    let is = same_entry c.args.numbers.now c.loop-number.number-index 0 within in (
      set_more c.args.numbers.now c.loop-number.number-index number c.loop-number.set c.add.new.self within is
          c.loop-number.invariant.0 c.in_ok-add.ensures.added,
      sym (fresh_more c.args.numbers.now c.loop-number.number-index number c.loop-number.set c.loop-number.differ
          within is c.loop-number.invariant.0 c.loop-number.invariant.1
          ∙ ap (λ (b : Bool). b && c.loop-number.differ) (sym c.in_ok-add.ensures.fresh ∙ c.if-branch.false)),
    )
