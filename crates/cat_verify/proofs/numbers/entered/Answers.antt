use Rattle.std.proofs.Common.{rules, ◌≡◌, ◌∙◌, ap, Bool, false, List, length, replicate}
use Rattle.std.proofs.lemmas.List.{with_items_is}
use Rattle.cat_code.specs.Valid.{places_entered}
use Rattle.cat_verify.specs.inside.Marks.{marked}
use Rattle.cat_verify.proofs.numbers.entered.Goals as goal

pub returns : goal.returns
returns c =
    let items : c.in_ok-marks.marks.items ≡ replicate (length c.args.code.now) false = search rules in
    with_items_is c.in_ok-marks.marks c.mark_entered.new.marks (c.mark_entered.auto.marks ∙ c.deref_mut.ensures.len)
    ∙ c.mark_entered.ensures
    ∙ ap (λ (ms : List Bool). marked ms (places_entered c.args.tables.now c.args.code.now))
    (c.deref_mut.ensures.value ∙ items)
