use Rattle.std.proofs.Common.{rules, ◌≡◌, ◌∙◌, ◌-◌, ap, get_or, List}
use Rattle.cat_machine.specs.declared.machine.HeldRef.{HeldRef}
use Rattle.cat_machine.specs.inside.Outcomes.{place_among}
use Rattle.cat_machine.proofs.Sorting.{one_sorted}
use Rattle.cat_machine.proofs.ending.by_number.Goals as goal

pub loop-at-preserved : goal.loop-at-preserved
loop-at-preserved c =
    let same : c.deref.result.now ≡ c.loop-at.sorted.items = search rules in
    one_sorted c.args.held.now c.loop-at.sorted.items c.insert.new.self.items c.loop-at.at c.place_among-place.result
    (record { definition = 0; value = 0 }) c.loop-at-test.true
    (c.place_among-place.ensures.place
    ∙ ap (λ (l : List HeldRef). place_among (get_or c.args.held.now (c.loop-at.at - 1)
    (record { definition = 0; value = 0 })) l) same)
    c.in_ok-insert.ensures.items c.loop-at.invariant
