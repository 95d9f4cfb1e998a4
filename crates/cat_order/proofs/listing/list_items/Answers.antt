use Rattle.std.proofs.Common.{◌≡◌, ◌∙◌, ◌<◌, [], ◌∷◌, ◌++◌, length, arith, ap}
use Rattle.std.specs.Ordering.{nat_cmp}
use Rattle.std.specs.BTreeSet.{contains}
use Rattle.std.specs.Vec.{with_items}
use Rattle.std.proofs.lemmas.List.{with_items_is, get_or_default}
use Rattle.std.proofs.lemmas.Map.Keys.{le_from_not_gt}
use Rattle.std.proofs.lemmas.Grind.{common_steps}
use Rattle.cat_order.specs.inside.Steps.{dependents_of, left_out}
use Rattle.cat_order.proofs.Counts.{left_out_more}
use Rattle.cat_order.proofs.Fronts.{Ready}
use Rattle.cat_order.proofs.Stages.{first_stage, next_stage, taken_is_ready, counted}
use Rattle.cat_order.proofs.listing.list_items.Goals as goal

pub loop-item-init : goal.loop-item-init
loop-item-init c = rw c.new-listed.ensures (first_stage c.args.deps.now c.in_ok-unmet.unmet.items
    (λ item. contains nat_cmp c.in_ok-ready.ready item) c.in_ok-unmet.ensures
    (rw c.deref.ensures.value at c.in_ok-ready.ensures))

pub index-requires : goal.index-requires
index-requires c =
    let ready : Ready c.args.deps.now c.loop-item.listed c.in-Some.item = taken_is_ready c.args.deps.now
    c.loop-item.listed c.loop-item.unmet.items (λ item. contains nat_cmp c.loop-item.ready item) c.in-Some.item
    c.loop-item.invariant c.in-Some.ensures.member in
    let one_each : length c.in_ok-dependents.dependents.items ≡ length c.args.deps.now =
    c.in_ok-dependents.ensures.one_each in
    let within : c.in-Some.item < length c.args.deps.now = ready.within in
    grind (arith, common_steps)

pub count_down-requires : goal.count_down-requires
count_down-requires c =
    let ready : Ready c.args.deps.now c.loop-item.listed c.in-Some.item = taken_is_ready c.args.deps.now
    c.loop-item.listed c.loop-item.unmet.items (λ item. contains nat_cmp c.loop-item.ready item) c.in-Some.item
    c.loop-item.invariant c.in-Some.ensures.member in
    let same : c.as_slice.result.now ≡ dependents_of c.in_ok-dependents.dependents.items c.in-Some.item =
    c.as_slice.ensures ∙ (c.index.ensures ∙ get_or_default c.in_ok-dependents.dependents.items c.in-Some.item
    c.index.result.now [] (omega (arith, ready.within, c.in_ok-dependents.ensures.one_each))) in
    λ item. rw (same, c.deref_mut.ensures.value) (counted c.args.deps.now c.loop-item.listed c.loop-item.unmet.items
    (λ item. contains nat_cmp c.loop-item.ready item) c.in-Some.item c.loop-item.invariant c.in-Some.ensures.member
    c.in_ok-dependents.dependents.items c.in_ok-dependents.ensures.turned item)

pub loop-item-smaller : goal.loop-item-smaller
loop-item-smaller c =
    let ready : Ready c.args.deps.now c.loop-item.listed c.in-Some.item = taken_is_ready c.args.deps.now
    c.loop-item.listed c.loop-item.unmet.items (λ item. contains nat_cmp c.loop-item.ready item) c.in-Some.item
    c.loop-item.invariant c.in-Some.ensures.member in
    let pushed : c.push.new.self ≡ c.loop-item.listed ++ c.in-Some.item ∷ [] = c.in_ok-push.ensures.ok in
    let smaller : left_out c.push.new.self (length c.args.deps.now) < left_out c.loop-item.listed
    (length c.args.deps.now) =
    rw pushed (omega (
      arith,
      left_out_more c.loop-item.listed c.in-Some.item (length c.args.deps.now) ready.within
          ready.new,
    )) in
    smaller

pub loop-item-preserved : goal.loop-item-preserved
loop-item-preserved c =
    let ready : Ready c.args.deps.now c.loop-item.listed c.in-Some.item = taken_is_ready c.args.deps.now
    c.loop-item.listed c.loop-item.unmet.items (λ item. contains nat_cmp c.loop-item.ready item) c.in-Some.item
    c.loop-item.invariant c.in-Some.ensures.member in
    let same : c.as_slice.result.now ≡ dependents_of c.in_ok-dependents.dependents.items c.in-Some.item =
    c.as_slice.ensures ∙ (c.index.ensures ∙ get_or_default c.in_ok-dependents.dependents.items c.in-Some.item
    c.index.result.now [] (omega (arith, ready.within, c.in_ok-dependents.ensures.one_each))) in
    let pushed : c.push.new.self ≡ c.loop-item.listed ++ c.in-Some.item ∷ [] = c.in_ok-push.ensures.ok in
    let before : c.deref_mut.result.now ≡ c.loop-item.unmet.items = c.deref_mut.ensures.value in
    let same_length : length c.count_down.new.unmet ≡ length c.loop-item.unmet.items =
    c.count_down.auto.unmet ∙ ap length before in
    let whole : (with_items c.loop-item.unmet c.count_down.new.unmet).items ≡ c.count_down.new.unmet =
    with_items_is c.loop-item.unmet c.count_down.new.unmet (c.count_down.auto.unmet ∙ c.deref_mut.ensures.len) in
    rw (whole, pushed) (next_stage c.args.deps.now c.in_ok-dependents.dependents.items c.loop-item.listed
    c.loop-item.unmet.items c.count_down.new.unmet (λ item. contains nat_cmp c.loop-item.ready item)
    (λ item. contains nat_cmp c.count_down.new.ready item) c.in-Some.item
    c.loop-item.invariant c.in_ok-dependents.ensures.turned c.in-Some.ensures.member
    (λ item. rw (same, before) at (c.in_ok-count_down.ensures.counts item))
    (λ item. rw (c.in-Some.ensures.updates.0 item, same) at (c.in_ok-count_down.ensures.ready item))
    (λ item too. le_from_not_gt c.in-Some.item item (c.in-Some.ensures.least item too))
    same_length)
