use Rattle.std.proofs.Common.{rules, ◌≡◌, ◌∙◌}
use Rattle.std.specs.Vec.{with_items}
use Rattle.std.proofs.lemmas.List.{with_items_is}
use Rattle.cat_verify.proofs.StampLemmas.{first_way_as, next_way, last_way_as}
use Rattle.cat_verify.proofs.RoomLemmas.{less_way}
use Rattle.cat_verify.proofs.stamps.stamps_of.Goals as goal

pub loop-arrival-init : goal.loop-arrival-init
loop-arrival-init c = first_way_as c.args.code.now c.args.starts.now c.args.calls.now _ _ (search rules) (search rules)

pub loop-arrival-smaller : goal.loop-arrival-smaller
loop-arrival-smaller c =
    let written : (with_items c.loop-arrival.marks c.spread.new.marks).items ≡ c.spread.new.marks =
    with_items_is c.loop-arrival.marks c.spread.new.marks (c.spread.auto.marks ∙ c.deref_mut.ensures.len) in
    less_way c.args.code.now c.args.starts.now c.args.calls.now c.loop-arrival.marks.items
    c.deref_mut.result.now c.spread.new.marks (with_items c.loop-arrival.marks c.spread.new.marks).items
    c.loop-arrival.waiting c.pop.new.self
    c.spread.new.waiting c.in-Some.arrival c.loop-arrival.invariant c.in-Some.ensures c.deref_mut.ensures.value
    c.in_ok-spread.ensures written

pub loop-arrival-preserved : goal.loop-arrival-preserved
loop-arrival-preserved c =
    let written : (with_items c.loop-arrival.marks c.spread.new.marks).items ≡ c.spread.new.marks =
    with_items_is c.loop-arrival.marks c.spread.new.marks (c.spread.auto.marks ∙ c.deref_mut.ensures.len) in
    next_way c.args.code.now c.args.starts.now c.args.calls.now c.loop-arrival.marks.items
    c.deref_mut.result.now c.spread.new.marks (with_items c.loop-arrival.marks c.spread.new.marks).items
    c.loop-arrival.waiting c.pop.new.self
    c.spread.new.waiting c.in-Some.arrival c.loop-arrival.invariant c.in-Some.ensures c.deref_mut.ensures.value
    c.in_ok-spread.ensures written

pub returns : goal.returns
returns c =
    last_way_as c.args.code.now c.args.starts.now c.args.calls.now c.loop-arrival.marks.items c.loop-arrival.waiting
    c.loop-arrival.invariant c.in_default.ensures.0
