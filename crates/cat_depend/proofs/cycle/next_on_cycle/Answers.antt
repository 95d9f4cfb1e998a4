use Rattle.std.proofs.Common.{◌≡◌, ◌<◌, ◌≤◌, ◌∙◌, ℕ, List, [], length, get_or, true, false, subst, sym, ap}
use Rattle.std.proofs.Common.{IsTrue}
use Rattle.std.proofs.lemmas.List.{with_items_is, take_all}
use Rattle.std.specs.Vec.{with_items}
use Rattle.cat_order.specs.Order.{dependencies_of, is_listed}
use Rattle.cat_depend.specs.inside.Searching.{is_marked, Finds}
use Rattle.cat_depend.proofs.Cycles.{within_of_IsOnCycle}
use Rattle.cat_depend.proofs.Listing.{listed_at}
use Rattle.cat_depend.proofs.Searching as way
use Rattle.cat_depend.proofs.cycle.next_on_cycle.Goals as goal

pub bounds-deps-start : goal.bounds-deps-start
bounds-deps-start c = within_of_IsOnCycle c.args.deps.now c.args.start c.requires.on_cycle

pub leads_to-requires-clause-from : goal.leads_to-requires-clause-from
leads_to-requires-clause-from c =
    let start = within_of_IsOnCycle c.args.deps.now c.args.start c.requires.on_cycle in
    let next : c.as_slice-next-items.result.now ≡ dependencies_of c.args.deps.now c.args.start =
    way.starting c.args.deps.now c.args.start c.requires.on_cycle c.as_slice-next-items.result.now
    c.index-deps-start.result c.as_slice-next-items.ensures c.index-deps-start.is in
    rw next (c.requires.items c.args.start [] start c.loop-next.next-index 0
    (subst (λ (ns : List ℕ). c.loop-next.next-index < length ns) next c.loop-next-test.true))

pub returns-then-branch : goal.returns-then-branch
returns-then-branch c =
    let next : c.as_slice-next-items.result.now ≡ dependencies_of c.args.deps.now c.args.start =
    way.starting c.args.deps.now c.args.start c.requires.on_cycle c.as_slice-next-items.result.now
    c.index-deps-start.result c.as_slice-next-items.ensures c.index-deps-start.is in (
      rw (sym next) (listed_at c.as_slice-next-items.result.now c.loop-next.next-index 0 c.loop-next-test.true),
      subst (λ b. Finds c.args.deps.now c.args.start
          (get_or c.as_slice-next-items.result.now c.loop-next.next-index 0) c.deref_mut.result.now
          c.leads_to.new.marks b)
          c.if-branch.true c.in_ok-leads_to.ensures,
    )

pub loop-next-preserved : goal.loop-next-preserved
loop-next-preserved c =
    let next : c.as_slice-next-items.result.now ≡ dependencies_of c.args.deps.now c.args.start =
    way.starting c.args.deps.now c.args.start c.requires.on_cycle c.as_slice-next-items.result.now
    c.index-deps-start.result c.as_slice-next-items.ensures c.index-deps-start.is in
    let marks : (with_items c.loop-next.marks c.leads_to.new.marks).items ≡ c.leads_to.new.marks =
    with_items_is c.loop-next.marks c.leads_to.new.marks (c.leads_to.auto.marks ∙ c.deref_mut.ensures.len) in
    let found : Finds c.args.deps.now c.args.start
    (get_or c.as_slice-next-items.result.now c.loop-next.next-index 0) c.deref_mut.result.now c.leads_to.new.marks
    false = subst (λ b. Finds c.args.deps.now c.args.start
    (get_or c.as_slice-next-items.result.now c.loop-next.next-index 0) c.deref_mut.result.now c.leads_to.new.marks b)
    c.if-branch.false c.in_ok-leads_to.ensures in
    rw marks (record {
      searched = found.0;
      passed = way.passed_more (dependencies_of c.args.deps.now c.args.start) c.loop-next.next-index
          c.loop-next.marks.items c.leads_to.new.marks
          (subst (λ (ns : List ℕ). c.loop-next.next-index < length ns) next c.loop-next-test.true)
          c.loop-next.invariant.passed
          (λ n h. found.2 n (ap (λ bs. is_marked bs n) c.deref_mut.ensures.value ∙ h))
          (subst (λ (ns : List ℕ). is_marked c.leads_to.new.marks (get_or ns c.loop-next.next-index 0) ≡ true) next
          found.1);
    })

pub unreachable-requires : goal.unreachable-requires
unreachable-requires c =
    let next : c.as_slice-next-items.result.now ≡ dependencies_of c.args.deps.now c.args.start =
    way.starting c.args.deps.now c.args.start c.requires.on_cycle c.as_slice-next-items.result.now
    c.index-deps-start.result c.as_slice-next-items.ensures c.index-deps-start.is in
    let all = take_all c.loop-next.next-index (dependencies_of c.args.deps.now c.args.start)
    (subst (λ (ns : List ℕ). length ns ≤ c.loop-next.next-index) next c.loop-next-test.false) in
    way.no_cycle c.args.deps.now c.args.start c.loop-next.marks.items c.loop-next.invariant.searched
    (λ n on. c.loop-next.invariant.passed n (subst (λ ns. IsTrue (is_listed ns n)) (sym all) on)) c.requires.on_cycle
