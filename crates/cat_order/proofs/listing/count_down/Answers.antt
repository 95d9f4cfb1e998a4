use Rattle.std.proofs.Common.{◌≡◌, ◌∙◌, ◌==◌, ◌+◌, ◌-◌, ◌<◌, ◌≤◌, ◌&&◌, ◌||◌, ℕ, Bool, true, cond, List, length, take}
use Rattle.std.proofs.Common.{set, get_or, arith, sym, refl, subst}
use Rattle.std.proofs.lemmas.List.{length-set, get_or-set_other}
use Rattle.std.proofs.lemmas.Bool.{cases_eq, eq-eqb, ne_eqb}
use Rattle.std.proofs.lemmas.Bool.Decides.{nat_tests}
use Rattle.std.proofs.Math.Logic.{⊎_elim}
use Rattle.std.specs.Ordering.{nat_cmp, is_eq}
use Rattle.std.specs.BTreeSet.{contains}
use Rattle.cat_order.specs.Order.{times, is_listed}
use Rattle.cat_order.proofs.Counts.{times_take, times-take-le, within_of_positive, count_less}
use Rattle.cat_order.proofs.Stages.{is_eq-nat_cmp}
use Rattle.cat_order.proofs.listing.count_down.Goals as goal
use Rattle.cat_order.proofs.listing.count_down.Goals.{then-unmet-place-eq0+in_ok-insert, else-unmet-place-eq0}

-- an item that is still to be walked has a count left
positive : (items start unmet : List ℕ) (place : ℕ) → place < length items
    → ((item : ℕ) → times items item ≤ get_or start item 0)
    → ((item : ℕ) → get_or unmet item 0 + times (take place items) item ≡ get_or start item 0)
    → 0 < get_or unmet (get_or items place 0) 0
positive items start unmet place within enough counts =
    let x : ℕ = get_or items place 0 in
    let more : times (take (place + 1) items) (get_or items place 0) ≡ times (take place items) (get_or items place 0) +
    1 = grind (arith, nat_tests, times_take items place (get_or items place 0) within) in
    omega (
      arith,
      more,
      times-take-le items (place + 1) (get_or items place 0),
      enough (get_or items place 0),
      counts (get_or items place 0),
    )

pub bounds-unmet-place : goal.bounds-unmet-place
bounds-unmet-place c = within_of_positive c.loop-item.unmet _
    (positive c.args.items.now c.args.unmet.now c.loop-item.unmet c.loop-item.item-index c.loop-item-test.true
    c.requires
    c.loop-item.invariant.counts)

pub overflow_sub-unmet : goal.overflow_sub-unmet
overflow_sub-unmet c = positive c.args.items.now c.args.unmet.now c.loop-item.unmet c.loop-item.item-index
    c.loop-item-test.true c.requires c.loop-item.invariant.counts

pub bounds-unmet-place-in-loop-item : goal.bounds-unmet-place-in-loop-item
bounds-unmet-place-in-loop-item c = within_of_positive c.loop-item.unmet _
    (positive c.args.items.now c.args.unmet.now c.loop-item.unmet c.loop-item.item-index c.loop-item-test.true
    c.requires
    c.loop-item.invariant.counts)

pub bounds-unmet-place-in-loop-item-2 : goal.bounds-unmet-place-in-loop-item-2
bounds-unmet-place-in-loop-item-2 c = rw length-set
    (within_of_positive c.loop-item.unmet _ (positive c.args.items.now c.args.unmet.now c.loop-item.unmet
    c.loop-item.item-index c.loop-item-test.true c.requires c.loop-item.invariant.counts))

-- one item more is walked
module _ (items start unmet : List ℕ) (place : ℕ) (within : place < length items)
    (enough : (item : ℕ) → times items item ≤ get_or start item 0)
    (counts : (item : ℕ) → get_or unmet item 0 + times (take place items) item ≡ get_or start item 0) where
  abbrev x : ℕ
  x = get_or items place 0

  abbrev lowered : List ℕ
  lowered = set unmet x (get_or unmet x 0 - 1)

  lowered_counts : (item : ℕ) → get_or lowered item 0 + times (take (place + 1) items) item ≡ get_or start item 0
  lowered_counts item =
      let some : 0 < get_or unmet x 0 = positive items start unmet place within enough counts in
      omega (
        arith,
        counts item,
        times_take items place item within,
        count_less unmet x item (within_of_positive unmet x some) some,
      )

  module _ (first ready after : ℕ → Bool)
      (sofar : (item : ℕ)
      → ready item ≡ (first item || (is_listed (take place items) item && (get_or unmet item 0 == 0)))) where
    others : (item : ℕ) → (x ≡ item → ⊥) → after item ≡ ready item
        → after item ≡ (first item || (is_listed (take (place + 1) items) item && (get_or lowered item 0 == 0)))
    others item other same =
        let as_before : times (take (place + 1) items) item ≡ times (take place items) item =
        grind (arith, nat_tests, times_take items place item within) in
        let left : get_or lowered item 0 ≡ get_or unmet item 0 =
        get_or-set_other unmet x item (get_or unmet x 0 - 1) 0 (λ e. other (sym e)) in
        rw (as_before, left) (same ∙ sofar item)

    at_zero : get_or lowered x 0 ≡ 0 → after x ≡ true
        → after x ≡ (first x || (is_listed (take (place + 1) items) x && (get_or lowered x 0 == 0)))
    at_zero zero entered = grind (arith, nat_tests, times_take items place x within)

    above_zero : (0 < get_or lowered x 0) → after x ≡ ready x
        → after x ≡ (first x || (is_listed (take (place + 1) items) x && (get_or lowered x 0 == 0)))
    above_zero above same =
        let some : 0 < get_or unmet x 0 = positive items start unmet place within enough counts in
        grind (arith, nat_tests, sofar x)

    inserted : get_or lowered x 0 ≡ 0 → ((item : ℕ) → after item ≡ cond (is_eq (nat_cmp x item)) true (ready item))
        → (item : ℕ)
        → after item ≡ (first item || (is_listed (take (place + 1) items) item && (get_or lowered item 0 == 0)))
    inserted zero enters item = ⊎_elim
        (λ here. subst
        (λ (n : ℕ). after n ≡ (first n || (is_listed (take (place + 1) items) n && (get_or lowered n 0 == 0)))) here
        (at_zero zero (enters x ∙ rw (is_eq-nat_cmp x x, eq-eqb x x refl) refl)))
        (λ other. others item other (enters item ∙ rw (is_eq-nat_cmp x item, ne_eqb x item other) refl))
        (cases_eq x item)

    kept : (get_or lowered x 0 ≡ 0 → ⊥) → ((item : ℕ) → after item ≡ ready item) → (item : ℕ)
        → after item ≡ (first item || (is_listed (take (place + 1) items) item && (get_or lowered item 0 == 0)))
    kept above same item = ⊎_elim
        (λ here. subst
        (λ (n : ℕ). after n ≡ (first n || (is_listed (take (place + 1) items) n && (get_or lowered n 0 == 0)))) here
        (above_zero (omega arith) (same x)))
        (λ other. others item other (same item))
        (cases_eq x item)

pub loop-item-preserved : goal.loop-item-preserved
loop-item-preserved c = record {
  counts = lowered_counts c.args.items.now c.args.unmet.now c.loop-item.unmet c.loop-item.item-index
      c.loop-item-test.true c.requires c.loop-item.invariant.counts;
  ready = elim c.if-unmet-place-eq0.branch [
    | then-unmet-place-eq0+in_ok-insert w ↦
        inserted c.args.items.now c.args.unmet.now c.loop-item.unmet c.loop-item.item-index c.loop-item-test.true
        c.requires c.loop-item.invariant.counts
        (λ item. contains nat_cmp c.args.ready.now item) (λ item. contains nat_cmp c.loop-item.ready item)
        (λ item. contains nat_cmp c.if-unmet-place-eq0.ready item) c.loop-item.invariant.ready
        w.if-unmet-place-eq0.true (rw w.ready-is w.in_ok-insert.ensures.updates.0)
    | else-unmet-place-eq0 w ↦
        kept c.args.items.now c.args.unmet.now c.loop-item.unmet c.loop-item.item-index c.loop-item-test.true c.requires
        c.loop-item.invariant.counts
        (λ item. contains nat_cmp c.args.ready.now item) (λ item. contains nat_cmp c.loop-item.ready item)
        (λ item. contains nat_cmp c.if-unmet-place-eq0.ready item) c.loop-item.invariant.ready
        w.if-unmet-place-eq0.false (rw w.ready-is (λ item. refl))
  ];
}
